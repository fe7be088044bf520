-- `drop_all` meets its contract: it stores at rising places.
use Rattle.plan_drop.specs.Dropped.{dropped_marks}
use Rattle.plan_drop.specs.Laws.Dropped.{dropped_counts_law, bool_counts}
use Rattle.base_buffer.specs.Store.{remade}
use Rattle.base_buffer.proofs.Laws.Store.{remade_more, remade_end}
use Rattle.std.proofs.Common.{refl, sym, ◌∙◌}
use Rattle.plan_drop.proofs.dropped.drop_all.Goals as goal

pub loop-e-init : goal.loop-e-init
unfolding remade
loop-e-init c = refl

pub loop-e-preserved : goal.loop-e-preserved
loop-e-preserved c =
    c.put.ensures ∙ remade_more _ _ _ _ _ c.loop-e.invariant (c.from.ensures ∙ rw c.is_picked.ensures (bool_counts _ ∙ sym (dropped_counts_law _)))

pub returns : goal.returns
unfolding dropped_marks
returns c = c.loop-e.invariant ∙ remade_end _ _ _ _ c.loop-e.auto.e-end c.loop-e-test.false
