-- `marks_but` meets its contract: it stores at rising places.
use Prim.Native.Nat.{ℕ}
use mathlib.Core.Path.{refl, ap, sym, ◌∙◌}
use lib.ListN.{length, replicate, length-replicate}
use Rattle.base_limits.specs.Limits.{max_edges}
use Rattle.base_buffer.specs.Store.{remade}
use Rattle.base_buffer.proofs.Laws.Store.{length_remade, remade_more, remade_end}
use Rattle.why_core.proofs.parted.marks_but.Goals as goal

pub loop-e-init : goal.loop-e-init
unfolding remade
loop-e-init c = refl

pub slice_bounds-put-end : goal.slice_bounds-put-end
slice_bounds-put-end c = sym (ap length c.loop-e.invariant ∙ length_remade _ _ (replicate max_edges 0) ∙ length-replicate {A = ℕ} max_edges 0)

pub loop-e-preserved : goal.loop-e-preserved
loop-e-preserved c = c.put.ensures ∙ remade_more _ _ _ _ _ c.loop-e.invariant c.mark_but.ensures

pub returns : goal.returns
returns c = c.loop-e.invariant ∙ remade_end _ _ _ _ c.loop-e.auto.e-end c.loop-e-test.false
