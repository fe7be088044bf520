-- `turn_all` meets its contract: it stores at rising places.
use Rattle.plan_drop.specs.Word.{turned, turned_all}
use Rattle.base_buffer.proofs.Laws.Store.{remade_more, remade_end}
use Rattle.base_buffer.specs.Store.{remade}
use Rattle.std.proofs.Common.{get_or, refl, ◌∙◌}
use Rattle.plan_drop.proofs.taken.turn_all.Goals as goal

pub loop-w-init : goal.loop-w-init
unfolding remade
loop-w-init c = refl

pub loop-w-preserved : goal.loop-w-preserved
loop-w-preserved c =
    let args = c.args in
    remade_more (λ w. turned args.x args.y args.delta args.own (get_or args.labels.now w 0)) _ _ _ _ c.loop-w.invariant
    (c.turn.ensures ∙ rw c.at.ensures)

pub returns : goal.returns
unfolding turned_all
returns c = c.loop-w.invariant ∙ remade_end _ _ _ _ c.loop-w.auto.w-end c.loop-w-test.false
