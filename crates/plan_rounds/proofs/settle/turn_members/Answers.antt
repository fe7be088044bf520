-- `turn_members` meets its contract: before vertex v it has turned those below v.
use Rattle.std.proofs.Common.{refl, ◌∙◌, arith}
use Rattle.base_buffer.specs.Store.{remade}
use Rattle.base_buffer.proofs.Laws.Store.{remade_end}
use Rattle.plan_rounds.specs.Tables.{turned_members}
use Rattle.plan_rounds.specs.Laws.Loads.{member_turned, member_passed}
use Rattle.plan_rounds.proofs.settle.turn_members.Goals as goal
use Rattle.plan_rounds.proofs.settle.turn_members.Goals.{then-at-c, else-at-c}

pub loop-v-init : goal.loop-v-init
unfolding turned_members remade
loop-v-init c = (omega arith, refl)

pub loop-v-preserved : goal.loop-v-preserved
loop-v-preserved c =
    let made = c.loop-v.invariant.1 in (
      omega arith,
      elim c.if-at-c.branch [
        | then-at-c w ↦ member_turned _ _ _ _ _ made c.at.ensures w.if-at-c.true (w.loads-is ∙ w.turn_load.ensures)
        | else-at-c w ↦ member_passed _ _ _ _ _ made c.at.ensures w.if-at-c.false w.loads-is
      ],
    )

pub returns : goal.returns
unfolding turned_members
returns c = c.loop-v.invariant.1 ∙ remade_end _ _ _ _ (omega arith) (omega arith)
