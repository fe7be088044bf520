-- `judge_edges` meets its contract: after e edges their marks are judged, and the index is that of the next picked one.
use Rattle.plan_drop.specs.Laws.Needed.{marks_more}
use Rattle.plan_drop.specs.Laws.Word.{count_start, next_index}
use Rattle.plan_drop.specs.Needed.{judged}
use Rattle.survey_components.specs.Labels.{picked_in}
use Rattle.base_buffer.specs.Store.{remade}
use Rattle.base_buffer.proofs.Laws.Store.{remade_end}
use Rattle.base_finite.specs.Laws.Below.{count_le}
use Rattle.std.proofs.Common.{refl, ◌∙◌, arith}
use Rattle.plan_drop.proofs.judge.judge_edges.Goals as goal

pub loop-e-init : goal.loop-e-init
unfolding remade
loop-e-init c =
    (count_start _, refl)

pub judge_edge-i-requires : goal.judge_edge-i-requires
judge_edge-i-requires c =
    omega (arith, count_le c.loop-e.e (picked_in c.args.picked.now))

pub loop-e-preserved : goal.loop-e-preserved
loop-e-preserved c =
    let args = c.args in
    let inv = c.loop-e.invariant in (
      next_index _ _ inv.0 c.judge_edge-i.ensures.index,
      marks_more (picked_in args.picked.now) (judged c.parted-bits.result args.base) _ _ _ inv.1 inv.0 c.judge_edge-i.ensures.marks_are,
    )

pub returns : goal.returns
returns c =
    rw (← c.parted-bits.ensures) (c.loop-e.invariant.1 ∙ remade_end _ _ _ _ c.loop-e.auto.e-end c.loop-e-test.false)
