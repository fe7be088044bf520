-- `scan_block` meets its contract: before edge e it has what the scan has.
use mathlib.Core.Path.{ap, ◌∙◌}
use Rattle.plan_search.specs.Between.{winner_in}
use Rattle.plan_search.proofs.Laws.Min.{min_second}
use Rattle.plan_search.proofs.Laws.Scan.{capped_is}
use Rattle.plan_search.proofs.Laws.Loops.{scanning_start, scanning_look, scanning_pass, scanning_low, scanning_end}
use Rattle.plan_search.proofs.scan_block.Goals as goal
use Rattle.plan_search.proofs.scan_block.Goals.{then-at-limit, else-at-limit}

pub loop-e-init : goal.loop-e-init
loop-e-init c =
    let small = c.requires in
    scanning_start _ _ _ _ _ _ small (rw (capped_is _ small) at c.limit_of-limit.ensures)

pub loop-e-preserved : goal.loop-e-preserved
loop-e-preserved c =
    let taken = c.loop-e-test.true in
    let read = c.at.ensures in
    let again = c.at-in-loop-e.ensures in
    let low = c.min-low.ensures ∙ min_second _ _ in
    let capped = capped_is _ c.loop-e.invariant.small in
    elim c.if-at-limit.branch [
      | then-at-limit w ↦ scanning_look c.loop-e.invariant taken read w.if-at-limit.true w.look-winner.ensures.result_value w.look-winner.ensures.keys_value (ap winner_in w.winner-is) (w.limit-is ∙ rw capped at w.limit_of-limit-then-at-limit.ensures) w.keys-is again low
      | else-at-limit w ↦ scanning_pass c.loop-e.invariant taken read w.if-at-limit.false (ap winner_in w.winner-is) w.limit-is w.keys-is again low
    ]

pub returns : goal.returns
returns c =
    let end = scanning_end c.loop-e.invariant c.loop-e-test.false in
    record { best_value = end.0; keys_value = end.1; low_value = scanning_low c.loop-e.invariant c.loop-e-test.false }
