-- `find_winner` meets its contract: before block b it has what the passes have.
use mathlib.Core.Path.{refl}
use Rattle.plan_search.specs.Scan.{blocks_of}
use Rattle.plan_search.specs.Between.{winner_in}
use Rattle.plan_search.proofs.Laws.Scan.{capped_is, capped_small}
use Rattle.plan_search.proofs.Laws.Loops.{next_less, passing_next, passing_start, block_starts, passing_look, passing_end}
use Rattle.plan_search.proofs.find_winner.Goals as goal

pub loop-b-init : goal.loop-b-init
unfolding winner_in
loop-b-init c = passing_next c.next_block-b.ensures (passing_start _ _ _ _ _)

pub pass_block-best-requires : goal.pass_block-best-requires
pass_block-best-requires c = record { time_lt_time_limit = capped_small _ c.capped_time-capped.ensures; b_in_bounds = block_starts _ _ c.loop-b-test.true }

pub loop-b-smaller : goal.loop-b-smaller
loop-b-smaller c = next_less _ _ _ _ _ c.loop-b-test.true c.next_block-b-in-loop-b.ensures

pub loop-b-preserved : goal.loop-b-preserved
loop-b-preserved c =
    let taken = c.loop-b-test.true in
    let capped = capped_is _ (capped_small _ c.capped_time-capped.ensures) in
    passing_next
    c.next_block-b-in-loop-b.ensures
    (passing_look c.loop-b.invariant.passing taken refl (c.loop-b.invariant.below taken) c.pass_block-best.ensures.result_value c.pass_block-best.ensures.keys_value c.pass_block-best.ensures.floors_value refl (rw capped at c.limit_of-limit.ensures) refl)

pub returns : goal.returns
unfolding blocks_of
returns c = record { result_value = (passing_end c.loop-b.invariant.passing _ c.capped_time-capped.ensures c.loop-b-test.false).0; keys_value = (passing_end c.loop-b.invariant.passing _ c.capped_time-capped.ensures c.loop-b-test.false).1.0; floors_value = (passing_end c.loop-b.invariant.passing _ c.capped_time-capped.ensures c.loop-b-test.false).1.1 }
