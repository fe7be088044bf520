-- `collect_pairs` meets its contract: one more row in each turn (`pairs_turn`).
use native.Mathlib.Omega.{arith}
use Rattle.merge_core.specs.Laws.Pairs.{pairs_start, pairs_few, pairs_turn, pairs_end}
use Rattle.merge_core.proofs.pairs.collect_pairs.Goals as goal

pub loop-w-init : goal.loop-w-init
loop-w-init c = pairs_start _ _ _ _ _

pub append_row-count-requires : goal.append_row-count-requires
append_row-count-requires c = let below = c.loop-w-test.true in let most = pairs_few c.loop-w.invariant in record { count_bound = omega (arith, c.requires, below, most); w_bound = omega (arith, c.requires, below) }

pub loop-w-preserved : goal.loop-w-preserved
loop-w-preserved c = pairs_turn c.loop-w.invariant c.loop-w-test.true c.find_in-v.ensures c.row_of-row.ensures (c.append_row-count.ensures.value, c.append_row-count.ensures.pairs_value)

pub returns : goal.returns
returns c = let whole = pairs_end c.loop-w.invariant c.loop-w-test.false in record { result_value = whole.0; pairs_value = whole.1 }
