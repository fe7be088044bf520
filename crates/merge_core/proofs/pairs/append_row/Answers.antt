-- `append_row` meets its contract: one more flag in each turn (`row_turn`).
use native.Mathlib.Omega.{arith}
use mathlib.Core.Path.{refl}
use Rattle.merge_core.specs.Laws.Pairs.{row_start, row_turn, row_end, length_row}
use Rattle.merge_core.proofs.pairs.append_row.Goals as goal

pub loop-g-init : goal.loop-g-init
loop-g-init c = row_start _ _ _ _

pub append_if-next-requires : goal.append_if-next-requires
append_if-next-requires c = let few = c.requires.count_bound in let below = c.loop-g-test.true in omega (arith, few, below, c.loop-g.invariant.counts, length_row c.args.row.now c.args.w c.loop-g.g)

pub loop-g-preserved : goal.loop-g-preserved
loop-g-preserved c = row_turn c.loop-g.invariant c.loop-g-test.true refl refl (c.append_if-next.ensures.value, c.append_if-next.ensures.pairs_value)

pub returns : goal.returns
returns c = let whole = row_end c.loop-g.invariant c.loop-g-test.false in record { value = whole.0; pairs_value = whole.1 }
