-- `mark_pairs` meets its contract: one more pair in each turn (`paired_more`).
use native.Mathlib.Omega.{arith}
use Rattle.merge_core.specs.Laws.Row.{paired_none, paired_more, paired_end}
use Rattle.merge_core.proofs.row.mark_pairs.Goals as goal

pub loop-i-init : goal.loop-i-init
loop-i-init c = (omega arith, paired_none _ _ _ _)

pub loop-i-preserved : goal.loop-i-preserved
loop-i-preserved c = (omega arith, paired_more _ _ _ _ _ c.loop-i.invariant.1 c.at.ensures c.at-in-loop-i.ensures c.mark_if.ensures)

pub returns : goal.returns
returns c = paired_end _ _ _ _ _ c.loop-i.invariant.1 (omega arith)
