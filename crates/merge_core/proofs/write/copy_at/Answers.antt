-- `copy_at` meets its contract: one more store in each turn (`run_more`).
use native.Mathlib.Omega.{arith}
use mathlib.Core.Path.{refl, ◌∙◌}
use Rattle.merge_core.specs.Laws.Stored.{run_more, run_end}
use Rattle.merge_core.proofs.write.copy_at.Goals as goal

pub loop-i-init : goal.loop-i-init
loop-i-init c = (omega arith, refl)

pub loop-i-preserved : goal.loop-i-preserved
loop-i-preserved c = (omega arith, c.put.ensures ∙ run_more _ _ _ _ c.loop-i.invariant.1 c.loop-i-test.true refl)

pub returns : goal.returns
returns c = run_end _ _ _ _ c.loop-i.invariant.1 c.loop-i-test.false
