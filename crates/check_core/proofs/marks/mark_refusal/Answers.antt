-- `mark_refusal` meets its contract: 0, 1 and 2 are not above 2.
use native.Mathlib.Omega.{arith}
use mathlib.Core.Path.{sym}
use borrow.Author.Tests.{le-ltb, lt-ltb}
use Rattle.base_limits.specs.Laws.Verdict.{refuse_true, refuse_false}
use Rattle.check_core.proofs.marks.mark_refusal.Goals as goal

-- 0
pub returns-in-0 : goal.returns-in-0
returns-in-0 c = sym (refuse_false (le-ltb 2 c.args.mark (omega arith)) 10 _)

-- 1
pub returns-in-1 : goal.returns-in-1
returns-in-1 c = sym (refuse_false (le-ltb 2 c.args.mark (omega arith)) 10 _)

-- 2
pub returns-in-2 : goal.returns-in-2
returns-in-2 c = sym (refuse_false (le-ltb 2 c.args.mark (omega arith)) 10 _)

-- 10
pub returns-in_default : goal.returns-in_default
returns-in_default c = sym (refuse_true (lt-ltb 2 c.args.mark (omega (arith))) 10 _)
