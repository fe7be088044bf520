-- `is_keep` meets its contract: an arm for each mark.
use native.Mathlib.Omega.{arith}
use mathlib.Core.Path.{sym}
use borrow.Author.Tests.{le-leb, lt-leb}
use Rattle.why_core.proofs.parted.is_keep.Goals as goal

-- 0
pub returns-in-0 : goal.returns-in-0
returns-in-0 c = sym (lt-leb 2 c.args.mark (omega arith))

-- 1
pub returns-in-1 : goal.returns-in-1
returns-in-1 c = sym (lt-leb 2 c.args.mark (omega arith))

-- 2
pub returns-in-2 : goal.returns-in-2
returns-in-2 c = sym (le-leb 2 c.args.mark (omega arith))

-- above
pub returns-in_default : goal.returns-in_default
returns-in_default c = sym (le-leb 2 c.args.mark (omega (arith)))
