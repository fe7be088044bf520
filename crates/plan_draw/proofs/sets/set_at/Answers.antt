-- `set_at` meets its contract: each return by the test that led there.
use mathlib.Core.Path.{sym}
use mathlib.Core.List.{[]}
use lib.ListN.{get_or-eq_default}
use Rattle.plan_draw.specs.Members.{no_member}
use Rattle.plan_draw.proofs.Laws.Members.{at_any}
use native.Mathlib.Omega.{arith}
use Rattle.plan_draw.proofs.sets.set_at.Goals as goal

-- a round within the limits
pub returns-then-k-sets : goal.returns-then-k-sets
returns-then-k-sets c = at_any c.args.sets.now c.args.k [] no_member (omega arith)

-- no such round
pub returns : goal.returns
returns c = sym (get_or-eq_default c.args.sets.now no_member {n = c.args.k} (omega arith))
