-- `load_refusal` meets its contract: the test is the definition's.
use Prim.Native.Nat.{◌*◌}
use native.Mathlib.Omega.{arith}
use mathlib.Core.Path.{◌≡◌, sym}
use borrow.Author.Tests.{le-ltb, lt-ltb}
use Rattle.base_limits.specs.Laws.Verdict.{refuse_true, refuse_false}
use Rattle.check_core.specs.Moats.{load_between}
use Rattle.check_core.proofs.moats.load_refusal.Goals as goal

pub load_between-load-requires : goal.load_between-load-requires
load_between-load-requires c = c.requires

-- 13
pub returns-then-from-load : goal.returns-then-from-load
returns-then-from-load c = let args = c.args in
    let dual_load : c.load_between-load.result ≡ load_between args.records.now args.first args.second =
    c.load_between-load.ensures in
    sym (refuse_true (lt-ltb (2 * args.weight) (load_between args.records.now args.first args.second) (omega arith)) 13 _)

-- nothing wrong
pub returns : goal.returns
returns c = let args = c.args in
    let dual_load : c.load_between-load.result ≡ load_between args.records.now args.first args.second =
    c.load_between-load.ensures in
    sym (refuse_false (le-ltb (2 * args.weight) (load_between args.records.now args.first args.second) (omega arith)) 13 _)
