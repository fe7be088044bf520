-- `count_refusal` meets its contract: by the surveys, then by the count.
use native.Mathlib.Omega.{arith}
use Prim.Native.Nat.{◌+◌}
use borrow.Author.Tests.{le-leb, lt-leb}
use Rattle.base_limits.specs.Verdict.{refuse_if}
use Rattle.season_rule.specs.Report.{max_surveys, word_limit}
use Rattle.season_core.specs.Room.{count_refusal}
use Rattle.season_core.proofs.add.count_refusal.Goals as goal

pub returns-then-surveys-ge-MAX_SURVEYS : goal.returns-then-surveys-ge-MAX_SURVEYS
unfolding count_refusal refuse_if
returns-then-surveys-ge-MAX_SURVEYS c = rw (le-leb max_surveys c.args.surveys (omega arith))

pub returns-then-count-ge-WORD_MAX : goal.returns-then-count-ge-WORD_MAX
unfolding count_refusal refuse_if
returns-then-count-ge-WORD_MAX c =
    let a = c.args in
    rw (lt-leb max_surveys a.surveys (omega arith), le-leb word_limit (a.count + 1) (omega arith))

pub returns : goal.returns
unfolding count_refusal refuse_if
returns c =
    let a = c.args in
    rw (lt-leb max_surveys a.surveys (omega arith), lt-leb word_limit (a.count + 1) (omega arith))
