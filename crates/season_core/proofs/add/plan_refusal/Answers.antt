-- `plan_refusal` meets its contract: by the surveys, then by each sum.
use native.Mathlib.Omega.{arith}
use Prim.Native.Nat.{◌+◌}
use borrow.Author.Tests.{le-leb, lt-leb}
use Rattle.base_limits.specs.Verdict.{refuse_if}
use Rattle.season_rule.specs.Report.{max_surveys, word_limit}
use Rattle.season_core.specs.Room.{plan_refusal}
use Rattle.season_core.proofs.add.plan_refusal.Goals as goal

pub returns-then-surveys-ge-MAX_SURVEYS : goal.returns-then-surveys-ge-MAX_SURVEYS
unfolding plan_refusal refuse_if
returns-then-surveys-ge-MAX_SURVEYS c =
    let a = c.args in
    rw (le-leb max_surveys a.surveys (omega arith))

pub returns-then-planned-ge-WORD_MAX : goal.returns-then-planned-ge-WORD_MAX
unfolding plan_refusal refuse_if
returns-then-planned-ge-WORD_MAX c =
    let a = c.args in
    rw (lt-leb max_surveys a.surveys (omega arith), le-leb word_limit (a.planned + 1) (omega arith))

pub returns-then-costs-cost : goal.returns-then-costs-cost
unfolding plan_refusal refuse_if
returns-then-costs-cost c =
    let a = c.args in
    rw (lt-leb max_surveys a.surveys (omega arith), lt-leb word_limit (a.planned + 1) (omega arith), le-leb word_limit (a.costs + a.cost) (omega arith))

pub returns-then-bounds-bound : goal.returns-then-bounds-bound
unfolding plan_refusal refuse_if
returns-then-bounds-bound c =
    let a = c.args in
    rw (lt-leb max_surveys a.surveys (omega arith), lt-leb word_limit (a.planned + 1) (omega arith), lt-leb word_limit (a.costs + a.cost) (omega arith), le-leb word_limit (a.bounds + a.bound) (omega arith))

pub returns : goal.returns
unfolding plan_refusal refuse_if
returns c =
    let a = c.args in
    rw (lt-leb max_surveys a.surveys (omega arith), lt-leb word_limit (a.planned + 1) (omega arith), lt-leb word_limit (a.costs + a.cost) (omega arith), lt-leb word_limit (a.bounds + a.bound) (omega arith))
