-- `limit_of` meets its contract: each return by the variants and the test that led there.
use borrow.Author.Tests.{lt-ltb, le-ltb}
use Rattle.plan_search.specs.Scan.{limit_of}
use Rattle.plan_search.proofs.Laws.Scan.{capped_small}
use Rattle.plan_search.specs.Between.{winner_in}
use native.Mathlib.Omega.{arith}
use Rattle.plan_search.proofs.limit.limit_of.Goals as goal

-- no candidate so far
pub returns-in_default : goal.returns-in_default
unfolding limit_of winner_in
returns-in_default c = rw c.in_default.is

pub overflow_add-result : goal.overflow_add-result
overflow_add-result c =
    let small = capped_small _ c.capped_time.ensures in
    let near = c.if-d-lt-TIME_LIMIT.true in
    record { fits = omega arith }

pub overflow_mul-result : goal.overflow_mul-result
overflow_mul-result c =
    let small = capped_small _ c.capped_time.ensures in
    let near = c.if-d-lt-TIME_LIMIT.true in
    record { fits = omega arith }

-- the sum fits
pub returns-then-d-lt-TIME_LIMIT : goal.returns-then-d-lt-TIME_LIMIT
unfolding limit_of winner_in
returns-then-d-lt-TIME_LIMIT c = rw (c.in-Some.is, lt-ltb _ _ c.if-d-lt-TIME_LIMIT.true, c.capped_time.ensures)

-- a delay past every time
pub returns : goal.returns
unfolding limit_of winner_in
returns c = rw (c.in-Some.is, le-ltb _ _ c.if-d-lt-TIME_LIMIT.false)
