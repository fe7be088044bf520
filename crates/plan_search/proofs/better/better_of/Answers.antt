-- `better_of` meets its contract: each return by the variants and the test that led there.
use borrow.Author.Tests.{lt-ltb, le-ltb}
use Rattle.theory_steiner.specs.Growth.{better}
use Rattle.plan_search.specs.Between.{delay_in, winner_in}
use Rattle.plan_search.proofs.better.better_of.Goals as goal

-- no candidate yet, and none now
pub returns-in_default-delay : goal.returns-in_default-delay
unfolding better delay_in winner_in
returns-in_default-delay c = rw (c.in_default.is, c.in_default-delay.is)

-- the first candidate
pub returns-in_default : goal.returns-in_default
unfolding better delay_in winner_in
returns-in_default c = rw (c.in_default.is, c.in-Some-delay.is)

-- no candidate
pub returns-in_default-delay-2 : goal.returns-in_default-delay-2
unfolding better delay_in winner_in
returns-in_default-delay-2 c = rw (c.in-Some.is, c.in_default-delay-2.is)

-- a smaller delay
pub returns-then-d-c : goal.returns-then-d-c
unfolding better delay_in winner_in
returns-then-d-c c = rw (c.in-Some.is, c.in-Some-delay-2.is, lt-ltb _ _ c.if-d-c.true)

-- no smaller delay
pub returns : goal.returns
unfolding better delay_in winner_in
returns c = rw (c.in-Some.is, c.in-Some-delay-2.is, le-ltb _ _ c.if-d-c.false)
