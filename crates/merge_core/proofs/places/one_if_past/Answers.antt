-- `one_if_past` meets its contract: each return by its test.
use borrow.Author.Tests.{lt-ltb, le-ltb}
use Rattle.base_finite.specs.Below.{counted}
use Rattle.merge_core.proofs.places.one_if_past.Goals as goal

pub returns-then-i-count : goal.returns-then-i-count
unfolding counted
returns-then-i-count c = rw (lt-ltb _ _ c.if-i-count.true)

pub returns : goal.returns
unfolding counted
returns c = rw (le-ltb _ _ c.if-i-count.false)
