-- `place_at` meets its contract: each return by its test.
use borrow.Author.Tests.{lt-ltb, le-ltb}
use Rattle.merge_core.proofs.places.place_at.Goals as goal

pub returns-then-i-count : goal.returns-then-i-count
returns-then-i-count c = rw (lt-ltb _ _ c.if-i-count.true) c.at.ensures

pub returns : goal.returns
returns c = rw (le-ltb _ _ c.if-i-count.false)
