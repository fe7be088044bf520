-- `keep` meets its contract: nothing for a single vertex, else the record is put in its place.
use mathlib.Core.Path.{refl}
use borrow.Author.Tests.{lt-ltb, le-ltb}
use Rattle.plan_draw.specs.Members.{sets_kept}
use Rattle.plan_draw.proofs.sets.keep.Goals as goal

-- a single vertex
pub returns-then-k-n : goal.returns-then-k-n
unfolding sets_kept
returns-then-k-n c =
    let a = c.args in
    rw (lt-ltb a.c a.n c.if-k-n.true) refl

-- a merged component
pub returns : goal.returns
unfolding sets_kept
returns c =
    let a = c.args in
    rw (le-ltb a.c a.n c.if-k-n.false) c.put.ensures
