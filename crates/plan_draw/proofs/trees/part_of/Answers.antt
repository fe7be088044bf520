-- `part_of` meets its contract: each return by the test that led there.
use mathlib.Core.Path.{refl}
use borrow.Author.Tests.{lt-ltb, le-ltb}
use Rattle.plan_draw.specs.Trace.{end_of, part_of}
use Rattle.plan_draw.proofs.trees.part_of.Goals as goal

-- a single vertex
pub returns-then-k-n : goal.returns-then-k-n
unfolding part_of
returns-then-k-n c =
    let a = c.args in
    let single = lt-ltb a.c a.n c.if-k-n.true in
    record { part = rw single refl; left = rw single refl }

-- a merged component
pub returns : goal.returns
unfolding part_of end_of
returns c =
    let a = c.args in
    let past = le-ltb a.c a.n c.if-k-n.false in
    rw (past, ← c.at-e.ensures, ← c.at.ensures) (record { part = c.climb.ensures.root; left = c.climb.ensures.left })
