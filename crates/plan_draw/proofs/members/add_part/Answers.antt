-- `add_part` meets its contract: each return by the test that led there.
use mathlib.Core.Path.{ap, ◌∙◌}
use borrow.Author.Tests.{lt-ltb, le-ltb}
use Rattle.plan_draw.specs.Members.{ored, with_part}
use Rattle.plan_draw.proofs.members.add_part.Goals as goal

-- a single vertex
pub returns-then-x-n : goal.returns-then-x-n
unfolding with_part
returns-then-x-n c =
    let a = c.args in
    rw (lt-ltb a.x a.n c.if-x-n.true) c.add_member.ensures

-- a merged component
pub returns : goal.returns
unfolding with_part
returns c =
    let a = c.args in
    rw (le-ltb a.x a.n c.if-x-n.false) (c.or_record.ensures ∙ ap (ored a.part.now) c.set_at-other.ensures)
