-- `union_of` meets its contract: no member, then those of both components.
use mathlib.Core.Path.{ap, ◌∙◌}
use Rattle.plan_draw.specs.Members.{with_part, union_of}
use Rattle.plan_draw.proofs.members.union_of.Goals as goal

pub returns : goal.returns
unfolding union_of
returns c =
    let a = c.args in
    c.add_part-2.ensures ∙ ap (with_part a.sets.now a.n a.y) c.add_part.ensures
