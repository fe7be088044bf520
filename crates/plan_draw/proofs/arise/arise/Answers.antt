-- `arise` meets its contract: the members of both parts, which hang on the new component; its record is kept.
use mathlib.Core.Path.{ap₂, ◌∙◌}
use Rattle.plan_draw.specs.Members.{union_of}
use Rattle.plan_draw.proofs.arise.arise.Goals as goal

pub returns : goal.returns
returns c =
    let a = c.args in
    let second = rw c.part_of-x.ensures.left at c.part_of-y.ensures in
    let x = c.part_of-x.ensures.part in
    let y = second.part in
    let set = c.union_of-set.ensures ∙ ap₂ (union_of a.sets.now a.n) x y in
    record { set = set; ups = rw (← second.part, ← second.left, ← c.part_of-x.ensures.part) c.hang.ensures; sets = c.keep.ensures }
