-- `cut_refusal` meets its contract: the test of one cut, for the members of a record.
use mathlib.Core.Path.{ap, sym, ◌∙◌}
use mathlib.Core.Bool.{not}
use Rattle.base_limits.specs.Laws.Verdict.{refuse_true, refuse_false}
use Rattle.format_record.specs.Record.{member_in}
use Rattle.check_core.specs.Laws.Sides.{sides_of_record}
use Rattle.check_core.proofs.cuts.cut_refusal.Goals as goal

-- some group has members on both sides
pub returns-then-is_separating : goal.returns-then-is_separating
returns-then-is_separating c =
    let S = member_in c.args.part.now in
    let is = c.is_separating.ensures S (sides_of_record _ _ c.requires c.sides-labels.ensures) in
    sym (refuse_false (ap not (sym is ∙ c.if-is_separating.true)) 12 _)

-- 12
pub returns : goal.returns
returns c =
    let S = member_in c.args.part.now in
    let is = c.is_separating.ensures S (sides_of_record _ _ c.requires c.sides-labels.ensures) in
    sym (refuse_true (ap not (sym is ∙ c.if-is_separating.false)) 12 _)
