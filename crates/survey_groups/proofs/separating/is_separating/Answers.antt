-- `is_separating` meets its contract: a set separates exactly if its sides, as labels, split a group.
use native.Mathlib.Omega.{arith}
use mathlib.Core.Path.{sym, ◌∙◌}
use Rattle.survey_core.specs.Survey.{groups_alone}
use Rattle.survey_core.proofs.Laws.Group.{plain_bytes}
use Rattle.survey_groups.specs.Laws.Cut.{whole_separates_none, parted_separates}
use Rattle.survey_groups.proofs.separating.is_separating.Goals as goal

-- no group is split
pub returns-in-Fine : goal.returns-in-Fine
returns-in-Fine c S sides =
    let bytes = c.type_inv.groups in
    sym
    (whole_separates_none (groups_alone c.args.groups.now) S _ sides 0 (plain_bytes _ _ _ _ (λ v. omega (arith, bytes v)))
    (sym c.split_refusal-split.ensures ∙ c.in-Fine.is))

-- some group is split
pub returns-in-Refused : goal.returns-in-Refused
returns-in-Refused c S sides =
    sym
    (parted_separates (groups_alone c.args.groups.now) S _ sides 0
    (sym c.split_refusal-split.ensures ∙ c.in-Refused.is))
