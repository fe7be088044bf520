-- `split_list` meets its contract: the lowest split entry of the table.
use mathlib.Core.Path.{ap, sym, ◌∙◌}
use lib.ListN.{length, get_or}
use Rattle.base_finite.specs.Laws.Below.{length_tabulate}
use Rattle.base_limits.specs.Limits.{group_numbers}
use Rattle.survey_core.specs.Lists.{lists_from}
use Rattle.survey_lists.proofs.Laws.Split.{split_list_found}
use Rattle.survey_lists.proofs.split.split_list.Goals as goal

pub slice_bounds-first_split-end : goal.slice_bounds-first_split-end
slice_bounds-first_split-end c = sym (ap length c.list_spreads-table.ensures ∙ length_tabulate group_numbers _)

pub returns : goal.returns
returns c =
    let args = c.args in
    c.first_split.ensures
    ∙ split_list_found (lists_from args.groups.now args.owners.now args.others.now) (λ v. get_or args.labels.now v 0) args.number c.list_spreads-table.ensures
