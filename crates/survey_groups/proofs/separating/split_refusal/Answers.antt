-- `split_refusal` meets its contract: the lowest split group is the lowest that is not joined.
use mathlib.Core.Path.{ap, sym, ◌∙◌}
use lib.ListN.{length}
use Rattle.base_finite.specs.Laws.Below.{length_tabulate}
use Rattle.base_limits.specs.Limits.{group_numbers}
use Rattle.survey_groups.specs.Laws.Spread.{split_lowest}
use Rattle.survey_core.specs.Survey.{vertex_count}
use Rattle.survey_groups.proofs.separating.split_refusal.Goals as goal

pub slice_bounds-first_split-end : goal.slice_bounds-first_split-end
slice_bounds-first_split-end c = sym (ap length c.spreads-table.ensures ∙ length_tabulate group_numbers _)

pub returns : goal.returns
unfolding vertex_count
returns c = c.first_split.ensures ∙ split_lowest _ _ c.spreads-table.ensures _
