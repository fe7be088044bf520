-- `terminals` meets its contract: the vertices of split groups, each with its own label, are the terminals.
use mathlib.Core.Path.{refl, ap, sym, ◌∙◌}
use lib.ListN.{length}
use Rattle.base_finite.specs.Laws.Below.{length_tabulate}
use Rattle.base_limits.specs.Limits.{group_numbers}
use Rattle.survey_groups.specs.Laws.Spread.{split_terminals}
use Rattle.survey_core.specs.Survey.{vertex_count}
use native.Mathlib.Omega.{arith}
use Rattle.survey_groups.proofs.terminals.terminals.Goals as goal

pub slice_bounds-count_split-end : goal.slice_bounds-count_split-end
slice_bounds-count_split-end c = sym (ap length c.own_spreads-table.ensures ∙ length_tabulate group_numbers _)

pub returns : goal.returns
unfolding vertex_count
returns c =
    c.count_split.ensures ∙ split_terminals _ refl c.own_spreads-table.ensures (λ v. omega (arith, c.type_inv.groups v))
