-- `pair_group` meets its contract: a branch on the vertex of the pair.
use native.Mathlib.Omega.{arith}
use mathlib.Core.Path.{sym, ◌∙◌}
use Rattle.survey_core.specs.Lists.{lists_from}
use Rattle.survey_lists.proofs.Laws.Split.{pair_group_law, pair_none}
use Rattle.survey_lists.proofs.split.pair_group.Goals as goal

pub returns-then-at-groups : goal.returns-then-at-groups
returns-then-at-groups c =
    let args = c.args in
    c.at-then-at-groups.ensures ∙ sym (pair_group_law (lists_from args.groups.now args.owners.now args.others.now) args.i (omega arith))

pub returns : goal.returns
returns c =
    let args = c.args in
    sym (pair_none (lists_from args.groups.now args.owners.now args.others.now) args.i (omega arith))
