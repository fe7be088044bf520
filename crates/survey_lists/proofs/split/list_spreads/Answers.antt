-- `list_spreads` meets its contract: after i pairs the table holds the own groups and the pairs below i.
use native.Mathlib.Omega.{arith}
use mathlib.Core.Path.{ap, sym, ◌∙◌}
use lib.ListN.{length, get_or}
use Rattle.base_finite.specs.Laws.Below.{length_tabulate}
use Rattle.base_limits.specs.Limits.{group_numbers}
use Rattle.survey_core.specs.Lists.{lists_from}
use Rattle.survey_lists.proofs.Laws.Split.{noted_start, noted_turn, noted_end}
use Rattle.survey_lists.proofs.split.list_spreads.Goals as goal

pub loop-i-init : goal.loop-i-init
loop-i-init c =
    let args = c.args in
    noted_start (lists_from args.groups.now args.owners.now args.others.now) (λ v. get_or args.labels.now v 0) c.spreads-table.ensures

pub slice_bounds-note_pair-end : goal.slice_bounds-note_pair-end
slice_bounds-note_pair-end c = sym (ap length c.loop-i.invariant.made ∙ length_tabulate group_numbers _)

pub loop-i-preserved : goal.loop-i-preserved
loop-i-preserved c =
    noted_turn
    _
    _
    (λ i. omega (arith, c.type_inv.others i))
    c.loop-i.invariant
    c.loop-i-test.true
    c.note_pair.ensures

pub returns : goal.returns
returns c = noted_end _ _ c.loop-i.invariant c.loop-i-test.false
