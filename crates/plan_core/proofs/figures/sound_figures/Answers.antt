-- `sound_figures` meets its contract: the poured groups can be joined exactly if the lists can, and have their plan (`figures_finished`).
use mathlib.Core.Path.{ap, sym, ◌∙◌}
use mathlib.Core.List.{[]}
use native.Mathlib.Omega.{arith}
use Rattle.survey_lists.proofs.Laws.Room.{part_poured}
use Rattle.plan_rule.specs.Figures.{figured_outcome}
use Rattle.plan_rule.proofs.Laws.Ready.{groups_of_all}
use Rattle.plan_core.specs.Laws.Planned.{into_sound}
use Rattle.plan_core.specs.Laws.Figures.{figures_refused, unjoined_eight, lists_parted, parted_marks, figures_finished}
use borrow.Author.Rules.{rules}
use Rattle.plan_core.proofs.figures.sound_figures.Goals as goal

pub slice_bounds-poured_figures-end : goal.slice_bounds-poured_figures-end
slice_bounds-poured_figures-end c = let few = c.requires.few in search (rules, few)

pub poured_figures-figured-requires : goal.poured_figures-figured-requires
poured_figures-figured-requires c =
    into_sound _ c.requires (part_poured _ c.requires.few c.pour-poured.ensures)

pub unjoined_place-place-requires : goal.unjoined_place-place-requires
unfolding figured_outcome
unjoined_place-place-requires c =
    let part = part_poured _ c.requires.few c.pour-poured.ensures in
    record { survey_sound = c.requires; others_value = lists_parted _ c.requires part c.poured_figures-figured.ensures.result_value (ap figured_outcome c.in-Refused.is) }

-- 8
pub returns-in-Refused : goal.returns-in-Refused
unfolding figured_outcome
returns-in-Refused c =
    let part = part_poured _ c.requires.few c.pour-poured.ensures in
    record { result_value = (figures_refused _ [] (sym (unjoined_eight _ c.requires [] (sym c.unjoined_place-place.ensures ∙ groups_of_all _ 8 [])))).0; marks_value = parted_marks _ c.requires part _ c.poured_figures-figured.ensures.result_value c.poured_figures-figured.ensures.marks_value (record { own_byte = λ v. omega (arith, c.shared_slice_known-1.given v); other_byte = λ i. omega (arith, c.shared_slice_known-6-1.given i) }) (ap figured_outcome c.in-Refused.is) }

-- finished
pub returns : goal.returns
unfolding figured_outcome
returns c =
    let part = part_poured _ c.requires.few c.pour-poured.ensures in
    let whole = figures_finished _ c.requires part _ c.poured_figures-figured.ensures.result_value c.poured_figures-figured.ensures.marks_value (ap figured_outcome c.in_default.is) in record { result_value = whole.0; marks_value = whole.1 }
