-- `lent_plan` meets its contract: the poured groups can be joined exactly if the lists can, and have their plan (`joined_call`); 8 is said of the lists (`apart_call`).
use mathlib.Core.Path.{ap, sym}
use native.Mathlib.Omega.{arith}
use Rattle.survey_lists.proofs.Laws.Room.{part_poured}
use Rattle.base_limits.specs.Verdict.{outcome}
use Rattle.plan_rule.specs.Answer.{planned_outcome}
use Rattle.plan_core.specs.Laws.Whole.{into_fits, plan_apart, apart_call, joined_call}
use borrow.Author.Rules.{rules}
use Rattle.plan_core.proofs.whole.lent_plan.Goals as goal

pub slice_bounds-poured_plan-end : goal.slice_bounds-poured_plan-end
slice_bounds-poured_plan-end c = let few = c.requires.survey.few in search (rules, few)

pub poured_plan-planned-requires : goal.poured_plan-planned-requires
poured_plan-planned-requires c =
    into_fits _ c.args.marks.now c.args.records.now c.requires (part_poured _ c.requires.survey.few c.pour-poured.ensures)

pub unjoined_place-place-requires : goal.unjoined_place-place-requires
unfolding planned_outcome
unjoined_place-place-requires c =
    let part = part_poured _ c.requires.survey.few c.pour-poured.ensures in
    record { survey_sound = c.requires.survey; others_value = plan_apart _ c.args.marks.now c.args.records.now c.requires part c.poured_plan-planned.ensures.result_value (ap planned_outcome c.in-Refused.is) }

-- 8
pub returns-in-Refused : goal.returns-in-Refused
unfolding planned_outcome outcome
returns-in-Refused c =
    let part = part_poured _ c.requires.survey.few c.pour-poured.ensures in
    let whole = apart_call _ _ _ c.requires part (record { own_byte = λ v. omega (arith, c.shared_slice_known-1.given v); other_byte = λ i. omega (arith, c.shared_slice_known-6-1.given i) }) c.poured_plan-planned.ensures.marks_value c.poured_plan-planned.ensures.records_value
    c.poured_plan-planned.ensures.result_value (ap planned_outcome c.in-Refused.is) (λ d. sym (ap (λ v. outcome v d) c.unjoined_place-place.ensures)) in record { result_value = whole.0; marks_value = whole.1.0; records_value = whole.1.1 }

-- finished
pub returns : goal.returns
unfolding planned_outcome
returns c =
    let part = part_poured _ c.requires.survey.few c.pour-poured.ensures in
    let whole = joined_call _ _ _ c.requires part (record { own_byte = λ v. omega (arith, c.shared_slice_known-1.given v); other_byte = λ i. omega (arith, c.shared_slice_known-6-1.given i) }) c.poured_plan-planned.ensures.marks_value c.poured_plan-planned.ensures.records_value
    c.poured_plan-planned.ensures.result_value (ap planned_outcome c.in_default.is) in record { result_value = whole.0; marks_value = whole.1.0; records_value = whole.1.1 }
