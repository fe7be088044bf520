-- `grow_plan` meets its contract: a refusal stops it with nothing written (`growing_refused`), and otherwise the plan of the poured groups, which is that of the lists, is
-- finished (`growing_finished`).
use mathlib.Core.Path.{sym, ◌∙◌}
use native.Mathlib.Omega.{arith}
use Rattle.survey_lists.proofs.Laws.Room.{part_poured}
use Rattle.plan_rule.specs.Answer.{planned_outcome}
use Rattle.plan_rule.proofs.Laws.Ready.{fine_ready}
use Rattle.plan_core.specs.Laws.Planned.{into_sound}
use Rattle.plan_core.specs.Laws.Call.{few_by, growing_refused, growing_finished}
use borrow.Author.Rules.{rules}
use Rattle.plan_core.proofs.grow.grow_plan.Goals as goal

-- refused
pub returns-in-Refused : goal.returns-in-Refused
unfolding planned_outcome
returns-in-Refused c =
    let whole = growing_refused _ _ _
    (sym c.plan_refusal-found.ensures ∙ c.in-Refused.is) in record { result_value = whole.0; marks_value = whole.1.0; records_value = whole.1.1 }

pub slice_bounds-grow_poured-end : goal.slice_bounds-grow_poured-end
slice_bounds-grow_poured-end c =
    let few = few_by _ (record { own_byte = λ v. omega (arith, c.shared_slice_known-1.given v); other_byte = λ i. omega (arith, c.shared_slice_known-6-1.given i) }) _ _ (sym c.plan_refusal-found.ensures ∙ c.in_default.is) in
    search (rules, few)

pub grow_poured-requires : goal.grow_poured-requires
grow_poured-requires c =
    let ready = fine_ready _ (record { own_byte = λ v. omega (arith, c.shared_slice_known-1.given v); other_byte = λ i. omega (arith, c.shared_slice_known-6-1.given i) }) _ _ (sym c.plan_refusal-found.ensures ∙ c.in_default.is) in
    into_sound _ ready.survey (part_poured _ ready.survey.few c.pour-poured.ensures)

-- finished
pub returns : goal.returns
returns c =
    let whole = growing_finished _ _ _ (record { own_byte = λ v. omega (arith, c.shared_slice_known-1.given v); other_byte = λ i. omega (arith, c.shared_slice_known-6-1.given i) })
    (sym c.plan_refusal-found.ensures ∙ c.in_default.is)
    c.pour-poured.ensures c.grow_poured.ensures in record { result_value = whole.0; marks_value = whole.1.0; records_value = whole.1.1 }
