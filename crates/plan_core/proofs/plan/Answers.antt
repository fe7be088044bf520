-- `plan` meets its contract: 1 to 6, 18 and 7 stop it with nothing written (`refused_call`), and otherwise `lent_plan` answers; what is promised follows (`planned_call`).
use mathlib.Core.Path.{sym, ◌∙◌}
use native.Mathlib.Omega.{arith}
use Rattle.plan_rule.specs.Answer.{planned_outcome}
use Rattle.plan_rule.proofs.Laws.Promise.{refused_call}
use Rattle.plan_rule.proofs.Laws.Stages.{planned_call}
use Rattle.plan_core.specs.Laws.Whole.{lent_fits, lent_stops}
use Rattle.plan_core.proofs.plan.Goals as goal

-- 1 to 6, 18, 7
pub returns-in-Refused : goal.returns-in-Refused
unfolding planned_outcome
returns-in-Refused c =
    let told = c.in-Refused.is in
    let call = refused_call _ (record { own_byte = λ v. omega (arith, c.shared_slice_known-1.given v); other_byte = λ i. omega (arith, c.shared_slice_known-6-1.given i) }) _ _ _ _ (sym (lent_stops _ _ _ c.lent_refusal-found.ensures told) ∙ told) in
    let whole = planned_call _ (record { own_byte = λ v. omega (arith, c.shared_slice_known-1.given v); other_byte = λ i. omega (arith, c.shared_slice_known-6-1.given i) }) _ _ call.0 call.1.0 call.1.1.0 in record { result_value = whole.0; marks_value = whole.1.0; records_value = whole.1.1.0; promises = whole.1.1.1.0; stages = whole.1.1.1.1 }

pub lent_plan-requires : goal.lent_plan-requires
lent_plan-requires c = lent_fits _ _ _ (sym c.lent_refusal-found.ensures ∙ c.in_default.is)

-- 8, or finished
pub returns : goal.returns
returns c =
    let whole = planned_call _ (record { own_byte = λ v. omega (arith, c.shared_slice_known-1.given v); other_byte = λ i. omega (arith, c.shared_slice_known-6-1.given i) }) _ _ c.lent_plan.ensures.result_value c.lent_plan.ensures.marks_value c.lent_plan.ensures.records_value in record { result_value = whole.0; marks_value = whole.1.0; records_value = whole.1.1.0; promises = whole.1.1.1.0; stages = whole.1.1.1.1 }
