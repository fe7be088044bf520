-- `plan_survey` meets its contract: what is printed of planning's answer is what `plan` prints for the survey (`survey_printed_law`).
use native.Mathlib.Omega.{arith}
use Rattle.survey_core.specs.Survey.{edge_count}
use Rattle.text_plan.specs.Laws.Output.{plan_buffers}
use Rattle.text_plan.specs.Laws.Printed.{survey_printed_law}
use Rattle.text_plan.proofs.survey.plan_survey.Goals as goal

pub returns : goal.returns
unfolding edge_count
returns c =
    let whole = survey_printed_law _ (record { own_byte = λ v. omega (arith, c.shared_slice_known-1.given v); other_byte = λ i. omega (arith, c.shared_slice_known-6-1.given i) }) plan_buffers c.plan-planned.ensures.marks_value c.plan-planned.ensures.records_value _ c.plan-planned.ensures.result_value
    (c.print_planned.ensures.result_value, (c.print_planned.ensures.out_value, c.print_planned.ensures.words)) in record { result_value = whole.0; out_value = whole.1.0; fits = whole.1.1 }
