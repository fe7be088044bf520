-- `why_survey` meets its contract: what is printed of asking's answer is what `why` prints for the survey (`why_printed`).
use native.Mathlib.Omega.{arith}
use Rattle.survey_core.specs.Survey.{survey_with}
use Rattle.text_why.specs.Laws.Output.{route_buffer}
use Rattle.text_why.specs.Laws.Printed.{why_printed}
use Rattle.text_why.proofs.survey.why_survey.Goals as goal

pub returns : goal.returns
returns c =
    let a = c.args in
    let s = survey_with a.groups.now a.firsts.now a.seconds.now a.weights.now a.owners.now a.others.now in
    let said = c.print_why.ensures in
    let whole = why_printed s a.track (record { own_byte = λ v. omega (arith, c.shared_slice_known-1.given v); other_byte = λ i. omega (arith, c.shared_slice_known-6-1.given i) }) (omega arith) route_buffer c.why-told.ensures.route_value c.route-2-1.given _ c.why-told.ensures.result_value
    (said.value, (said.out_value, said.words)) in record { result_value = whole.0; out_value = whole.1.0; fits = whole.1.1 }
