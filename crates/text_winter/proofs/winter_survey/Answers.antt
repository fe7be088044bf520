-- `winter_survey` meets its contract: the refusal is printed (`refused_output`), or the copies (`copied_output`).
use Rattle.survey_core.specs.Survey.{survey_with}
use Rattle.text_winter.proofs.Laws.Output.{printed_as, refused_output, copied_output}
use Rattle.text_winter.proofs.winter_survey.Goals as goal

pub returns-in-Refused : goal.returns-in-Refused
returns-in-Refused c =
    let a = c.args in
    let s = survey_with a.groups.now a.firsts.now a.seconds.now a.weights.now a.owners.now a.others.now in
    let whole = printed_as a.out.now (refused_output s a.strengths.now c.winter.ensures.result_value c.in-Refused.is) (c.print_refusal.ensures.value, c.print_refusal.ensures.out_value) in record { result_value = whole.0; out_value = whole.1 }

pub returns-in-Finished : goal.returns-in-Finished
returns-in-Finished c =
    let a = c.args in
    let s = survey_with a.groups.now a.firsts.now a.seconds.now a.weights.now a.owners.now a.others.now in
    let whole = printed_as a.out.now (copied_output s a.strengths.now c.winter.ensures.result_value c.in-Finished.is c.winter.ensures.copies_value) (c.print_copies.ensures.value, c.print_copies.ensures.out_value) in record { result_value = whole.0; out_value = whole.1 }
