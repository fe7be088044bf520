-- `winter_given` meets its contract: a refused line stays (`given_refused`), or what is printed for the strengths read (`given_read`).
use mathlib.Core.Path.{ap}
use Rattle.survey_core.specs.Survey.{survey_with}
use Rattle.format_read.specs.Answer.{number_step}
use Rattle.text_winter.specs.Given.{givens_at, strengths_from}
use Rattle.text_winter.proofs.Laws.Output.{printed_as, given_refused, given_read}
use Rattle.text_winter.proofs.winter_given.Goals as goal

pub returns-in-Refused : goal.returns-in-Refused
unfolding number_step
returns-in-Refused c =
    let a = c.args in
    let s = survey_with a.groups.now a.firsts.now a.seconds.now a.weights.now a.owners.now a.others.now in
    let lines = givens_at a.text.now a.cursor.at in
    let whole = printed_as a.out.now (given_refused s lines.values c.strength_lines.ensures.result_value (ap number_step c.in-Refused.is)) (c.print_refusal.ensures.value, c.print_refusal.ensures.out_value) in record { result_value = whole.0; out_value = whole.1 }

pub returns-in-Value : goal.returns-in-Value
unfolding number_step strengths_from
returns-in-Value c =
    let a = c.args in
    let s = survey_with a.groups.now a.firsts.now a.seconds.now a.weights.now a.owners.now a.others.now in
    let lines = givens_at a.text.now a.cursor.at in
    let whole = printed_as a.out.now (given_read s lines.values c.strength_lines.ensures.result_value (ap number_step c.in-Value.is) c.strength_lines.ensures.strengths_value) (c.winter_survey.ensures.result_value, c.winter_survey.ensures.out_value) in record { result_value = whole.0; out_value = whole.1 }
