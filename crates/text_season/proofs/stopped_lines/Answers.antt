-- `text_season::stopped_lines` meets its contract, by the case that the step is.
use mathlib.Core.Path.{sym, ap, ◌∙◌}
use Rattle.format_read.specs.Step.{stopped}
use Rattle.format_survey.specs.Reading.{SurveyText}
use Rattle.format_read.specs.Answer.{number_step}
use Rattle.text_season.specs.Added.{added_from}
use Rattle.text_season.proofs.stopped_lines.Goals as goal

pub returns-in-Refused : goal.returns-in-Refused
unfolding added_from number_step stopped
returns-in-Refused c =
    let a = c.args in
    c.refused_text.ensures ∙ sym (ap (λ x. added_from a.report (stopped {B = SurveyText} (number_step x))) c.in-Refused.is)

pub returns-in-Value : goal.returns-in-Value
unfolding added_from number_step stopped
returns-in-Value c =
    let a = c.args in
    c.refused_text-in-Value.ensures ∙ sym (ap (λ x. added_from a.report (stopped {B = SurveyText} (number_step x))) c.in-Value.is)
