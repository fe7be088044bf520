-- `text_season::stopped_counts` meets its contract, by the case that the step is.
use mathlib.Core.Path.{sym, ap, ◌∙◌}
use Rattle.format_read.specs.Step.{stopped}
use Rattle.format_survey.specs.Reading.{SurveyText}
use Rattle.format_survey.specs.LinesAnswer.{counts_step}
use Rattle.text_season.specs.Added.{added_from}
use Rattle.text_season.proofs.stopped_counts.Goals as goal

pub returns-in-Refused : goal.returns-in-Refused
unfolding added_from counts_step stopped
returns-in-Refused c =
    let a = c.args in
    c.refused_text.ensures ∙ sym (ap (λ x. added_from a.report (stopped {B = SurveyText} (counts_step x))) c.in-Refused.is)

pub returns-in-Counts : goal.returns-in-Counts
unfolding added_from counts_step stopped
returns-in-Counts c =
    let a = c.args in
    c.refused_text-in-Counts.ensures ∙ sym (ap (λ x. added_from a.report (stopped {B = SurveyText} (counts_step x))) c.in-Counts.is)
