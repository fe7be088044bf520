-- `read_front` meets its contract: refused counts, refused lines, or a survey in the buffers.
use mathlib.Core.Path.{ap, ◌∙◌}
use Rattle.format_read.specs.Step.{stopped}
use Rattle.format_read.specs.Answer.{number_step}
use Rattle.format_survey.specs.Line.{tests_for, vertices_test, edges_test}
use Rattle.format_survey.specs.LinesAnswer.{counts_step}
use Rattle.format_survey.specs.Reading.{SurveyText}
use Rattle.text_merge.specs.Front.{front_of}
use Rattle.text_merge.specs.Laws.Front.{front_uncounted, front_unlined, front_read}
use Rattle.text_merge.proofs.read.read_front.Goals as goal

-- the counts are refused
pub returns-in_default : goal.returns-in_default
unfolding counts_step tests_for vertices_test edges_test stopped front_of
returns-in_default c = let told = c.in_default.is in front_uncounted c.args.text.now c.counts-head.ensures c.args.groups.now c.args.firsts.now c.args.seconds.now c.args.weights.now c.args.owners.now c.args.others.now (c.stopped_counts.ensures ∙ ap (λ x. front_of (stopped {B = SurveyText} (counts_step x))) told) (ap counts_step told)

-- a line is refused
pub returns-in_default-step : goal.returns-in_default-step
unfolding counts_step tests_for vertices_test edges_test number_step stopped front_of
returns-in_default-step c =
    let told = c.in_default-step.is in front_unlined c.args.text.now c.counts-head.ensures c.args.groups.now c.args.firsts.now c.args.seconds.now c.args.weights.now c.args.owners.now c.args.others.now (ap counts_step c.in-Counts.is) _ _ _ _ _ _ c.requires.0 c.survey_lines-step.ensures.0 (c.stopped_lines.ensures ∙ ap (λ x. front_of (stopped {B = SurveyText} (number_step x))) told) (ap number_step told)

-- a survey
pub returns : goal.returns
unfolding counts_step tests_for vertices_test edges_test number_step
returns c =
    front_read c.args.text.now c.counts-head.ensures c.args.groups.now c.args.firsts.now c.args.seconds.now c.args.weights.now c.args.owners.now c.args.others.now (ap counts_step c.in-Counts.is) _ _ _ _ _ _ c.requires.0 c.survey_lines-step.ensures.0 c.requires.1.0 c.requires.1.1.0 c.requires.1.1.1.0 c.requires.1.1.1.1.0 c.requires.1.1.1.1.1 (record { groups_set = c.survey_lines-step.ensures.1; firsts_set = c.survey_lines-step.ensures.2; seconds_set = c.survey_lines-step.ensures.3; weights_set = c.survey_lines-step.ensures.4; owners_set = c.survey_lines-step.ensures.5; others_set = c.survey_lines-step.ensures.6 }) (ap number_step c.in-Value.is)
