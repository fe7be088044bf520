-- `text_season::add_lines` meets its contract: refused lines stay, and what was read is added.
use borrow.Author.Rules.{rules}
use Prim.Native.Nat.{ℕ}
use mathlib.Core.Path.{ap, ◌∙◌}
use lib.ListN.{replicate}
use Rattle.base_limits.specs.Limits.{max_edges, max_vertices, max_pairs}
use Rattle.format_read.specs.Step.{stopped}
use Rattle.format_read.specs.Answer.{number_step}
use Rattle.format_survey.specs.Reading.{SurveyText}
use Rattle.check_printed.specs.Laws.Verify.{lines_pairs}
use Rattle.text_season.specs.Added.{added_from}
use Rattle.text_season.specs.Laws.Added.{lines_refused, lines_added}
use Rattle.text_season.proofs.add_lines.Goals as goal

-- a line is refused
pub returns-in_default : goal.returns-in_default
unfolding number_step stopped added_from
returns-in_default c =
    let a = c.args in
    let told = c.in_default.is in
    c.stopped_lines.ensures ∙ ap (λ x. added_from a.report (stopped {B = SurveyText} (number_step x))) told
    ∙ lines_refused a.report a.text.now a.vertices a.edges a.cursor.at max_vertices c.requires.0 c.survey_lines-step.ensures.0 (ap number_step told)

-- the pairs of the first buffer, and of the second
pub slice_bounds-add_read-end-5 : goal.slice_bounds-add_read-end-5
unfolding number_step
slice_bounds-add_read-end-5 c =
    let a = c.args in
    let pairs = lines_pairs a.text.now a.vertices a.edges a.cursor.at max_vertices c.requires.0 c.survey_lines-step.ensures.0 (ap number_step c.in-Value.is) in
    search (rules, pairs)

pub slice_bounds-add_read-end-6 : goal.slice_bounds-add_read-end-6
unfolding number_step
slice_bounds-add_read-end-6 c =
    let a = c.args in
    let pairs = lines_pairs a.text.now a.vertices a.edges a.cursor.at max_vertices c.requires.0 c.survey_lines-step.ensures.0 (ap number_step c.in-Value.is) in
    search (rules, pairs)

-- the survey
pub returns : goal.returns
unfolding number_step
returns c =
    let a = c.args in
    let none = replicate {A = ℕ} max_edges 0 in
    c.add_read.ensures
    ∙ lines_added a.report a.text.now a.vertices a.edges a.cursor.at (replicate max_vertices 0) none none none (replicate max_pairs 0) (replicate max_pairs 0)
    record { groups_long = c.requires.0; firsts_long = c.requires.1; seconds_long = c.requires.1; weights_long = c.requires.1; owners_long = search rules; others_long = search rules }
    c.survey_lines-step.ensures.0
    record { groups_set = c.survey_lines-step.ensures.1; firsts_set = c.survey_lines-step.ensures.2; seconds_set = c.survey_lines-step.ensures.3; weights_set = c.survey_lines-step.ensures.4; owners_set = c.survey_lines-step.ensures.5; others_set = c.survey_lines-step.ensures.6 }
    (ap number_step c.in-Value.is)
