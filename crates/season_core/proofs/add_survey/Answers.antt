-- `add_survey` meets its contract: what planning answered is added, and its figures are the survey's.
use Rattle.season_core.specs.Laws.Survey.{survey_added_law}
use Rattle.season_core.proofs.add_survey.Goals as goal

pub returns : goal.returns
returns c =
    let whole = survey_added_law _ _ c.figures-figured.ensures.result_value c.add_figured.ensures.verdict_value c.add_figured.ensures.fact in record { verdict_value = whole.0; report_value = whole.1 }
