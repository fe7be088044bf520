-- `text_season::add_read` meets its contract.
use Rattle.text_season.specs.Laws.Added.{survey_added_law}
use Rattle.text_season.proofs.add_read.Goals as goal

pub returns : goal.returns
returns c =
    survey_added_law _ _ _ c.add_survey-added.ensures.verdict_value c.add_survey-added.ensures.report_value
