-- `short_counts` meets its contract: what the survey's check found, else 7.
use Rattle.api_code.specs.Laws.Ends.{short_counts_refused, short_seven}
use Rattle.api_code.proofs.short_counts.Goals as goal

-- 1 to 6, or 18
pub returns-in-Refused : goal.returns-in-Refused
returns-in-Refused c = short_counts_refused _ c.survey_refusal-found.ensures _ _ c.in-Refused.is c.code.ensures

-- 7
pub returns-in-Fine : goal.returns-in-Fine
returns-in-Fine c = short_seven _ c.survey_refusal-found.ensures c.in-Fine.is
