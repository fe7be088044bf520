-- `join_round` meets its contract: a refused survey has no round.
use mathlib.Core.Path.{sym, ◌∙◌}
use Rattle.base_limits.specs.Laws.Verdict.{written_refused, written_fine}
use Rattle.survey_core.proofs.Laws.Refusal.{fine_survey}
use Rattle.why_core.specs.Laws.Replay.{picks_fit}
use Rattle.why_core.proofs.round.join_round.Goals as goal

pub returns-in_default : goal.returns-in_default
returns-in_default c = written_refused _ _ c.survey_refusal-found.ensures c.in_default.is

pub find_round-requires : goal.find_round-requires
find_round-requires c = picks_fit _ (fine_survey _ (sym c.survey_refusal-found.ensures ∙ c.in-Fine.is))

pub returns : goal.returns
returns c = c.find_round.ensures ∙ written_fine _ _ c.survey_refusal-found.ensures c.in-Fine.is
