-- `closed_refusal` meets its contract: the stages, one after the other, come to the definition.
use Rattle.closed_core.specs.Laws.Call.{unsound_stops, long_stops, short_stops, nothing_stops}
use Rattle.closed_core.proofs.refusal.closed_refusal.Goals as goal

-- 1 to 6, 18
pub returns-in_default : goal.returns-in_default
returns-in_default c = unsound_stops _ _ _ c.survey_refusal-unsound.ensures c.in_default.is

-- 7: too many tracks
pub returns-then-tracks-gt-MAX_CLOSED : goal.returns-then-tracks-gt-MAX_CLOSED
returns-then-tracks-gt-MAX_CLOSED c = long_stops _ _ _ c.survey_refusal-unsound.ensures c.in-Fine.is c.if-tracks-gt-MAX_CLOSED.true

-- 7: the result is short
pub returns-then-res-tracks : goal.returns-then-res-tracks
returns-then-res-tracks c = short_stops _ _ _ c.survey_refusal-unsound.ensures c.in-Fine.is c.if-res-tracks.true

pub returns : goal.returns
returns c = nothing_stops _ _ _ c.survey_refusal-unsound.ensures c.in-Fine.is c.if-tracks-gt-MAX_CLOSED.false c.if-res-tracks.false
