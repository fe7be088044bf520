-- `lowest_refusal` meets its contract: a scan of the tracks.
use lib.ListN.{length}
use Rattle.base_limits.specs.Laws.Verdict.{Scanned}
use Rattle.survey_core.specs.Survey.{survey_from}
use Rattle.survey_core.specs.Refusal.{edge_refusal}
use Rattle.survey_refusal.proofs.edges.lowest_refusal.Given as goal

abbrev pub invariant-loop-e : goal.invariant-loop-e
invariant-loop-e l = Scanned (length l.firsts) (edge_refusal (survey_from l.groups l.firsts l.seconds l.weights)) l.e
