-- `edges_refusal` meets its contract: no track has a fault, or they are gone through.
use Rattle.survey_refusal.specs.Laws.EdgesFault.{no_fault}
use Rattle.survey_refusal.proofs.edges.edges_refusal.Goals as goal

pub returns-then-edges_fault-eq0 : goal.returns-then-edges_fault-eq0
returns-then-edges_fault-eq0 c = no_fault _ c.edges_fault.ensures c.if-edges_fault-eq0.true
