-- `lowest_refusal` meets its contract: a scan of the tracks.
use Rattle.base_limits.specs.Laws.Verdict.{scan_start, scan_turn, scan_found, scan_end}
use Rattle.survey_core.specs.Survey.{edge_count}
use Rattle.survey_refusal.proofs.edges.lowest_refusal.Goals as goal

pub loop-e-init : goal.loop-e-init
loop-e-init c = scan_start _ _

-- 4, 5 or 6
pub returns-in_default : goal.returns-in_default
unfolding edge_count
returns-in_default c =
    scan_found c.loop-e.invariant c.loop-e-test.true c.edge_refusal-found.ensures c.in_default.is

pub loop-e-preserved : goal.loop-e-preserved
loop-e-preserved c =
    scan_turn c.loop-e.invariant c.loop-e-test.true c.edge_refusal-found.ensures c.in-Fine.is

-- no track has anything wrong
pub returns : goal.returns
unfolding edge_count
returns c = scan_end c.loop-e.invariant c.loop-e-test.false
