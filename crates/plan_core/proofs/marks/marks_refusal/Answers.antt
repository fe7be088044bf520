-- `marks_refusal` meets its contract: a scan of the marks.
use Rattle.base_limits.specs.Laws.Verdict.{scan_start, scan_turn, scan_found, scan_end}
use Rattle.plan_core.proofs.marks.marks_refusal.Goals as goal

pub loop-e-init : goal.loop-e-init
loop-e-init c = scan_start _ _

-- a mark above 1
pub returns-in_default : goal.returns-in_default
returns-in_default c =
    scan_found c.loop-e.invariant c.loop-e-test.true c.mark_refusal-found.ensures c.in_default.is

pub loop-e-preserved : goal.loop-e-preserved
loop-e-preserved c =
    scan_turn c.loop-e.invariant c.loop-e-test.true c.mark_refusal-found.ensures c.in-Fine.is

-- no mark is above 1
pub returns : goal.returns
returns c = scan_end c.loop-e.invariant c.loop-e-test.false
