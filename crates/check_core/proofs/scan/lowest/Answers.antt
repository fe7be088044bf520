-- `lowest` meets its contract: whatever the calls answer, no place below i is refused.
use Rattle.base_limits.specs.Laws.Verdict.{scan_start, scan_turn, scan_found, scan_end}
use Rattle.check_core.proofs.scan.lowest.Goals as goal

pub loop-i-init : goal.loop-i-init
loop-i-init g c f h = scan_start _ _

-- a place that is refused
pub returns-in_default : goal.returns-in_default
returns-in_default g c f h =
    scan_found (c.loop-i.invariant f h) c.loop-i-test.true (h c.loop-i.i _ c.loop-i-test.true c.refusal-found.ensures) c.in_default.is

pub loop-i-preserved : goal.loop-i-preserved
loop-i-preserved g c f h =
    scan_turn (c.loop-i.invariant f h) c.loop-i-test.true (h c.loop-i.i _ c.loop-i-test.true c.refusal-found.ensures) c.in-Fine.is

-- no place is refused
pub returns : goal.returns
returns g c f h = scan_end (c.loop-i.invariant f h) c.loop-i-test.false
