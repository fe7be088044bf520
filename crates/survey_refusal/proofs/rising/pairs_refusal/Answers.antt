-- `pairs_refusal` meets its contract: a scan of the pairs.
use Rattle.base_limits.specs.Laws.Verdict.{scan_start, scan_turn, scan_found, scan_end}
use Rattle.survey_core.specs.Pairs.{pairs_refusal}
use Rattle.survey_refusal.proofs.rising.pairs_refusal.Goals as goal

pub loop-i-init : goal.loop-i-init
loop-i-init c = scan_start _ _

-- 18
pub returns-in_default : goal.returns-in_default
unfolding pairs_refusal
returns-in_default c =
    scan_found c.loop-i.invariant c.loop-i-test.true c.pair_refusal-found.ensures c.in_default.is

pub loop-i-preserved : goal.loop-i-preserved
loop-i-preserved c =
    scan_turn c.loop-i.invariant c.loop-i-test.true c.pair_refusal-found.ensures c.in-Fine.is

-- no pair has anything wrong
pub returns : goal.returns
unfolding pairs_refusal
returns c = scan_end c.loop-i.invariant c.loop-i-test.false
