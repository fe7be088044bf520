-- `ties_refusal` meets its contract: 2, or a scan of the ties.
use native.Mathlib.Omega.{arith}
use Rattle.base_limits.specs.Laws.Verdict.{scan_start, scan_turn, scan_found, scan_end}
use Rattle.merge_rule.specs.Ties.{ties_from}
use Rattle.merge_core.specs.Laws.Find.{uneven_ties, even_ties}
use Rattle.merge_core.proofs.ties.ties_refusal.Goals as goal

-- 2
pub returns-then-firsts-seconds : goal.returns-then-firsts-seconds
returns-then-firsts-seconds c = uneven_ties _ _ (ties_from c.args.firsts.now c.args.seconds.now) (λ e. c.if-firsts-seconds.true e)

pub loop-i-init : goal.loop-i-init
loop-i-init c = scan_start _ _

-- 22
pub returns-in_default : goal.returns-in_default
returns-in_default c = even_ties _ _ (ties_from c.args.firsts.now c.args.seconds.now) (omega (arith, c.if-firsts-seconds.false)) (scan_found c.loop-i.invariant c.loop-i-test.true c.tie_refusal-found.ensures c.in_default.is)

pub loop-i-preserved : goal.loop-i-preserved
loop-i-preserved c = scan_turn c.loop-i.invariant c.loop-i-test.true c.tie_refusal-found.ensures c.in-Fine.is

-- no tie has anything wrong
pub returns : goal.returns
returns c = even_ties _ _ (ties_from c.args.firsts.now c.args.seconds.now) (omega (arith, c.if-firsts-seconds.false)) (scan_end c.loop-i.invariant c.loop-i-test.false)
