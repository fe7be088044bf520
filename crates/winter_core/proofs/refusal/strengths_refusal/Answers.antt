-- `strengths_refusal` meets its contract: the length, then a scan of the strengths.
use Rattle.std.proofs.Common.{arith}
use mathlib.Core.Path.{refl, sym}
use Rattle.base_limits.specs.Laws.Verdict.{scan_start, scan_turn, scan_found, scan_end}
use Rattle.winter_rule.proofs.Laws.Refusal.{length_refused}
use Rattle.winter_core.proofs.Laws.Call.{found_at, list_decided}
use Rattle.winter_core.proofs.refusal.strengths_refusal.Goals as goal

-- 24: another length
pub returns-then-strengths-ne-STRENGTHS : goal.returns-then-strengths-ne-STRENGTHS
returns-then-strengths-ne-STRENGTHS c =
    sym (length_refused c.args.strengths.now c.if-strengths-ne-STRENGTHS.true)

pub loop-i-init : goal.loop-i-init
loop-i-init c =
    scan_start _ _

-- 24: the lowest group
pub returns-in_default : goal.returns-in_default
returns-in_default c =
    list_decided c.args.strengths.now c.if-strengths-ne-STRENGTHS.false (scan_found c.loop-i.invariant (omega arith) (found_at c.loop-i.i refl c.strength_refusal-found.ensures) c.in_default.is)

pub loop-i-preserved : goal.loop-i-preserved
loop-i-preserved c =
    scan_turn c.loop-i.invariant (omega arith) (found_at c.loop-i.i refl c.strength_refusal-found.ensures) c.in-Fine.is

pub returns : goal.returns
returns c =
    list_decided c.args.strengths.now c.if-strengths-ne-STRENGTHS.false (scan_end c.loop-i.invariant (omega arith))
