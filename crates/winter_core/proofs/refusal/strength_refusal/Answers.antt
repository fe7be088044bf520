-- `strength_refusal` meets its contract: 0, over 15, or neither.
use native.Mathlib.Omega.{arith}
use mathlib.Core.Path.{sym}
use mathlib.Core.Logic.{inl, inr}
use Rattle.winter_rule.proofs.Laws.Refusal.{strength_fine, strength_unfit}
use Rattle.winter_core.proofs.refusal.strength_refusal.Goals as goal

pub returns-then-strength-lt1 : goal.returns-then-strength-lt1
returns-then-strength-lt1 c =
    sym (strength_unfit c.args.strength c.args.group (inl (omega (arith, c.if-strength-lt1.true))))

pub returns-then-strength-gt-MAX_STRENGTH : goal.returns-then-strength-gt-MAX_STRENGTH
returns-then-strength-gt-MAX_STRENGTH c =
    sym (strength_unfit c.args.strength c.args.group (inr c.if-strength-gt-MAX_STRENGTH.true))

pub returns : goal.returns
returns c =
    sym (strength_fine c.args.strength c.args.group (record { some = c.if-strength-lt1.false; most = c.if-strength-gt-MAX_STRENGTH.false }))
