-- `given_test` meets its contract: the tests of a line, one after the other.
use native.Mathlib.Omega.{arith}
use mathlib.Core.Path.{sym}
use mathlib.Core.Logic.{inl, inr}
use Rattle.text_winter.specs.Given.{given_of}
use Rattle.text_winter.proofs.Laws.Given.{given_falls, given_high, given_unfit, given_fine}
use Rattle.text_winter.proofs.given.given_test.Goals as goal

-- not above the one before
pub returns-then-group-low : goal.returns-then-group-low
returns-then-group-low c =
    sym (given_falls c.args.low (given_of c.args.group c.args.strength) c.if-group-low.true)

-- no group
pub returns-then-group-gt-GROUPS : goal.returns-then-group-gt-GROUPS
returns-then-group-gt-GROUPS c =
    sym (given_high c.args.low (given_of c.args.group c.args.strength) c.if-group-gt-GROUPS.true)

-- strength 0
pub returns-then-strength-lt1 : goal.returns-then-strength-lt1
returns-then-strength-lt1 c =
    let a = c.args in
    sym (given_unfit a.low (given_of a.group a.strength) c.if-group-low.false c.if-group-gt-GROUPS.false (inl (omega (arith, c.if-strength-lt1.true))))

-- over 15
pub returns-then-strength-gt-HIGHEST : goal.returns-then-strength-gt-HIGHEST
returns-then-strength-gt-HIGHEST c =
    let a = c.args in
    sym (given_unfit a.low (given_of a.group a.strength) c.if-group-low.false c.if-group-gt-GROUPS.false (inr c.if-strength-gt-HIGHEST.true))

pub returns : goal.returns
returns c =
    let a = c.args in
    sym (given_fine a.low (given_of a.group a.strength) c.if-group-low.false c.if-group-gt-GROUPS.false (record { some = c.if-strength-lt1.false; most = c.if-strength-gt-HIGHEST.false }))
