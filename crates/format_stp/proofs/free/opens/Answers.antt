-- `format_stp::free::opens` meets its contract: one of the numbers reaches, or none does.
use native.Mathlib.Omega.{arith}
use Prim.Native.Nat.{◌+◌}
use mathlib.Core.Path.{◌∙◌, sym, refl}
use Rattle.base_finite.specs.Below.{any_below}
use Rattle.base_finite.specs.Laws.Count.{any_more, any_end}
use Rattle.format_stp.proofs.Laws.RuleLines.{free_elim}
use Rattle.format_stp.proofs.Laws.Number.{opens_itself, opens_zero, opens_later, opens_none}
use Rattle.format_stp.specs.StpNumber.{is_free, reaches}
use Rattle.format_stp.proofs.free.opens.Goals as goal

pub returns-then-is_free : goal.returns-then-is_free
returns-then-is_free c =
    let a = c.args in
    let f = sym c.is_free.ensures ∙ c.if-is_free.true in
    sym (opens_itself (is_free a.groups.now a.low a.high) a.high a.more a.x f (free_elim a.groups.now a.low a.high a.x f).upto)

pub returns-then-reaches : goal.returns-then-reaches
returns-then-reaches c =
    let a = c.args in
    sym (opens_zero (is_free a.groups.now a.low a.high) a.high a.more a.x (sym c.reaches.ensures ∙ c.if-reaches.true))

pub loop-i-init : goal.loop-i-init
unfolding any_below
loop-i-init c = (omega arith, refl)

pub returns-then-reaches-2 : goal.returns-then-reaches-2
returns-then-reaches-2 c =
    let a = c.args in
    sym (opens_later (is_free a.groups.now a.low a.high) a.high a.more a.x c.loop-i.i c.loop-i-test.true (sym c.reaches-in-loop-i.ensures ∙ c.if-reaches-2.true))

pub loop-i-preserved : goal.loop-i-preserved
loop-i-preserved c =
    let a = c.args in
    let h = c.loop-i-test.true in
    (omega arith, any_more c.loop-i.i (λ j. reaches (is_free a.groups.now a.low a.high) a.more a.x (j + 1)) c.loop-i.invariant.1 (sym c.reaches-in-loop-i.ensures ∙ c.if-reaches-2.false))

pub returns : goal.returns
returns c =
    let a = c.args in
    sym
    (opens_none (is_free a.groups.now a.low a.high) a.high a.more a.x (sym c.reaches.ensures ∙ c.if-reaches.false)
    (any_end a.high c.loop-i.i (λ j. reaches (is_free a.groups.now a.low a.high) a.more a.x (j + 1)) c.loop-i.invariant.0 c.loop-i-test.false c.loop-i.invariant.1))
