-- `has_end` meets its contract: one end more is compared at each turn.
use Rattle.std.proofs.Common.{◌≡◌, Bool, true, false, refl, ◌∙◌}
use mir.Val.{bool_byte}
use Rattle.base_finite.specs.Below.{counted, any_below}
use Rattle.plan_wake.specs.Laws.Loops.{found_more, found_end}
use Rattle.plan_wake.proofs.ends.has_end.Goals as goal

byte_counted : (t : Bool) → bool_byte t ≡ counted t 1
unfolding counted
byte_counted true = refl
byte_counted false = refl

pub loop-x-init : goal.loop-x-init
unfolding counted any_below
loop-x-init c = refl

pub loop-x-preserved : goal.loop-x-preserved
loop-x-preserved c =
    found_more c.args.ends.now c.args.c _ refl (c.from-found.ensures ∙ byte_counted _) c.loop-x.invariant

pub returns : goal.returns
returns c = found_end c.args.ends.now c.args.c _ c.loop-x.auto.x-index-end c.loop-x-test.false c.loop-x.invariant
