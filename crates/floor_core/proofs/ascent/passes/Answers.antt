-- `passes` meets its contract: passes until one changes nothing, or so many.
use mathlib.Core.Path.{refl}
use Rattle.floor_rule.specs.Ascent.{passes}
use Rattle.floor_core.specs.Laws.State.{passes_more, passes_end, passes_ended}
use Rattle.floor_core.proofs.ascent.passes.Goals as goal

pub loop-init : goal.loop-init
unfolding passes
loop-init c = (refl, c.requires.done)

pub returns-then-not-pass : goal.returns-then-not-pass
returns-then-not-pass c = passes_ended _ _ _ _ _ _ _ _ _ c.loop.auto.counter-end c.loop.invariant.0 c.pass.ensures.got_value (c.pass.ensures.got_value_2 c.if-not-pass.true)

pub loop-preserved : goal.loop-preserved
loop-preserved c = (passes_more _ _ _ _ _ _ _ _ c.loop.invariant.0 c.pass.ensures.got_value, c.pass.ensures.done_2)

pub returns : goal.returns
returns c = passes_end _ _ _ _ _ _ _ _ _ c.loop.auto.counter-end c.loop-test.false c.loop.invariant.0
