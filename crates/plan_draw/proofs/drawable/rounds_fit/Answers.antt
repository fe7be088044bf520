-- `rounds_fit` meets its contract: a loop that stops at the first round that does not fit.
use mathlib.Core.Path.{sym, ◌∙◌}
use native.Mathlib.Omega.{arith}
use Rattle.plan_draw.proofs.Laws.Drawable.{all_none, all_more, all_fails, all_end}
use Rattle.plan_draw.proofs.drawable.rounds_fit.Goals as goal

pub loop-r-init : goal.loop-r-init
loop-r-init c = (omega arith, all_none _)

-- a round that does not fit
pub returns-then-not-round_fits : goal.returns-then-not-round_fits
returns-then-not-round_fits c =
    sym (all_fails _ _ _ c.loop-r-test.true (sym c.round_fits.ensures ∙ c.if-not-round_fits.true))

pub loop-r-preserved : goal.loop-r-preserved
loop-r-preserved c =
    (omega arith, all_more _ _ c.loop-r.invariant.1 (sym c.round_fits.ensures ∙ c.if-not-round_fits.false))

-- all fit
pub returns : goal.returns
returns c = sym (all_end _ _ _ c.loop-r.invariant.0 (omega arith) c.loop-r.invariant.1)
