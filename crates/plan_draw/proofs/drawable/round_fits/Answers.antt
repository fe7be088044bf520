-- `round_fits` meets its contract: each end is tested.
use Prim.Native.Nat.{◌<◌, ◌≤◌}
use mathlib.Core.Path.{sym}
use Rattle.plan_draw.specs.Trace.{end_of}
use Rattle.plan_draw.proofs.Laws.Drawable.{fits_both, first_out, second_out}
use Rattle.plan_draw.proofs.drawable.round_fits.Goals as goal

-- the first end
pub returns-then-n-at : goal.returns-then-n-at
unfolding end_of
returns-then-n-at c =
    let a = c.args in
    let out : a.n ≤ end_of a.firsts.now a.order.now a.r =
    rw (← c.at-e.ensures, ← c.at.ensures) c.if-n-at.true in
    sym (first_out a.n (end_of a.firsts.now a.order.now) (end_of a.seconds.now a.order.now) a.r out)

-- the second end
pub returns-then-n-at-2 : goal.returns-then-n-at-2
unfolding end_of
returns-then-n-at-2 c =
    let a = c.args in
    let first : end_of a.firsts.now a.order.now a.r < a.n =
    rw (← c.at-e.ensures, ← c.at.ensures) c.if-n-at.false in
    let out : a.n ≤ end_of a.seconds.now a.order.now a.r =
    rw (← c.at-e.ensures, ← c.at-2.ensures) c.if-n-at-2.true in
    sym (second_out a.n (end_of a.firsts.now a.order.now) (end_of a.seconds.now a.order.now) a.r first out)

-- both fit
pub returns : goal.returns
unfolding end_of
returns c =
    let a = c.args in
    let first : end_of a.firsts.now a.order.now a.r < a.n =
    rw (← c.at-e.ensures, ← c.at.ensures) c.if-n-at.false in
    let second : end_of a.seconds.now a.order.now a.r < a.n =
    rw (← c.at-e.ensures, ← c.at-2.ensures) c.if-n-at-2.false in
    sym (fits_both a.n (end_of a.firsts.now a.order.now) (end_of a.seconds.now a.order.now) a.r first second)
