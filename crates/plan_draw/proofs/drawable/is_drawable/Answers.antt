-- `is_drawable` meets its contract: each test of the definition in its order.
use mathlib.Core.Path.{sym, ◌∙◌}
use native.Mathlib.Omega.{arith}
use Rattle.plan_draw.specs.Trace.{trace_from}
use Rattle.plan_draw.proofs.Laws.Drawable.{too_many, too_long_law, too_short, ends_decide}
use Rattle.plan_draw.proofs.drawable.is_drawable.Goals as goal

-- too many vertices
pub returns-then-n-gt-MAX_VERTICES : goal.returns-then-n-gt-MAX_VERTICES
returns-then-n-gt-MAX_VERTICES c =
    let a = c.args in
    sym (too_many (trace_from a.n a.firsts.now a.seconds.now a.values.now a.order.now a.rounds) a.room (omega arith))

-- more rounds than vertices
pub returns-then-n-rounds : goal.returns-then-n-rounds
returns-then-n-rounds c =
    let a = c.args in
    sym (too_long_law (trace_from a.n a.firsts.now a.seconds.now a.values.now a.order.now a.rounds) a.room (omega arith) (omega arith))

-- too little room
pub returns-then-room-n : goal.returns-then-room-n
returns-then-room-n c =
    let a = c.args in
    sym (too_short (trace_from a.n a.firsts.now a.seconds.now a.values.now a.order.now a.rounds) a.room (omega arith) (omega arith) (omega arith))

-- the ends decide
pub returns : goal.returns
returns c =
    let a = c.args in
    c.rounds_fit.ensures ∙ sym (ends_decide (trace_from a.n a.firsts.now a.seconds.now a.values.now a.order.now a.rounds) a.room (omega arith) (omega arith) (omega arith))
