-- `draw` meets its contract: a trace that passes the test is replayed, and of another nothing is drawn.
use mathlib.Core.Path.{ap, sym, ◌∙◌}
use lib.ListN.{length}
use Rattle.plan_draw.specs.Drawing.{records_over}
use Rattle.plan_draw.specs.Trace.{trace_from}
use Rattle.plan_draw.proofs.Laws.Drawable.{test_drawable, drawn_all, drawn_none}
use Rattle.plan_draw.proofs.draw.Goals as goal

pub draw_trace-requires : goal.draw_trace-requires
draw_trace-requires c =
    let a = c.args in
    test_drawable (trace_from a.n a.firsts.now a.seconds.now a.values.now a.order.now a.rounds) a.records.now (sym c.is_drawable.ensures ∙ c.if-is_drawable.true)

-- drawn
pub returns-then-is_drawable : goal.returns-then-is_drawable
returns-then-is_drawable c =
    let a = c.args in
    let records = a.records.now in
    let t = trace_from a.n a.firsts.now a.seconds.now a.values.now a.order.now a.rounds in
    let test = sym c.is_drawable.ensures ∙ c.if-is_drawable.true in
    let all = drawn_all t records (test_drawable t records test) in
    record { count = c.draw_trace.ensures.count ∙ ap length (sym all); written = c.draw_trace.ensures.written ∙ ap (λ ds. records_over ds records) (sym all) }

-- nothing is drawn
pub returns : goal.returns
returns c =
    let a = c.args in
    let whole = drawn_none (trace_from a.n a.firsts.now a.seconds.now a.values.now a.order.now a.rounds) a.records.now (sym c.is_drawable.ensures ∙ c.if-is_drawable.false) in record { count = whole.0; written = whole.1 }
