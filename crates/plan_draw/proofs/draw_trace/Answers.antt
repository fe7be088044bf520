-- `draw_trace` meets its contract: up to component number c, trees and members are the trace's and the duals stand in the buffer.
use Prim.Native.Nat.{ℕ, ◌*◌}
use mathlib.Core.Path.{sym}
use mathlib.Core.List.{List}
use lib.ListN.{length-replicate}
use Rattle.base_limits.specs.Limits.{max_vertices}
use Rattle.plan_draw.specs.Members.{no_member}
use Rattle.plan_draw.specs.Trace.{trace_from}
use Rattle.plan_draw.proofs.Laws.Trace.{replayed_none, replayed_more, replayed_end}
use native.Mathlib.Omega.{arith}
use Rattle.plan_draw.proofs.draw_trace.Goals as goal

pub loop-c-init : goal.loop-c-init
loop-c-init c = (omega arith, replayed_none _ _ (length-replicate {A = ℕ} (2 * max_vertices) 0) (length-replicate {A = List ℕ} max_vertices no_member))

pub slice_bounds-arise-end : goal.slice_bounds-arise-end
slice_bounds-arise-end c = sym c.loop-c.invariant.1.sets_hold.long

pub loop-c-preserved : goal.loop-c-preserved
loop-c-preserved c =
    let a = c.args in
    let more = c.loop-c-test.true in (
      omega (arith, more),
      replayed_more (trace_from a.n a.firsts.now a.seconds.now a.values.now a.order.now a.rounds) c.loop-c.c c.requires more c.loop-c.invariant.1
          c.arise-set.ensures.set
          c.arise-set.ensures.ups
          c.arise-set.ensures.sets
          c.at.ensures
          c.write_dual-count.ensures.count
          c.write_dual-count.ensures.written,
    )

pub returns : goal.returns
returns c =
    let d = replayed_end _ c.loop-c.c (omega arith) (omega arith) c.loop-c.invariant.1 in
    record { count = d.count_is; written = d.records_are }
