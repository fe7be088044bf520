-- `draw_trace` meets its contract: up to component number c, trees and members are the trace's and the duals stand in the buffer.
use Prim.Native.Nat.{◌≤◌}
use Rattle.plan_draw.specs.Trace.{trace_from}
use Rattle.plan_draw.proofs.Laws.Trace.{Replayed}
use Rattle.plan_draw.proofs.draw_trace.Given as goal

abbrev pub invariant-loop-c : goal.invariant-loop-c
invariant-loop-c l =
    (l.c ≤ l.end) × Replayed (trace_from l.n l.firsts l.seconds l.values l.order l.rounds) l.c l.ups l.sets l.initial.records l.records l.count
