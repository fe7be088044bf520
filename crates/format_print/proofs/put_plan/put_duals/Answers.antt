-- `put_duals`: what is written so far are the lines of the records before i.
use Prim.Native.Nat.{◌≤◌, ◌/◌}
use native.Mathlib.Omega.{arith}
use mathlib.Core.Path.{◌≡◌, ap, sym}
use lib.ListN.{length}
use Rattle.format_write.specs.Wrote.{farthest}
use Rattle.format_write.proofs.Laws.Wrote.{wrote_none, wrote_then, wrote_as}
use Rattle.base_limits.specs.Limits.{record_bytes}
use Rattle.format_record.specs.Record.{record_at}
use Rattle.format_write.specs.Text.{text_below, dual_line, dual_lines}
use Rattle.format_write.proofs.Laws.Text.{text_none, text_next}
use Rattle.format_print.proofs.put_plan.put_duals.Goals as goal

pub loop-i-init : goal.loop-i-init
loop-i-init c =
    let a = c.args in
    wrote_as (wrote_none a.out.now a.at) (sym (text_none _))

pub loop-i-preserved : goal.loop-i-preserved
loop-i-preserved c =
    let a = c.args in
    let small : length a.out.now ≤ farthest = omega arith in
    let line = wrote_as c.put_dual-next.ensures (ap dual_line c.«record».ensures) in
    wrote_as
    (wrote_then small c.loop-i.invariant line)
    (text_next (λ k. dual_line (record_at a.records.now k)) c.loop-i.i)

pub returns : goal.returns
unfolding dual_lines
returns c =
    let records = c.args.records.now in
    let all : c.loop-i.i ≡ length records / record_bytes = omega arith in
    wrote_as c.loop-i.invariant (ap (λ n. text_below n (λ k. dual_line (record_at records k))) all)
