-- `format_plan::duals::store_dual` meets its contract: the record takes the place of that of the buffer.
use native.Mathlib.Omega.{arith}
use mathlib.Core.Path.{sym}
use lib.ListN.{length-take, length-drop}
use Rattle.format_plan.specs.Lines.{listed_dual}
use Rattle.format_plan.proofs.Laws.Lines.{dual_put_part, dual_left}
use Rattle.format_plan.proofs.duals.store_dual.Goals as goal

pub fill_record-requires : goal.fill_record-requires
fill_record-requires c =
    let a = c.args in
    (simp (length-take, length-drop) (omega arith), c.requires)

pub returns-then-i-records : goal.returns-then-i-records
returns-then-i-records c =
    let a = c.args in
    rw c.fill_record.ensures (dual_put_part a.records.now a.i (listed_dual a.text.now a.amount a.list.at) c.if-i-records.true)

pub returns-else-i-records : goal.returns-else-i-records
returns-else-i-records c =
    let a = c.args in
    sym (dual_left a.records.now a.i _ c.if-i-records.false)
