-- `print_plan`: printed where every such plan fits; else refused by the measured text, or printed.
use Prim.Native.Nat.{◌≤◌}
use native.Mathlib.Omega.{arith}
use mathlib.Core.Path.{sym, ◌∙◌}
use lib.ListN.{length}
use Rattle.format_write.specs.Text.{plan_text}
use Rattle.format_print.specs.Laws.Print.{whole_prints, short_prints, fit_prints}
use Rattle.format_print.specs.Laws.Room.{plan_text_room, holds_all_elim}
use Rattle.format_print.proofs.plan.print_plan.Goals as goal

-- printed, not measured
pub returns-then-holds_all : goal.returns-then-holds_all
returns-then-holds_all c =
    let a = c.args in
    let text = plan_text a.terminals a.cost a.bound a.rounds a.marks.now a.records.now in
    let all = holds_all_elim (length a.marks.now) (length a.records.now) _ (sym c.holds_all.ensures ∙ c.if-holds_all.true) in
    let room = all.enough in
    let most =
    plan_text_room a.terminals a.cost a.bound a.rounds a.marks.now a.records.now (record {
      terminals_fit = omega arith;
      cost_fits = omega arith;
      bound_fits = omega arith;
      rounds_fit = omega arith;
      marks_few = all.few_marks;
      records_few = all.few_records;
      records_bytes = λ i. (c.type_inv.records i).fits;
    }) in
    let fits : length text ≤ length a.out.now = omega (arith, most, room) in
    let p = whole_prints text a.out.now (omega arith) fits c.put_plan.ensures in
    record { value = p.answers; out_value = p.leaves }

-- 7: the buffer is short
pub returns-then-out-need : goal.returns-then-out-need
returns-then-out-need c =
    let a = c.args in
    let text = plan_text a.terminals a.cost a.bound a.rounds a.marks.now a.records.now in
    let p = short_prints text a.out.now (omega arith) c.put_plan-need.ensures c.if-out-need.true in
    record { value = p.answers; out_value = p.leaves }

-- measured and printed
pub returns : goal.returns
returns c =
    let a = c.args in
    let text = plan_text a.terminals a.cost a.bound a.rounds a.marks.now a.records.now in
    let p = fit_prints text a.out.now (omega arith) c.put_plan-need.ensures c.if-out-need.false c.put_plan-2.ensures in
    record { value = p.answers; out_value = p.leaves }
