-- `format_plan::plan_lines` meets its contract: the first pass stores nothing, and the second stores where nothing is refused.
use native.Mathlib.Omega.{arith}
use Prim.Native.Nat.{ℕ}
use mathlib.Core.Path.{ap, sym, ◌∙◌}
use lib.ListN.{length, length-take, length-drop}
use Rattle.format_read.specs.Step.{stored_if}
use Rattle.format_read.proofs.Laws.Items.{empty_pass}
use Rattle.format_plan.specs.Lines.{put_mark, put_dual}
use Rattle.format_plan.proofs.Laws.Puts.{mark_length, dual_length}
use Rattle.format_read.specs.Answer.{number_step}
use Rattle.format_plan.specs.Plan.{plan_lines_at}
use Rattle.format_plan.proofs.Laws.Fill.{cleared_part}
use Rattle.format_plan.proofs.Laws.Reading.{roomed_refused, short_marks, short_records, roomed_found, marks_stored, records_stored}
use Rattle.format_plan.proofs.plan_lines.Goals as goal

-- the first pass is refused
pub returns-in_default : goal.returns-in_default
unfolding number_step stored_if
returns-in_default c =
    let a = c.args in
    let b = plan_lines_at a.text.now a.edges a.cursor.at in
    let told = ap number_step c.in_default.is in
    let e = sym c.plan_body-found.ensures.0 ∙ told in
    rw c.in_default.is (
      sym (roomed_refused b a.edges (length a.marks.now) (length a.records.now) e),
      empty_pass put_mark mark_length a.marks.now b.kept c.plan_body-found.ensures.1,
      empty_pass put_dual dual_length a.records.now b.duals c.plan_body-found.ensures.2,
    )

-- 7: the mark buffer is short
pub returns-then-marks-edges : goal.returns-then-marks-edges
unfolding number_step stored_if
returns-then-marks-edges c =
    let a = c.args in
    let b = plan_lines_at a.text.now a.edges a.cursor.at in
    let e = sym c.plan_body-found.ensures.0 ∙ ap number_step c.in-Value.is in
    let m = empty_pass put_mark mark_length a.marks.now b.kept c.plan_body-found.ensures.1 in
    let r = empty_pass put_dual dual_length a.records.now b.duals c.plan_body-found.ensures.2 in
    (short_marks a.text.now a.edges a.cursor.at a.marks.now a.records.now m r e c.if-marks-edges.true, m, r)

-- 7: the record buffer is short
pub returns-then-records-count : goal.returns-then-records-count
unfolding number_step stored_if
returns-then-records-count c =
    let a = c.args in
    let b = plan_lines_at a.text.now a.edges a.cursor.at in
    let e = sym c.plan_body-found.ensures.0 ∙ ap number_step c.in-Value.is in
    let m = empty_pass put_mark mark_length a.marks.now b.kept c.plan_body-found.ensures.1 in
    let r = empty_pass put_dual dual_length a.records.now b.duals c.plan_body-found.ensures.2 in
    (short_records a.text.now a.edges a.cursor.at a.marks.now a.records.now m r e c.if-marks-edges.false c.if-records-count.true, m, r)

-- both passes
pub returns : goal.returns
unfolding number_step
returns c =
    let a = c.args in
    let b = plan_lines_at a.text.now a.edges a.cursor.at in
    let e = sym c.plan_body-found.ensures.0 ∙ ap number_step c.in-Value.is in
    let m = empty_pass put_mark mark_length a.marks.now b.kept c.plan_body-found.ensures.1 in
    let r = empty_pass put_dual dual_length a.records.now b.duals c.plan_body-found.ensures.2 in
    let h = c.if-marks-edges.false in
    let k = c.if-records-count.false in
    let s = c.plan_body.ensures.0 ∙ e in (
      s ∙ sym (roomed_found a.text.now a.edges a.cursor.at a.marks.now a.records.now m r e h k),
      marks_stored a.text.now a.edges a.cursor.at a.marks.now a.records.now m r e h s (cleared_part a.edges _ _ _ (omega (arith, length-take {A = ℕ}, length-drop {A = ℕ})) h (c.fill.ensures.after (λ y e. e))) c.plan_body.ensures.1,
      records_stored a.text.now a.edges a.cursor.at a.marks.now a.records.now m r e k s c.plan_body.ensures.2,
    )
