-- `format_plan::keep::keep_lines` meets its contract: what is left to read and to store is what the whole reads and stores.
use native.Mathlib.Omega.{arith}
use mathlib.Core.Path.{ap, sym, ◌∙◌}
use mathlib.Core.Bool.{not}
use lib.ListN.{length}
use Rattle.format_read.specs.Answer.{number_step}
use Rattle.format_read.proofs.Laws.Byte.{is_keep}
use Rattle.format_plan.specs.Lines.{keep_reader, kept_at, put_mark}
use Rattle.format_read.proofs.Laws.Items.{left_start, left_more, left_stop, left_refused, left_out_law}
use Rattle.format_plan.proofs.Laws.Lines.{keep_passed}
use Rattle.format_plan.proofs.keep.keep_lines.Goals as goal

pub loop-i-init : goal.loop-i-init
unfolding kept_at
loop-i-init c =
    let a = c.args in
    left_start (keep_reader a.text.now a.edges) put_mark (length a.text.now) 0 a.cursor.at a.marks.now

-- the items end
pub returns-then-not-is_class : goal.returns-then-not-is_class
unfolding number_step keep_reader
returns-then-not-is_class c = left_stop _ _ _ _ _ _ _ _ _ c.loop-i-test.true (ap not (sym (c.is_class.ensures ∙ is_keep _ _) ∙ c.if-not-is_class.true)) c.loop-i.invariant

-- an item is refused
pub returns-in_default : goal.returns-in_default
unfolding number_step keep_reader
returns-in_default c =
    rw c.in_default.is
    (left_refused _ _ _ _ _ _ _ _ _ c.loop-i-test.true (ap not (sym (c.is_class.ensures ∙ is_keep _ _) ∙ c.if-not-is_class.false)) (sym c.keep_line-step.ensures ∙ ap number_step c.in_default.is) c.loop-i.invariant)

pub overflow_add-low : goal.overflow_add-low
unfolding number_step
overflow_add-low c =
    let a = c.args in
    let k = keep_passed a.text.now a.edges c.loop-i.low c.loop-i.i c.loop-i.next.at (sym c.keep_line-step.ensures ∙ ap number_step c.in-Value.is) in
    omega (arith, k.below)

pub loop-i-preserved : goal.loop-i-preserved
unfolding number_step keep_reader
loop-i-preserved c =
    rw c.put.ensures
    (left_more _ put_mark _ _ _ _ _ _ _ c.loop-i-test.true (ap not (sym (c.is_class.ensures ∙ is_keep _ _) ∙ c.if-not-is_class.false)) (sym c.keep_line-step.ensures ∙ ap number_step c.in-Value.is) c.loop-i.invariant)

-- 16: no fuel left
pub returns : goal.returns
unfolding number_step keep_reader
returns c = left_out_law _ _ _ _ _ _ _ _ _ c.loop-i-test.false c.loop-i.invariant
