-- `format_plan::duals::dual_line` meets its contract: a refusal of the start, of the members or of a test stays; otherwise the record is stored.
use native.Mathlib.Omega.{arith}
use mathlib.Core.Path.{refl, ap, sym, ◌∙◌}
use Rattle.format_read.specs.Answer.{number_step}
use Rattle.format_plan.specs.Lines.{put_member, put_dual, listed_dual}
use Rattle.format_plan.proofs.Laws.Tests.{dual_falls, dual_many, dual_line_fine}
use Rattle.format_plan.proofs.Laws.Puts.{member_length}
use Rattle.format_read.proofs.Laws.Items.{empty_pass}
use Rattle.format_plan.proofs.Laws.Lines.{listed_below, members_end, dual_stops, dual_unlisted, dual_refused, dual_read}
use Rattle.format_plan.proofs.duals.dual_line.Goals as goal

-- the head is refused
pub returns-in_default : goal.returns-in_default
unfolding number_step
returns-in_default c =
    let a = c.args in
    rw c.in_default.is (dual_stops a.text.now a.i a.cursor.at (sym c.dual_head-head.ensures ∙ ap number_step c.in_default.is) refl)

-- the members are refused
pub returns-in_default-step : goal.returns-in_default-step
unfolding number_step
returns-in_default-step c =
    let a = c.args in
    rw c.in_default-step.is
    (dual_unlisted a.text.now a.i a.cursor.at (sym c.dual_head-head.ensures ∙ ap number_step c.in-Value.is)
    (sym c.members-step.ensures.end ∙ ap number_step c.in_default-step.is)
    (empty_pass put_member member_length a.records.now _ c.members-step.ensures.stored))

-- 27: the members do not rise
pub returns-then-low-gt-MEMBER_NUMBERS : goal.returns-then-low-gt-MEMBER_NUMBERS
unfolding number_step
returns-then-low-gt-MEMBER_NUMBERS c =
    let a = c.args in
    dual_refused a.text.now a.i a.cursor.at (sym c.dual_head-head.ensures ∙ ap number_step c.in-Value.is)
    (sym c.members-step.ensures.end ∙ ap number_step c.in-Value-step.is)
    (dual_falls a.i _ c.if-low-gt-MEMBER_NUMBERS.true)
    (empty_pass put_member member_length a.records.now _ c.members-step.ensures.stored)

-- 28: a dual too many
pub returns-then-i-ge-MAX_DUALS : goal.returns-then-i-ge-MAX_DUALS
unfolding number_step
returns-then-i-ge-MAX_DUALS c =
    let a = c.args in
    dual_refused a.text.now a.i a.cursor.at (sym c.dual_head-head.ensures ∙ ap number_step c.in-Value.is)
    (sym c.members-step.ensures.end ∙ ap number_step c.in-Value-step.is)
    (dual_many a.i _ c.if-low-gt-MEMBER_NUMBERS.false c.if-i-ge-MAX_DUALS.true)
    (empty_pass put_member member_length a.records.now _ c.members-step.ensures.stored)

pub store_dual-requires : goal.store_dual-requires
unfolding number_step
store_dual-requires c =
    let a = c.args in
    listed_below a.text.now _ (sym c.members-step.ensures.end ∙ ap number_step c.in-Value-step.is) c.if-low-gt-MEMBER_NUMBERS.false

pub overflow_add-result : goal.overflow_add-result
unfolding number_step
overflow_add-result c =
    let a = c.args in
    let k = members_end a.text.now _ (sym c.members-step.ensures.end ∙ ap number_step c.in-Value-step.is) in
    omega (arith, k)

-- the line is read
pub returns : goal.returns
unfolding number_step
returns c =
    let a = c.args in
    dual_read a.text.now a.i a.cursor.at (sym c.dual_head-head.ensures ∙ ap number_step c.in-Value.is)
    (sym c.members-step.ensures.end ∙ ap number_step c.in-Value-step.is)
    (dual_line_fine a.i _ c.if-low-gt-MEMBER_NUMBERS.false c.if-i-ge-MAX_DUALS.false)
    (c.store_dual.ensures ∙ ap (λ l. put_dual l a.i (listed_dual a.text.now c.in-Value.amount c.in-Value.list.at)) (empty_pass put_member member_length a.records.now _ c.members-step.ensures.stored))
