-- `format_plan::members::members` meets its contract: what is left to read and to store is what the whole reads and stores.
use mathlib.Core.Path.{ap, sym, ◌∙◌}
use lib.ListN.{length}
use Rattle.format_read.specs.Answer.{number_step}
use Rattle.format_read.proofs.Laws.Byte.{is_line_end}
use Rattle.format_plan.specs.Lines.{member_reader, members_at, put_member}
use Rattle.format_read.proofs.Laws.Items.{left_start, left_more, left_stop, left_refused, left_out_law}
use Rattle.format_plan.proofs.members.members.Goals as goal

pub loop-i-init : goal.loop-i-init
unfolding members_at
loop-i-init c =
    let a = c.args in
    left_start (member_reader a.text.now) put_member (length a.text.now) 0 a.cursor.at a.part.now

-- the items end
pub returns-then-is_class : goal.returns-then-is_class
unfolding number_step member_reader
returns-then-is_class c = left_stop _ _ _ _ _ _ _ _ _ c.loop-i-test.true (sym (c.is_class.ensures ∙ is_line_end _ _) ∙ c.if-is_class.true) c.loop-i.invariant

-- an item is refused
pub returns-in_default : goal.returns-in_default
unfolding number_step member_reader
returns-in_default c =
    rw c.in_default.is
    (left_refused _ _ _ _ _ _ _ _ _ c.loop-i-test.true (sym (c.is_class.ensures ∙ is_line_end _ _) ∙ c.if-is_class.false) (sym c.member_at-step.ensures ∙ ap number_step c.in_default.is) c.loop-i.invariant)

pub loop-i-preserved : goal.loop-i-preserved
unfolding number_step member_reader
loop-i-preserved c =
    rw (c.add_member.ensures, c.risen_after-low.ensures)
    (left_more _ put_member _ _ _ _ _ _ _ c.loop-i-test.true (sym (c.is_class.ensures ∙ is_line_end _ _) ∙ c.if-is_class.false) (sym c.member_at-step.ensures ∙ ap number_step c.in-Value.is) c.loop-i.invariant)

-- 16: no fuel left
pub returns : goal.returns
unfolding number_step member_reader
returns c = left_out_law _ _ _ _ _ _ _ _ _ c.loop-i-test.false c.loop-i.invariant
