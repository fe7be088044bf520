-- `format_plan::duals::dual_lines` meets its contract: what is left to read and to store is what the whole reads and stores.
use mathlib.Core.Path.{ap, sym, ◌∙◌}
use lib.ListN.{length}
use borrow.Author.Tests.{le-leb}
use Rattle.format_read.specs.Answer.{number_step}
use Rattle.format_plan.specs.Lines.{dual_reader, duals_at, put_dual}
use Rattle.format_read.proofs.Laws.Items.{left_start, left_stop, left_out_law}
use Rattle.format_plan.proofs.Laws.Lines.{duals_more, duals_refused}
use Rattle.format_plan.proofs.duals.dual_lines.Goals as goal

pub loop-i-init : goal.loop-i-init
unfolding duals_at
loop-i-init c =
    let a = c.args in
    left_start (dual_reader a.text.now) put_dual (length a.text.now) 0 a.cursor.at a.records.now

-- the items end
pub returns-then-text-at : goal.returns-then-text-at
unfolding number_step dual_reader
returns-then-text-at c = left_stop _ _ _ _ _ _ _ _ _ c.loop-i-test.true (le-leb _ _ c.if-text-at.true) c.loop-i.invariant

-- a dual is refused
pub returns-in_default : goal.returns-in_default
unfolding number_step
returns-in_default c =
    rw c.in_default.is
    (duals_refused _ _ _ _ _ _ _ c.loop-i-test.true c.if-text-at.false (sym (ap number_step c.in_default.is) ∙ c.dual_line-step.ensures.end) c.dual_line-step.ensures.stored c.loop-i.invariant).0

pub loop-i-preserved : goal.loop-i-preserved
unfolding number_step
loop-i-preserved c =
    duals_more _ _ _ _ _ _ _ c.loop-i-test.true c.if-text-at.false (sym (ap number_step c.in-Value.is) ∙ c.dual_line-step.ensures.end) c.dual_line-step.ensures.stored c.loop-i.invariant

-- 16: no fuel left
pub returns : goal.returns
unfolding number_step
returns c = left_out_law _ _ _ _ _ _ _ _ _ c.loop-i-test.false c.loop-i.invariant
