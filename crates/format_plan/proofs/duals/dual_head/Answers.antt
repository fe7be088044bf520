-- `format_plan::duals::dual_head` meets its contract: a refusal of any part stays, and a value goes on to the next part.
use mathlib.Core.Path.{sym, ◌∙◌}
use Rattle.format_write.specs.Key.{dual_key}
use Rattle.format_read.specs.Answer.{number_step}
use Rattle.format_read.proofs.Laws.Byte.{colon_step}
use Rattle.format_read.proofs.Laws.NumberStep.{refusal_stays, value_goes}
use Rattle.format_plan.specs.Lines.{dual_head}
use Rattle.format_plan.proofs.duals.dual_head.Goals as goal

pub returns-in_default : goal.returns-in_default
unfolding dual_head dual_key
returns-in_default c = refusal_stays _ c.fixed-key.ensures c.in_default.is

pub returns-in_default-sum : goal.returns-in_default-sum
unfolding dual_head dual_key
returns-in_default-sum c =
    refusal_stays _ c.number_at-sum.ensures c.in_default-sum.is
    ∙ sym (value_goes _ c.fixed-key.ensures c.in-Value.is)

pub returns-in_default-mark : goal.returns-in_default-mark
unfolding dual_head dual_key
returns-in_default-mark c =
    refusal_stays _ (c.class_step-mark.ensures ∙ colon_step _ _) c.in_default-mark.is
    ∙ sym (value_goes _ c.number_at-sum.ensures c.in-Value-sum.is)
    ∙ sym (value_goes _ c.fixed-key.ensures c.in-Value.is)

pub returns : goal.returns
unfolding dual_head dual_key number_step
returns c =
    sym (value_goes _ (c.class_step-mark.ensures ∙ colon_step _ _) c.in-Value-mark.is)
    ∙ sym (value_goes _ c.number_at-sum.ensures c.in-Value-sum.is)
    ∙ sym (value_goes _ c.fixed-key.ensures c.in-Value.is)
