-- `format_plan::members::member_at` meets its contract: the first member follows at once, a later one behind a comma.
use mathlib.Core.Path.{sym, ◌∙◌}
use Rattle.format_read.specs.Step.{◌then◌}
use Rattle.format_read.specs.Bytes.{fixed_at}
use Rattle.format_read.proofs.Laws.Byte.{comma_step}
use Rattle.format_read.proofs.Laws.NumberStep.{refusal_stays, value_goes}
use Rattle.format_plan.specs.Lines.{member_step}
use Rattle.format_plan.proofs.Laws.Tests.{separator_first, separator_later}
use Rattle.format_plan.proofs.members.member_at.Goals as goal

pub returns-then-i-eq0 : goal.returns-then-i-eq0
unfolding member_step fixed_at ◌then◌
returns-then-i-eq0 c = rw (separator_first c.if-i-eq0.true) c.number_at.ensures

pub returns-in_default : goal.returns-in_default
unfolding member_step
returns-in_default c = rw (separator_later _ c.if-i-eq0.false) (refusal_stays _ (c.class_step-step.ensures ∙ comma_step _ _) c.in_default.is)

pub returns : goal.returns
unfolding member_step
returns c = rw (separator_later _ c.if-i-eq0.false) (c.number_at-2.ensures ∙ sym (value_goes _ (c.class_step-step.ensures ∙ comma_step _ _) c.in-Value.is))
