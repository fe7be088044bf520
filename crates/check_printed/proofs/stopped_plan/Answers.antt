-- `check_printed::stopped_plan` meets its contract, by the case that the step is.
use mathlib.Core.Path.{sym, ap}
use Rattle.check_rule.specs.Check.{Checked}
use Rattle.format_plan.specs.Answer.{plan_outcome}
use Rattle.check_printed.specs.Answer.{verified_outcome, refused_only}
use Rattle.check_printed.proofs.stopped_plan.Goals as goal

pub returns-in-Refused : goal.returns-in-Refused
unfolding verified_outcome plan_outcome refused_only
returns-in-Refused c = sym (ap (λ x. refused_only {B = Checked} (plan_outcome x)) c.in-Refused.is)

pub returns-in-Plan : goal.returns-in-Plan
unfolding verified_outcome plan_outcome refused_only
returns-in-Plan c = sym (ap (λ x. refused_only {B = Checked} (plan_outcome x)) c.in-Plan.is)
