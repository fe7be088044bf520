-- `check_printed::claims::stopped_check` meets its contract, by the case that the answer is.
use mathlib.Core.Path.{sym, ap}
use Rattle.check_rule.specs.Check.{Checked}
use Rattle.check_core.specs.Stage.{checked_outcome}
use Rattle.check_printed.specs.Answer.{verified_outcome, refused_only}
use Rattle.check_printed.proofs.claims.stopped_check.Goals as goal

pub returns-in-Refused : goal.returns-in-Refused
unfolding verified_outcome checked_outcome refused_only
returns-in-Refused c = sym (ap (λ x. refused_only {B = Checked} (checked_outcome x)) c.in-Refused.is)

pub returns-in-Passed : goal.returns-in-Passed
unfolding verified_outcome checked_outcome refused_only
returns-in-Passed c = sym (ap (λ x. refused_only {B = Checked} (checked_outcome x)) c.in-Passed.is)
