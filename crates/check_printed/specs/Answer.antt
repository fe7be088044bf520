-- What the answer of the check says in the terms of the definitions.
use Rattle.base_limits.specs.Verdict.{Outcome, refusal, answer}
use Rattle.check_rule.specs.Check.{Checked}
use Rattle.check_printed.specs.declared.Verified.{Verified}
use Rattle.check_printed.specs.declared.Verified.TheVariants.{Passed, Refused}

-- The answer of the check: k, kept cost and bound, or the refusal.
unfoldable pub verified_outcome : Verified → Outcome Checked
verified_outcome (Passed k c b) = answer (record { terminals = k; cost = c; bound = b })
verified_outcome (Refused number place) = refusal number place

-- A refusal, whatever was asked for; nothing may follow an answer.
unfoldable pub refused_only : {A B : Type 0} → Outcome A → Outcome B
refused_only (refusal number place) = refusal number place
refused_only (answer a) = refusal 16 0
