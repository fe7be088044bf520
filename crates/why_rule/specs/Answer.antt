-- What an answer of the call says in the papers' numbers.
use Rattle.base_limits.specs.Verdict.{Outcome, refusal, answer}
use Rattle.why_rule.specs.declared.Why.{Why}
use Rattle.why_rule.specs.declared.Why.TheVariants.{Kept, Dropped, Passed, Refused}
use Rattle.why_rule.specs.Why.{WhyCounts}

unfoldable pub why_outcome : Why → Outcome WhyCounts
why_outcome (Kept group smaller larger entries) = answer (record { kind = 2; group = group; low = smaller; high = larger; entries = entries; round = 0 })
why_outcome Dropped = answer (record { kind = 1; group = 0; low = 0; high = 0; entries = 0; round = 0 })
why_outcome (Passed round) = answer (record { kind = 0; group = 0; low = 0; high = 0; entries = 0; round = round })
why_outcome (Refused number place) = refusal number place
