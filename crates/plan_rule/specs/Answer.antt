-- What an answer of a call says in the papers' numbers.
use Rattle.base_limits.specs.Verdict.{Outcome, refusal, answer}
use Rattle.plan_rule.specs.declared.Planned.{Planned}
use Rattle.plan_rule.specs.declared.Planned.TheVariants.{Finished, Refused}
use Rattle.plan_rule.specs.declared.Dropped.{Dropped}
use Rattle.plan_rule.specs.declared.Dropped.TheVariants.{Finished as DropFinished, Refused as DropRefused}
use Rattle.plan_rule.specs.Plan.{PlanCounts}
use Rattle.plan_rule.specs.Dropping.{DropCounts}

unfoldable pub planned_outcome : Planned → Outcome PlanCounts
planned_outcome (Finished terminals cost bound rounds duals) =
    answer (record { terminals = terminals; cost = cost; bound = bound; rounds = rounds; duals = duals })
planned_outcome (Refused number place) = refusal number place

unfoldable pub dropped_outcome : Dropped → Outcome DropCounts
dropped_outcome (DropFinished terminals cost) = answer (record { terminals = terminals; cost = cost })
dropped_outcome (DropRefused number place) = refusal number place
