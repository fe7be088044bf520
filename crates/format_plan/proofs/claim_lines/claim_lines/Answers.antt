-- `format_plan::claim_lines::claim_lines` meets its contract: a refusal of any line stays, and a value goes on to the next line.
use mathlib.Core.Path.{sym, ◌∙◌}
use Rattle.format_write.specs.Key.{terminals_key, cost_key, bound_key, rounds_key}
use Rattle.format_read.proofs.Laws.NumberStep.{stopped_stays, value_goes}
use Rattle.format_plan.specs.Plan.{claims_at}
use Rattle.format_plan.specs.Answer.{claims_step}
use Rattle.format_plan.proofs.claim_lines.claim_lines.Goals as goal

pub returns-in_default : goal.returns-in_default
unfolding claims_at terminals_key cost_key bound_key rounds_key
returns-in_default c = c.stopped_claims.ensures ∙ stopped_stays _ c.number_line-one.ensures c.in_default.is

pub returns-in_default-two : goal.returns-in_default-two
unfolding claims_at terminals_key cost_key bound_key rounds_key
returns-in_default-two c =
    c.stopped_claims-in_default-two.ensures
    ∙ stopped_stays _ c.number_line-two.ensures c.in_default-two.is
    ∙ sym (value_goes _ c.number_line-one.ensures c.in-Value.is)

pub returns-in_default-three : goal.returns-in_default-three
unfolding claims_at terminals_key cost_key bound_key rounds_key
returns-in_default-three c =
    c.stopped_claims-in_default-three.ensures
    ∙ stopped_stays _ c.number_line-three.ensures c.in_default-three.is
    ∙ sym (value_goes _ c.number_line-two.ensures c.in-Value-two.is)
    ∙ sym (value_goes _ c.number_line-one.ensures c.in-Value.is)

pub returns-in_default-four : goal.returns-in_default-four
unfolding claims_at terminals_key cost_key bound_key rounds_key
returns-in_default-four c =
    c.stopped_claims-in_default-four.ensures
    ∙ stopped_stays _ c.number_line-four.ensures c.in_default-four.is
    ∙ sym (value_goes _ c.number_line-three.ensures c.in-Value-three.is)
    ∙ sym (value_goes _ c.number_line-two.ensures c.in-Value-two.is)
    ∙ sym (value_goes _ c.number_line-one.ensures c.in-Value.is)

pub returns : goal.returns
unfolding claims_at terminals_key cost_key bound_key rounds_key claims_step
returns c =
    sym (value_goes _ c.number_line-four.ensures c.in-Value-four.is)
    ∙ sym (value_goes _ c.number_line-three.ensures c.in-Value-three.is)
    ∙ sym (value_goes _ c.number_line-two.ensures c.in-Value-two.is)
    ∙ sym (value_goes _ c.number_line-one.ensures c.in-Value.is)
