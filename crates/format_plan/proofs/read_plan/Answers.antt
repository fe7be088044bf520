-- `format_plan::read_plan` meets its contract, by the cases of the counts and of the lines after them.
use mathlib.Core.Path.{ap, sym, ◌∙◌}
use Rattle.base_limits.specs.Verdict.{answer}
use Rattle.format_read.specs.Step.{stopped}
use Rattle.format_read.proofs.Laws.Step.{stored_found, stored_refused}
use Rattle.format_read.specs.Answer.{number_step}
use Rattle.format_survey.specs.Reading.{step_outcome}
use Rattle.format_plan.specs.Plan.{marks_read, records_read}
use Rattle.format_plan.specs.Answer.{Read, claims_step, plan_outcome, read_of}
use Rattle.format_plan.proofs.Laws.Reading.{outcome_uncounted, plan_outcome_refused, outcome_found}
use Rattle.format_plan.proofs.read_plan.Goals as goal

-- the counts are refused
pub returns-in_default : goal.returns-in_default
unfolding plan_outcome claims_step stopped step_outcome read_of marks_read records_read
returns-in_default c =
    let a = c.args in
    let told = c.in_default.is in
    let r = outcome_uncounted a.text.now a.from a.edges a.marks.now a.records.now (sym c.claim_lines-claims.ensures ∙ ap claims_step told) in (
      c.stopped_counts.ensures ∙ ap (λ x. step_outcome (stopped {B = Read} (claims_step x))) told ∙ sym (ap read_of r),
      sym (ap (λ o. marks_read o a.edges a.marks.now) r),
      sym (ap (λ o. records_read o a.records.now) r),
    )

-- a line is refused
pub returns-in_default-lines : goal.returns-in_default-lines
unfolding plan_outcome claims_step number_step stopped step_outcome read_of marks_read records_read
returns-in_default-lines c =
    let a = c.args in
    let told = c.in_default-lines.is in
    let s = ap number_step told in
    let r = plan_outcome_refused a.text.now a.from a.edges a.marks.now a.records.now (sym c.claim_lines-claims.ensures ∙ ap claims_step c.in-Found.is) (sym c.plan_lines-lines.ensures.0 ∙ s) in (
      c.stopped_lines.ensures ∙ ap (λ x. step_outcome (stopped {B = Read} (number_step x))) told ∙ sym (ap read_of r),
      c.plan_lines-lines.ensures.1 ∙ stored_refused _ a.marks.now s ∙ sym (ap (λ o. marks_read o a.edges a.marks.now) r),
      c.plan_lines-lines.ensures.2 ∙ stored_refused _ a.records.now s ∙ sym (ap (λ o. records_read o a.records.now) r),
    )

-- all is read
pub returns : goal.returns
unfolding plan_outcome claims_step number_step read_of marks_read records_read
returns c =
    let a = c.args in
    let s = ap number_step c.in-Value.is in
    let o = outcome_found a.text.now a.from a.edges a.marks.now a.records.now (sym c.claim_lines-claims.ensures ∙ ap claims_step c.in-Found.is) (sym c.plan_lines-lines.ensures.0 ∙ s) in (
      ap (λ n. answer (record { claims = record { terminals = c.in-Found.terminals; cost = c.in-Found.cost; bound = c.in-Found.bound; rounds = c.in-Found.rounds }; duals = n })) o.1 ∙ sym (ap read_of o.0),
      c.plan_lines-lines.ensures.1 ∙ stored_found _ a.marks.now s ∙ sym (ap (λ o. marks_read o a.edges a.marks.now) o.0),
      c.plan_lines-lines.ensures.2 ∙ stored_found _ a.records.now s ∙ sym (ap (λ o. records_read o a.records.now) o.0),
    )
