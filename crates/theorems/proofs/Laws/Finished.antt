-- Where a finished plan comes from, and what the programs `plan` and `verify` print for its text.
use Rattle.std.specs.Prelude.{ℕ, ◌≤◌, ◌≡◌, refl, length}
use Rattle.std.proofs.Common.{arith, sym, ◌∙◌, subst}
use Rattle.std.proofs.Math.Path.{ap}
use mathlib.Core.List.{List, ◌++◌}
use Rattle.base_limits.specs.Limits.{max_edges, records_room, survey_room, verify_room}
use Rattle.base_limits.specs.Verdict.{Outcome, refusal, answer}
use Rattle.base_limits.specs.Laws.Verdict.{answer_fine}
use Rattle.base_limits.specs.declared.Verdict.TheVariants.{Fine}
use Rattle.format_survey.specs.Line.{widest}
use Rattle.format_survey.specs.Reading.{reading, SurveyText}
use Rattle.format_survey.proofs.Laws.Longest.{longest_read}
use Rattle.plan_rule.specs.Plan.{Plan, plan_refusal, planning}
use Rattle.check_printed.specs.Verify.{survey_in, verifying}
use Rattle.text_plan.specs.Output.{survey_read, survey_plan, read_plan, text_plan, outcome_text, plan_output}
use Rattle.text_verify.specs.Output.{passed_text, findings_text, verify_output}
use Rattle.theorems.specs.Printed.{plan_for, printed_plan}
use Rattle.theorems.proofs.Laws.Passes.{plan_passes, plan_fits}

-- Where a finished plan comes from: a survey that was read, to which none of 1 to 8 applies.
pub record Source (t : List ℕ) (p : Plan) : Type 0 where
  pub survey : SurveyText
  pub read : survey_read t ≡ answer survey
  pub fine : plan_refusal (survey_in survey) max_edges records_room ≡ Fine
  pub plan : plan_for survey ≡ p

pub source : (t : List ℕ) (p : Plan) → text_plan t ≡ answer p → Source t p
unfolding text_plan read_plan survey_plan planning
source t p finished = by_read (survey_read t) refl finished
  where
    by_read : (o : Outcome SurveyText) → survey_read t ≡ o → read_plan o ≡ answer p → Source t p
    by_read (refusal number place) r e = let z : ◌≡◌ {A = ℕ} 0 1 = cc in absurd (omega arith)
    by_read (answer s) r e =
        let a = answer_fine (plan_refusal (survey_in s) max_edges records_room) (plan_for s) p e in record { survey = s; read = r; fine = a.0; plan = a.1 }

-- What the programs print for a text whose plan is finished.
module _ (t : List ℕ) (p : Plan) (finished : text_plan t ≡ answer p) where
  from : Source t p
  from = source t p finished

  -- Its survey, read with buffers of the limits' sizes.
  read : reading t widest ≡ answer from.survey
  unfolding survey_read
  read = from.read

  -- The program `plan` prints the plan,
  pub call_prints : plan_output t ≡ printed_plan p
  unfolding plan_output outcome_text
  call_prints = ap outcome_text finished

  printed_from : plan_output t ≡ printed_plan (plan_for from.survey)
  printed_from = call_prints ∙ sym (ap (λ (x : Plan). printed_plan x) from.plan)

  -- and the program `verify`, given the text and what `plan` printed, prints `passed` and the plan's own sites, cost and bound.
  pub call_passes : verify_output (t ++ plan_output t) ≡ passed_text p.terminals p.cost p.bound
  unfolding verify_output findings_text
  call_passes =
      ap findings_text (ap (λ (w : List ℕ). verifying (t ++ w)) printed_from ∙ plan_passes t widest from.survey read max_edges records_room from.fine)
      ∙ ap (λ (x : Plan). passed_text x.terminals x.cost x.bound) from.plan

  -- Each program reads its input whole.
  pub call_reads : length t ≤ survey_room
  call_reads = let l = longest_read t widest from.survey read in omega arith

  pub call_fits : length (t ++ plan_output t) ≤ verify_room
  call_fits =
      subst (λ (w : List ℕ). length (t ++ w) ≤ verify_room) (sym printed_from) (plan_fits t widest from.survey read max_edges records_room from.fine)
