-- Laws of what `closed` prints: the lines by the outcomes of reading and of the call.
use Rattle.std.specs.Prelude.{ℕ, ◌≡◌, List, length}
use Rattle.std.proofs.Math.Path.{ap, sym}
use Rattle.std.proofs.Common.{◌∙◌}
use Rattle.base_limits.specs.Verdict.{Outcome, refusal}
use Rattle.base_limits.specs.declared.Verdict.{Verdict}
use Rattle.base_limits.specs.declared.Verdict.TheVariants.{Fine, Refused}
use Rattle.format_write.specs.Text.{refusal_text}
use Rattle.format_print.specs.declared.Printed.{Printed}
use Rattle.format_print.specs.Print.{printed, printed_out}
use Rattle.format_survey.specs.Reading.{SurveyText}
use Rattle.format_print.specs.RowText.{row_lines}
use Rattle.survey_core.specs.Survey.{Survey}
use Rattle.closed_rule.specs.Closed.{closed_refusal, result_after}
use Rattle.text_plan.specs.Output.{survey_read}
use Rattle.text_plan.specs.Laws.Read.{SaidBy}
use Rattle.text_closed.specs.Output.{no_rows, lines_for, survey_lines, read_lines, closed_output}

-- Printed as one text, it is printed as an equal one.
pub printed_as : (out : List ℕ) {a b : List ℕ} {r : Printed} {new : List ℕ} → a ≡ b → (r ≡ printed a out) × (new ≡ printed_out a out)
    → (r ≡ printed b out) × (new ≡ printed_out b out)
printed_as out same p = (p.0 ∙ ap (λ (t : List ℕ). printed t out) same, p.1 ∙ ap (λ (t : List ℕ). printed_out t out) same)

module _ (s : Survey) (tracks : List ℕ) {v : Verdict} (v_is : v ≡ closed_refusal s (length tracks) (length no_rows)) where
  pub stopped_lines : {n p : ℕ} → v ≡ Refused n p → refusal_text n p ≡ survey_lines s tracks
  unfolding survey_lines lines_for
  stopped_lines h = sym (ap (λ w. lines_for w tracks (result_after s tracks no_rows)) (sym v_is ∙ h))

  pub planned_lines : {after : List ℕ} → v ≡ Fine → after ≡ result_after s tracks no_rows → row_lines tracks after ≡ survey_lines s tracks
  unfolding survey_lines lines_for
  planned_lines h after_is = ap (row_lines tracks) after_is ∙ sym (ap (λ w. lines_for w tracks (result_after s tracks no_rows)) (sym v_is ∙ h))

pub refused_output : (t tracks : List ℕ) {n p : ℕ} → survey_read t ≡ refusal n p → refusal_text n p ≡ closed_output t tracks
unfolding closed_output read_lines
refused_output t tracks refused = ap (λ (o : Outcome SurveyText). read_lines o tracks) (sym refused)

-- What is printed for a survey in buffers is what is printed for the text that says it.
pub said_output : {t : List ℕ} {s : Survey} (tracks : List ℕ) → SaidBy t s → survey_lines s tracks ≡ closed_output t tracks
unfolding closed_output read_lines
said_output tracks h = ap (λ (q : Survey). survey_lines q tracks) h.same ∙ ap (λ (o : Outcome SurveyText). read_lines o tracks) (sym h.is)
