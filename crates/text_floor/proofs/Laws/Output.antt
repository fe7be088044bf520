-- Laws of what `floor` prints: the lines by the outcomes of reading and of the call.
use Rattle.std.specs.Prelude.{ℕ, ◌≡◌, List, ◌++◌}
use Rattle.std.proofs.Math.Path.{ap}
use Rattle.std.proofs.Common.{sym, ◌∙◌}
use Rattle.base_limits.specs.Verdict.{Outcome, refusal, answer}
use Rattle.format_write.specs.Key.{cost_key}
use Rattle.format_write.specs.Text.{line_of, refusal_text}
use Rattle.format_print.specs.declared.Printed.{Printed}
use Rattle.format_print.specs.Print.{printed, printed_out}
use Rattle.survey_core.specs.Survey.{Survey}
use Rattle.floor_rule.specs.Floor.{FloorCounts, flooring, floored_outcome}
use Rattle.floor_rule.specs.declared.Floored.{Floored}
use Rattle.floor_rule.specs.declared.Floored.TheVariants.{Finished, Refused}
use Rattle.text_plan.specs.Output.{survey_read}
use Rattle.text_plan.specs.Laws.Read.{SaidBy}
use Rattle.text_floor.specs.Gap.{gap_of}
use Rattle.text_floor.specs.Output.{floor_key, gap_key, floor_lines, floor_text, survey_floor, read_floor, floor_output}

-- Printed as one text, it is printed as an equal one.
pub printed_as : (out : List ℕ) {a b : List ℕ} {r : Printed} {new : List ℕ} → a ≡ b → (r ≡ printed a out) × (new ≡ printed_out a out)
    → (r ≡ printed b out) × (new ≡ printed_out b out)
printed_as out same p = (p.0 ∙ ap (λ (t : List ℕ). printed t out) same, p.1 ∙ ap (λ (t : List ℕ). printed_out t out) same)

-- What an answer says.
pub told_refused : {r : Floored} {n p : ℕ} → r ≡ Refused n p → floored_outcome r ≡ refusal n p
unfolding floored_outcome
told_refused h = ap floored_outcome h

pub told_finished : {r : Floored} {f k c b : ℕ} → r ≡ Finished f k c b → floored_outcome r ≡ answer (record { floor = f; terminals = k; cost = c; bound = b })
unfolding floored_outcome
told_finished h = ap floored_outcome h

module _ (s : Survey) {o : Outcome FloorCounts} (is : o ≡ flooring s) where
  pub stopped_lines : {n p : ℕ} → o ≡ refusal n p → refusal_text n p ≡ survey_floor s
  unfolding survey_floor floor_text
  stopped_lines h = ap floor_text (sym h ∙ is)

  pub floored_lines : {f k c b : ℕ} → o ≡ answer (record { floor = f; terminals = k; cost = c; bound = b }) → floor_lines f c ≡ survey_floor s
  unfolding survey_floor floor_text
  floored_lines h = ap floor_text (sym h ∙ is)

pub refused_output : (t : List ℕ) {n p : ℕ} → survey_read t ≡ refusal n p → refusal_text n p ≡ floor_output t
unfolding floor_output read_floor
refused_output t refused = ap read_floor (sym refused)

-- What is printed for a survey in buffers is what is printed for the text that says it.
pub said_output : {t : List ℕ} {s : Survey} → SaidBy t s → survey_floor s ≡ floor_output t
unfolding floor_output read_floor
said_output h = ap survey_floor h.same ∙ ap read_floor (sym h.is)

-- The lines, by the gap that was computed.
pub gap_lines : (floor cost : ℕ) {gap : ℕ} → gap ≡ gap_of floor cost → line_of floor_key floor ++ line_of cost_key cost ++ line_of gap_key gap ≡ floor_lines floor cost
unfolding floor_lines
gap_lines floor cost h = ap (λ g. line_of floor_key floor ++ line_of cost_key cost ++ line_of gap_key g) h
