-- What is printed of asking's answer and of the buffer that it was lent.
use Rattle.std.specs.Prelude.{ℕ, ◌^◌, ◌<◌, List, take}
use Rattle.base_limits.specs.Verdict.{Outcome, refusal, answer}
use Rattle.format_write.specs.Text.{refusal_text}
use Rattle.format_why.specs.ReasonText.{reason_text}
use Rattle.why_rule.specs.Why.{WhyCounts}
use Rattle.text_why.specs.Output.{ReasonCountsFit}

-- The reason, with the first entries of the buffer as its route, or the refusal's lines.
unfoldable pub why_answer_text : Outcome WhyCounts → (track : ℕ) → (route : List ℕ) → List ℕ
why_answer_text (refusal number place) track route = refusal_text number place
why_answer_text (answer c) track route = reason_text track c.kind c.group c.low c.high c.round (take c.entries route)

-- The numbers that are printed are words of 64 bits.
pub data WhyAnswerWords : Outcome WhyCounts → Type 0 where
  refusal_words : {number place : ℕ} → number < 2 ^ 64 → place < 2 ^ 64 → WhyAnswerWords (refusal number place)
  reason_words : {c : WhyCounts} → ReasonCountsFit c → WhyAnswerWords (answer c)
