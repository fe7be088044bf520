-- Each arm prints its answer.
use Rattle.std.specs.Prelude.{ℕ, ◌^◌, ◌<◌, ◌≡◌, take}
use Rattle.std.proofs.Common.{sym}
use Rattle.std.proofs.Math.Path.{subst}
use mathlib.Core.List.{List, []}
use Rattle.base_limits.specs.Verdict.{Outcome, refusal, answer}
use Rattle.format_write.specs.Text.{refusal_text}
use Rattle.format_print.specs.declared.Printed.{Printed}
use Rattle.format_print.specs.Print.{printed, printed_out}
use Rattle.format_survey.specs.Line.{SurveyCounts}
use Rattle.format_survey.specs.Reading.{SurveyText}
use Rattle.format_survey_print.specs.Print.{survey_of_lists, survey_printed, survey_printed_out}
use Rattle.text_stp.specs.Stored.{stored_survey, stored_printed, stored_printed_out, StoredWords, unread_words, read_words}

module _ (groups firsts seconds weights out : List ℕ) where
  -- What printing an answer answers and leaves.
  abbrev Printing : Printed → (new : List ℕ) → Outcome SurveyCounts → Type 0
  Printing r new o = (r ≡ stored_printed o groups firsts seconds weights out) × ((new ≡ stored_printed_out o groups firsts seconds weights out) × StoredWords o)

  pub unread_printed : {o : Outcome SurveyCounts} {r : Printed} {new : List ℕ} {number place : ℕ} → o ≡ refusal number place
      → (r ≡ printed (refusal_text number place) out) × (new ≡ printed_out (refusal_text number place) out) → number < 2 ^ 64 → place < 2 ^ 64 → Printing r new o
  unfolding stored_printed stored_printed_out
  unread_printed {r = r} {new = new} told p hn hp = subst (Printing r new) (sym told) (p.0, (p.1, unread_words hn hp))

  pub stored_printed_law : {o : Outcome SurveyCounts} {r : Printed} {new : List ℕ} {c : SurveyCounts} {gs fs ss ws : List ℕ} → o ≡ answer c
      → gs ≡ take c.vertices groups → fs ≡ take c.edges firsts → ss ≡ take c.edges seconds → ws ≡ take c.edges weights
      → (r ≡ survey_printed (survey_of_lists gs fs ss ws [] []) out) × (new ≡ survey_printed_out (survey_of_lists gs fs ss ws [] []) out) → Printing r new o
  unfolding stored_printed stored_printed_out
  stored_printed_law {r = r} {new = new} {c = c} {gs = gs} {fs = fs} {ss = ss} {ws = ws} told g f s w p =
      let same : survey_of_lists gs fs ss ws [] [] ≡ stored_survey c groups firsts seconds weights = λ i. survey_of_lists (g i) (f i) (s i) (w i) [] [] in
      let q = subst (λ (x : SurveyText). (r ≡ survey_printed x out) × (new ≡ survey_printed_out x out)) same p in
      subst (Printing r new) (sym told) (q.0, (q.1, read_words))
