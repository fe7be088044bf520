-- Printing with a lent entry for the length: what the calls answer and leave in their buffers, by the library's own definitions.
use Rattle.std.specs.Prelude.{ℕ, ◌+◌, ◌*◌, List, [], ◌∷◌, length, ltb}
use Rattle.std.proofs.lemmas.List.Edits.{sets}
use Rattle.base_limits.specs.Verdict.{refuse_if, ◌before◌}
use Rattle.base_limits.specs.declared.Verdict.{Verdict}
use Rattle.format_write.specs.Text.{dual_line}
use Rattle.format_print.specs.Print.{print_refusal, dual_print_refusal, out_after}
use Rattle.format_print.specs.declared.Printed.{Printed}
use Rattle.format_print.specs.declared.Printed.TheVariants.{Length, Refused as PrintRefused}
use Rattle.format_survey.specs.Reading.{SurveyText}
use Rattle.format_survey_print.specs.Print.{survey_text, survey_print_refusal}
use Rattle.api_code.specs.Code.{place_unit, counts_after}

-- entries of the counts of printing: the text's length
abbrev pub print_figures : ℕ
print_figures = 1

-- A buffer that is too short for a text's length is 7, after what printing refuses.
unfoldable pub with_length : Verdict → (counts : ℕ) → Verdict
with_length v counts = v before refuse_if (ltb counts print_figures) 7 0

-- What printing answered, as one number, and the counts after it.
unfoldable pub printed_code : Printed → ℕ
printed_code (Length n) = 0
printed_code (PrintRefused number place) = number + place_unit * place

unfoldable pub printed_counts : Printed → (counts : List ℕ) → List ℕ
printed_counts (Length n) counts = sets counts 0 (n ∷ [])
printed_counts (PrintRefused number place) counts = counts

-- Printing a moat line: 9, then 7.
unfoldable pub dual_call : (part out counts : List ℕ) → Verdict
dual_call part out counts = with_length (dual_print_refusal part out) (length counts)

unfoldable pub dual_out : (part out counts : List ℕ) → List ℕ
dual_out part out counts = out_after (dual_call part out counts) (dual_line part) out

unfoldable pub dual_counts : (part out counts : List ℕ) → List ℕ
dual_counts part out counts = counts_after (dual_call part out counts) (length (dual_line part) ∷ []) counts

-- Printing a text that only a short buffer refuses, as a plan's: 7.
unfoldable pub text_call : (whole out counts : List ℕ) → Verdict
text_call whole out counts = with_length (print_refusal whole out) (length counts)

unfoldable pub text_out : (whole out counts : List ℕ) → List ℕ
text_out whole out counts = out_after (text_call whole out counts) whole out

unfoldable pub text_counts : (whole out counts : List ℕ) → List ℕ
text_counts whole out counts = counts_after (text_call whole out counts) (length whole ∷ []) counts

-- Printing a survey: 2, then 7.
unfoldable pub survey_call : SurveyText → (out counts : List ℕ) → Verdict
survey_call s out counts = with_length (survey_print_refusal s out) (length counts)

unfoldable pub survey_out : SurveyText → (out counts : List ℕ) → List ℕ
survey_out s out counts = out_after (survey_call s out counts) (survey_text s) out

unfoldable pub survey_counts : SurveyText → (out counts : List ℕ) → List ℕ
survey_counts s out counts = counts_after (survey_call s out counts) (length (survey_text s) ∷ []) counts
