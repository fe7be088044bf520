-- What the program `winter` prints for a text (document 02, No. 13): reading the survey and the strengths, planning for the four bits, and printing, one after
-- the other, for every text.
use Rattle.std.specs.Prelude.{ℕ, cond, List, [], ◌∷◌, ◌++◌, length, get_or, replicate, ltb}
use Rattle.base_limits.specs.Limits.{max_edges}
use Rattle.base_limits.specs.Verdict.{Outcome, refusal, answer}
use Rattle.format_write.specs.Key.{ascii, cost_key, newline}
use Rattle.format_write.specs.Text.{line_of, listed, text_below, refusal_text}
use Rattle.format_read.specs.Step.{Step, found, refused}
use Rattle.format_survey.specs.Line.{widest}
use Rattle.format_survey.specs.Reading.{SurveyText}
use Rattle.survey_core.specs.Survey.{Survey}
use Rattle.check_printed.specs.Verify.{prefix_at, survey_in}
use Rattle.winter_rule.specs.Winter.{wintering, copies_after}
use Rattle.text_winter.specs.Given.{Given, givens_at, strengths_from}

unfoldable pub copies_key : List ℕ
copies_key = ascii "copies="

-- A line for a track that is copied.
unfoldable pub copies_line : (copies track : ℕ) → List ℕ
copies_line copies track = cond (ltb 0 copies) (copies_key ++ listed (track ∷ copies ∷ []) ++ (newline ∷ [])) []

unfoldable pub copies_lines : (copies : List ℕ) → List ℕ
copies_lines copies = text_below (length copies) (λ e. copies_line (get_or copies e 0) e)

-- The total price, and the copies of each track that is copied, rising.
unfoldable pub copies_text : (total : ℕ) → (copies : List ℕ) → List ℕ
copies_text total copies = line_of cost_key total ++ copies_lines copies

-- bytes for the copies of every survey, in which none are counted
abbrev pub no_copies : List ℕ
no_copies = replicate max_edges 0

-- The same, or 'for a refusal two lines' (document 01).
unfoldable pub outcome_text : Outcome ℕ → (copies : List ℕ) → List ℕ
outcome_text (refusal number place) copies = refusal_text number place
outcome_text (answer total) copies = copies_text total copies

-- What is printed for a survey and its strengths; for a survey and the lines behind it; for what was read in front; for a text.
unfoldable pub survey_output : Survey → (strengths : List ℕ) → List ℕ
survey_output s strengths = outcome_text (wintering s strengths (length no_copies)) (copies_after s strengths no_copies)

unfoldable pub given_output : Survey → (lines : List Given) → (end : Step ℕ) → List ℕ
given_output s lines (refused number place) = refusal_text number place
given_output s lines (found low next) = survey_output s (strengths_from lines)

unfoldable pub behind_output : List ℕ → Step SurveyText → List ℕ
behind_output t (refused number place) = refusal_text number place
behind_output t (found s at) = given_output (survey_in s) (givens_at t at).values (givens_at t at).end

unfoldable pub winter_output : List ℕ → List ℕ
winter_output t = behind_output t (prefix_at widest t)
