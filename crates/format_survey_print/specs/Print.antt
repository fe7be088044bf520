-- What printing a survey's text answers, and what it leaves in the lent buffer (document 01, 'Refused surveys and plans' and 'Survey text
-- and printed plan'; document 02, No. 2): 2 where the buffers of the edges or those of the pairs differ in length, then 7 only if the text does not fit.
use Rattle.std.specs.Prelude.{ℕ, not, List, length, get_or, eqb}
use Rattle.base_finite.specs.Below.{tabulate}
use Rattle.base_limits.specs.Verdict.{refuse_if, ◌before◌}
use Rattle.base_limits.specs.declared.Verdict.{Verdict}
use Rattle.format_print.specs.declared.Printed.{Printed}
use Rattle.format_print.specs.Print.{print_refusal, answer_of, out_after}
use Rattle.format_also.specs.Pair.{Pair}
use Rattle.format_also.specs.Render.{pairs_from}
use Rattle.format_survey.specs.Line.{Edge}
use Rattle.format_survey.specs.Reading.{SurveyText}
use Rattle.format_survey.specs.Render.{render}

abbrev pub edge_with : (first second weight : ℕ) → Edge
edge_with first second weight = record { first = first; second = second; weight = weight }

-- The edge at e of three buffers, and their edges.
abbrev pub edge_at : (firsts seconds weights : List ℕ) → ℕ → Edge
edge_at firsts seconds weights e = edge_with (get_or firsts e 0) (get_or seconds e 0) (get_or weights e 0)

unfoldable pub edges_from : (firsts seconds weights : List ℕ) → List Edge
edges_from firsts seconds weights = tabulate (length firsts) (edge_at firsts seconds weights)

-- The survey of six buffers, as reading says it.
abbrev pub survey_of_lists : (groups firsts seconds weights owners others : List ℕ) → SurveyText
survey_of_lists groups firsts seconds weights owners others =
    record { vertices = length groups; edges = length firsts; groups = groups; firsts = firsts; seconds = seconds; weights = weights; owners = owners; others = others }

abbrev pub survey_lent : (groups firsts seconds weights owners others : List ℕ) → SurveyText
survey_lent groups firsts seconds weights owners others = survey_of_lists groups firsts seconds weights owners others

-- Its edges, and its text.
abbrev pub edges_in : SurveyText → List Edge
edges_in s = edges_from s.firsts s.seconds s.weights

abbrev pub pairs_in : SurveyText → List Pair
pairs_in s = pairs_from s.owners s.others

unfoldable pub survey_text : SurveyText → List ℕ
survey_text s = render s.groups (pairs_in s) (edges_in s)

unfoldable pub survey_print_refusal : SurveyText → (out : List ℕ) → Verdict
survey_print_refusal s out =
    refuse_if (not (eqb (length s.firsts) (length s.seconds))) 2 0
    before refuse_if (not (eqb (length s.firsts) (length s.weights))) 2 0
    before refuse_if (not (eqb (length s.owners) (length s.others))) 2 0
    before print_refusal (survey_text s) out

unfoldable pub survey_printed : SurveyText → (out : List ℕ) → Printed
survey_printed s out = answer_of (survey_print_refusal s out) (survey_text s)

unfoldable pub survey_printed_out : SurveyText → (out : List ℕ) → List ℕ
survey_printed_out s out = out_after (survey_print_refusal s out) (survey_text s) out
