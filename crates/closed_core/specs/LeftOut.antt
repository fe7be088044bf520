-- A survey with one track left out (document 02, No. 12): every later track has the number before its own. Its plan is that of the survey with the track
-- closed (law `left_out_entry`), so that a call may plan it in the track's place.
use Rattle.std.specs.Prelude.{ℕ, ◌-◌, ◌*◌, List, ◌++◌, length, get_or, take, drop}
use Rattle.base_finite.specs.Below.{tabulate}
use Rattle.base_limits.specs.Verdict.{Outcome, refusal, answer}
use Rattle.theory_steiner.specs.Closed.{skipping}
use Rattle.survey_core.specs.Survey.{Survey, survey_with}
use Rattle.plan_rule.specs.Figures.{FigureCounts}
use Rattle.closed_rule.specs.Closed.{row_figures, ClosedCounts, rows_of}

-- A list of m numbers without entry c.
unfoldable pub omitted : (m c : ℕ) → List ℕ → List ℕ
omitted m c l = tabulate (m - 1) (λ e. get_or l (skipping c e) 0)

abbrev pub left_out : Survey → (c : ℕ) → Survey
left_out s c =
    survey_with s.groups (omitted (length s.firsts) c s.firsts) (omitted (length s.firsts) c s.seconds) (omitted (length s.firsts) c s.weights)
    s.owners s.others

-- What is answered for a track, of the figures of its plan.
unfoldable pub closed_of : Outcome FigureCounts → Outcome ClosedCounts
closed_of (refusal number place) = refusal number place
closed_of (answer f) = answer (record { cost = f.cost; bound = f.bound })

-- A result with the rows of the first i tracks.
unfoldable pub rows_over : Survey → (tracks result : List ℕ) → (i : ℕ) → List ℕ
rows_over s tracks result i = rows_of s (take i tracks) ++ drop (row_figures * i) result
