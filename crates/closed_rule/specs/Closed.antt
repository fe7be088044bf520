-- Plans with one track closed, for a list of tracks (document 02, No. 12): what the call answers and writes.
use Rattle.std.specs.Prelude.{ℕ, ◌*◌, ◌||◌, List, [], ◌∷◌, ◌++◌, length, drop, ltb, leb}
use Rattle.base_limits.specs.Verdict.{refuse_if, ◌before◌, Outcome, refusal, answer, outcome, written}
use Rattle.base_limits.specs.declared.Verdict.{Verdict}
use Rattle.theory_steiner.specs.Problem.{all_usable}
use Rattle.theory_steiner.specs.Closed.{closing}
use Rattle.survey_core.specs.Survey.{Survey, edge_count, problem_of}
use Rattle.survey_core.specs.Refusal.{survey_refusal, group_refusal}
use Rattle.plan_rule.specs.Plan.{Plan, plan_of}
use Rattle.closed_rule.specs.declared.Closed.{Closed}
use Rattle.closed_rule.specs.declared.Closed.TheVariants.{Finished, Refused}

-- tracks of one call, at most
abbrev pub max_closed : ℕ
max_closed = 256

-- numbers of a row: the refusal or 0, the place, the cost, the bound
abbrev pub row_figures : ℕ
row_figures = 4

-- What is answered for one track.
pub record ClosedCounts : Type 0 where
  pub cost : ℕ
  pub bound : ℕ

unfoldable pub closed_counts_of : Plan → ClosedCounts
closed_counts_of p = record { cost = p.cost; bound = p.bound }

-- 19 for a number of m or more, with itself as place; then 8, judged without the track.
unfoldable pub entry_refusal : Survey → (c : ℕ) → Verdict
entry_refusal s c = refuse_if (leb (edge_count s) c) 19 c before group_refusal s 8 (all_usable (closing (problem_of s) c))

-- The plan of the survey with track c closed: never a candidate, all numbers kept.
unfoldable pub closed_entry : Survey → (c : ℕ) → Outcome ClosedCounts
closed_entry s c = outcome (entry_refusal s c) (closed_counts_of (plan_of (closing (problem_of s) c)))

-- A row of four numbers; in a refusal every count is 0.
unfoldable pub row_of : Outcome ClosedCounts → List ℕ
row_of (refusal number place) = number ∷ place ∷ 0 ∷ 0 ∷ []
row_of (answer f) = 0 ∷ 0 ∷ f.cost ∷ f.bound ∷ []

-- The rows of a list of tracks, each by itself, in list order.
unfoldable pub rows_of : Survey → (tracks : List ℕ) → List ℕ
rows_of s [] = []
rows_of s (c ∷ tracks) = row_of (closed_entry s c) ++ rows_of s tracks

-- 1 to 6 and 18, then 7 for a list over 256 or a result buffer of fewer than four numbers for each track. 8 and 19 are said in the rows.
unfoldable pub closed_refusal : Survey → (tracks_length result_length : ℕ) → Verdict
closed_refusal s tracks_length result_length =
    survey_refusal s before refuse_if (ltb max_closed tracks_length || ltb result_length (row_figures * tracks_length)) 7 0

-- What the result buffer holds at the end; numbers past the rows keep their values.
unfoldable pub result_after : Survey → (tracks result : List ℕ) → List ℕ
result_after s tracks result =
    written (closed_refusal s (length tracks) (length result)) (rows_of s tracks ++ drop (row_figures * length tracks) result) result

-- What an answer for one track says in the papers' numbers.
unfoldable pub closed_outcome : Closed → Outcome ClosedCounts
closed_outcome (Finished cost bound) = answer (record { cost = cost; bound = bound })
closed_outcome (Refused number place) = refusal number place
