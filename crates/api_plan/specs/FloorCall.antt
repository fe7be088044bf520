-- The floor with lent counts: what the call answers and leaves in its buffer, by the library's own definitions.
use Rattle.std.specs.Prelude.{ℕ, List, [], ◌∷◌, length}
use Rattle.base_limits.specs.declared.Verdict.{Verdict}
use Rattle.survey_core.specs.Survey.{Survey}
use Rattle.plan_rule.specs.Figures.{figures_refusal}
use Rattle.floor_rule.specs.Floor.{FloorCounts, floor_counts_of}
use Rattle.api_code.specs.Code.{with_counts, counts_after}

-- entries of the counts: the floor, k, cost and bound
abbrev pub floor_figures : ℕ
floor_figures = 4

unfoldable pub floor_figures_of : FloorCounts → List ℕ
floor_figures_of c = c.floor ∷ c.terminals ∷ c.cost ∷ c.bound ∷ []

-- 1 to 6, 18, then 7 for counts that do not fit, then 8.
unfoldable pub floor_call : Survey → (counts : List ℕ) → Verdict
floor_call s counts = with_counts s floor_figures (length counts) (figures_refusal s)

unfoldable pub floored_counts : Survey → (counts : List ℕ) → List ℕ
floored_counts s counts = counts_after (floor_call s counts) (floor_figures_of (floor_counts_of s)) counts
