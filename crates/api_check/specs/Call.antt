-- Checking with lent counts: what the call answers and leaves in its buffer, by the library's own definitions.
use Rattle.std.specs.Prelude.{ℕ, List, [], ◌∷◌, length}
use Rattle.base_limits.specs.declared.Verdict.{Verdict}
use Rattle.survey_core.specs.Survey.{Survey}
use Rattle.check_rule.specs.Check.{Checked, check_refusal, checked_of}
use Rattle.api_code.specs.Code.{with_counts, counts_after}

-- entries of the counts of checking: k, cost and bound
abbrev pub check_figures : ℕ
check_figures = 3

unfoldable pub check_figures_of : Checked → List ℕ
check_figures_of c = c.terminals ∷ c.cost ∷ c.bound ∷ []

-- 1 to 6, 18, then 7 for counts that do not fit, then 9 to 15.
unfoldable pub check_call : Survey → (marks records counts : List ℕ) → Verdict
check_call s marks records counts = with_counts s check_figures (length counts) (check_refusal s marks records)

unfoldable pub check_counts : Survey → (marks records counts : List ℕ) → List ℕ
check_counts s marks records counts = counts_after (check_call s marks records counts) (check_figures_of (checked_of s marks records)) counts
