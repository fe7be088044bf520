-- Asking why with lent counts (document 02, No. 3): what the call answers and leaves in its buffers, by the library's own definitions.
use Rattle.std.specs.Prelude.{ℕ, List, ◌++◌, length, drop}
use Rattle.base_limits.specs.Verdict.{written}
use Rattle.base_limits.specs.declared.Verdict.{Verdict}
use Rattle.survey_core.specs.Survey.{Survey}
use Rattle.why_rule.specs.Reason.{reason_of}
use Rattle.why_rule.specs.Why.{why_counts, route_in, why_refusal}
use Rattle.api_code.specs.Code.{with_counts, counts_after}
use Rattle.api_why.specs.Stored.{why_figures_of}

-- entries of the counts: kind, list, smaller, larger, entries of the route, round
abbrev pub why_figures : ℕ
why_figures = 6

-- 1 to 6, 18, then 7 for counts that do not fit, then 7 for the route, 8, 19.
unfoldable pub why_call : Survey → (e : ℕ) → (route counts : List ℕ) → Verdict
why_call s e route counts = with_counts s why_figures (length counts) (why_refusal s (length route) e)

-- Entries past the route keep their values; without a route, and on a refusal, all do.
unfoldable pub why_route : Survey → (e : ℕ) → (route counts : List ℕ) → List ℕ
why_route s e route counts = let entries = route_in (reason_of s e) in written (why_call s e route counts) (entries ++ drop (length entries) route) route

unfoldable pub why_figured : Survey → (e : ℕ) → (route counts : List ℕ) → List ℕ
why_figured s e route counts = counts_after (why_call s e route counts) (why_figures_of (why_counts (reason_of s e))) counts
