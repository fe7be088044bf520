-- Copies for groups with strengths, with lent counts (document 02, No. 13): what the call answers and leaves in its buffers, by the library's own definitions.
use Rattle.std.specs.Prelude.{ℕ, List, [], ◌∷◌, length, ltb}
use Rattle.base_limits.specs.Verdict.{refuse_if, ◌before◌, written}
use Rattle.base_limits.specs.declared.Verdict.{Verdict}
use Rattle.survey_core.specs.Survey.{Survey}
use Rattle.winter_rule.specs.Winter.{given_refusal, winter_refusal, total_price, copies_over}
use Rattle.api_code.specs.Code.{counts_after}

-- entries of the counts: the total price
abbrev pub winter_figures : ℕ
winter_figures = 1

unfoldable pub winter_figures_of : ℕ → List ℕ
winter_figures_of total = total ∷ []

-- 1 to 6, 18, then 24, then 7 for either buffer that is too short, then 8.
unfoldable pub winter_call : Survey → (strengths copies counts : List ℕ) → Verdict
winter_call s strengths copies counts =
    given_refusal s strengths before refuse_if (ltb (length counts) winter_figures) 7 0 before winter_refusal s strengths (length copies)

-- The two lent buffers at the end.
unfoldable pub winter_copies : Survey → (strengths copies counts : List ℕ) → List ℕ
winter_copies s strengths copies counts = written (winter_call s strengths copies counts) (copies_over s strengths copies) copies

unfoldable pub winter_counts : Survey → (strengths copies counts : List ℕ) → List ℕ
winter_counts s strengths copies counts = counts_after (winter_call s strengths copies counts) (winter_figures_of (total_price s strengths)) counts
