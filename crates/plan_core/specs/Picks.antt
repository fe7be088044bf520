-- Dropping by stages (document 02, No. 7): what comes before the picks are judged, and what pruning the poured groups finds, said of the lists.
use Rattle.std.specs.Prelude.{ℕ, not, cond, List, length, get_or, eqb, ltb}
use Rattle.base_limits.specs.Verdict.{refuse_if, ◌before◌, lowest_below}
use Rattle.base_limits.specs.declared.Verdict.{Verdict}
use Rattle.base_limits.specs.declared.Verdict.TheVariants.{Fine, Refused}
use Rattle.survey_core.specs.Survey.{Survey, edge_count}
use Rattle.survey_core.specs.Refusal.{survey_refusal}

-- 1 to 6 and 18, then 9, then 10.
unfoldable pub marked_refusal : Survey → (marks : List ℕ) → Verdict
marked_refusal s marks =
    survey_refusal s
    before refuse_if (not (eqb (length marks) (edge_count s))) 9 0
    before lowest_below (edge_count s) (λ e. refuse_if (ltb 1 (get_or marks e 0)) 10 e)

-- In place of 14, which goes by the poured groups, what is found of the lists.
unfoldable pub by_lists : (found lists : Verdict) → Verdict
by_lists Fine lists = Fine
by_lists (Refused number place) lists = cond (eqb number 14) lists (Refused number place)
