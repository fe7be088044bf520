-- What the report over a list of surveys says (document 02, No. 11), in words of the single plans: laws
-- `season_totals`, `season_farthest`.
use Rattle.std.specs.Prelude.{ℕ, zero, suc, ◌*◌, ◌≤◌, ◌<◌, ◌≡◌, List, map, length, get_or}
use Rattle.base_finite.specs.Below.{sum_below, count_below}
use Rattle.base_limits.specs.Verdict.{Outcome, refusal, answer}
use Rattle.survey_core.specs.Survey.{Survey}
use Rattle.season_rule.specs.declared.Farthest.{Farthest}
use Rattle.season_rule.specs.declared.Farthest.TheVariants.{Nothing, At}
use Rattle.season_rule.specs.declared.Report.{Report}
use Rattle.season_rule.specs.Figures.{Figures, figures, is_planned, is_refused, cost_of, bound_of}
use Rattle.season_rule.specs.Report.{refusal_numbers, empty_report, added}

-- What planning answers of survey i, the first being 0.
unfoldable pub outcome_at : List Survey → ℕ → Outcome Figures
outcome_at ss i = get_or (map figures ss) i (refusal 0 0)

-- The report after the first n of a sequence of answers (law `season_below_law`: that over a list).
unfoldable pub season_below : ℕ → (ℕ → Outcome Figures) → Report
season_below zero o = empty_report
season_below (suc n) o = added (season_below n o) (o n)

-- The counts and totals are those of the single plans.
pub record Totals (n : ℕ) (o : ℕ → Outcome Figures) (r : Report) : Type 0 where
  pub surveys_are : r.surveys ≡ n
  pub planned_are : r.planned ≡ count_below n (λ i. is_planned (o i))
  pub cost_is : r.cost ≡ sum_below n (λ i. cost_of (o i))
  pub bound_is : r.bound ≡ sum_below n (λ i. bound_of (o i))
  pub refused_long : length r.refused ≡ refusal_numbers
  pub refused_are : (k : ℕ) → k < refusal_numbers → get_or r.refused k 0 ≡ count_below n (λ i. is_refused k (o i))

-- The plan at this position has the largest ratio of twice the cost to the bound, by cross products, and is the
-- earliest that has it.
pub record Largest (n : ℕ) (o : ℕ → Outcome Figures) (position twice bound : ℕ) : Type 0 where
  pub below : position < n
  pub plan : Figures
  pub planned : o position ≡ answer plan
  pub twice_is : twice ≡ 2 * plan.cost
  pub bound_is : bound ≡ plan.bound
  pub some : 0 < bound
  pub largest : (i : ℕ) (f : Figures) → i < n → o i ≡ answer f → 0 < f.bound → 2 * f.cost * bound ≤ twice * f.bound
  pub earliest : (i : ℕ) (f : Figures) → i < position → o i ≡ answer f → 0 < f.bound → 2 * f.cost * bound < twice * f.bound

pub data IsFarthest (n : ℕ) (o : ℕ → Outcome Figures) : Farthest → Type 0 where
  none : ((i : ℕ) (f : Figures) → i < n → o i ≡ answer f → 0 < f.bound → ⊥) → IsFarthest n o Nothing
  one : {position twice bound : ℕ} → Largest n o position twice bound → IsFarthest n o (At position twice bound)
