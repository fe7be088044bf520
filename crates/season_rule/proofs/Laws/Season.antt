-- The report over a list of at most 1,000 surveys, each added by one call, from the empty report: totals are the sums
-- over the single plans, the farthest plan is the farthest, and 3 comes for a 1,001st survey alone (document 02, No.
-- 11).
use Rattle.std.specs.Prelude.{ℕ, zero, suc, ◌+◌, ◌≤◌, ◌<◌, ◌≡◌, List, [], ◌∷◌, length}
use Rattle.std.proofs.Common.{arith, ap, sym, ◌∙◌}
use Rattle.base_limits.specs.Verdict.{Outcome}
use Rattle.base_limits.specs.declared.Verdict.TheVariants.{Fine, Refused}
use Rattle.survey_core.specs.Survey.{Survey}
use Rattle.season_rule.specs.Figures.{Figures, figures}
use Rattle.season_rule.specs.Report.{max_surveys, added, add_survey, add_surveys, season_of, season_refusal}
use Rattle.season_rule.specs.Season.{outcome_at, season_below, Totals, IsFarthest}
use Rattle.season_rule.proofs.Laws.Figures.{Limited, limited}
use Rattle.season_rule.proofs.Laws.Report.{goes_on_law, full_refused, refused_unchanged, below_totals, below_farthest}

-- ---- a list as a sequence

pub limited_at : (ss : List Survey) (i : ℕ) → i < length ss → Limited (outcome_at ss i)
unfolding outcome_at
limited_at [] i b = absurd (omega arith)
limited_at (s ∷ ss) zero b = limited s
limited_at (s ∷ ss) (suc i) b = limited_at ss i (omega arith)

calls_below : (ss : List Survey) (k : ℕ) (o : ℕ → Outcome Figures) → ((i : ℕ) → i < length ss → o (k + i) ≡ outcome_at ss i)
    → add_surveys (season_below k o) ss ≡ season_below (k + length ss) o
unfolding add_surveys add_survey season_below outcome_at
calls_below [] k o same = let e : k ≡ k + 0 = omega arith in ap (λ n. season_below n o) e
calls_below (s ∷ ss) k o same =
    let first : k + 0 ≡ k = omega arith in
    let here : figures s ≡ o k = sym (same 0 (omega arith)) ∙ ap o first in
    let more : suc k + length ss ≡ k + suc (length ss) = omega arith in
    ap (λ q. add_surveys (added (season_below k o) q) ss) here
    ∙ calls_below ss (suc k) o (λ i b. let e : suc k + i ≡ k + suc i = omega arith in ap o e ∙ same (suc i) (omega arith))
    ∙ ap (λ n. season_below n o) more

pub season_below_law : (ss : List Survey) → season_of ss ≡ season_below (length ss) (outcome_at ss)
unfolding season_of season_below
season_below_law ss =
    let e : 0 + length ss ≡ length ss = omega arith in
    calls_below ss 0 (outcome_at ss) (λ i b. let f : 0 + i ≡ i = omega arith in ap (outcome_at ss) f) ∙ ap (λ n. season_below n (outcome_at ss)) e

-- ---- the report

module _ (ss : List Survey) (few : length ss ≤ max_surveys) where
  -- How many planned, how many refused under each number, total cost and bound.
  pub season_totals : Totals (length ss) (outcome_at ss) (season_of ss)
  season_totals = rw (season_below_law ss) (below_totals (outcome_at ss) (length ss) few (limited_at ss))

  -- The largest ratio, and the earliest that has it.
  pub season_farthest : IsFarthest (length ss) (outcome_at ss) (season_of ss).farthest
  season_farthest = rw (season_below_law ss) (below_farthest (outcome_at ss) (length ss) few (limited_at ss))

-- Up to the thousandth, every survey is added: no count and no total passes 64 bits.
pub season_goes_on : (ss : List Survey) → length ss < max_surveys → (s : Survey) → season_refusal (season_of ss) (figures s) ≡ Fine
season_goes_on ss few s =
    goes_on_law (length ss) (outcome_at ss) (limited_at ss) few (season_of ss) (season_totals ss (omega arith)) (figures s) (limited s)

-- The 1,001st gets 3, and the report stays.
pub season_full : (ss : List Survey) → length ss ≡ max_surveys → (s : Survey) → season_refusal (season_of ss) (figures s) ≡ Refused 3 0
season_full ss all s =
    full_refused (season_of ss) (figures s) (let e = (season_totals ss (omega arith)).surveys_are in omega arith)

pub season_stays : (ss : List Survey) → length ss ≡ max_surveys → (s : Survey) → add_survey (season_of ss) s ≡ season_of ss
unfolding add_survey
season_stays ss all s = refused_unchanged (season_of ss) (figures s) (season_full ss all s)
