-- The figures of a survey are planning's, in buffers of its own: 7 never comes, and cost and bound are so small that a
-- thousand of them have 64 bits.
use Rattle.std.specs.Prelude.{ℕ, ◌+◌, ◌*◌, ◌≤◌, ◌<◌, ◌≡◌, refl, ◌⊎◌, get_or}
use native.Mathlib.Omega.{arith}
use Rattle.std.proofs.Math.Nat.{mul-le-mul}
use Rattle.std.proofs.Math.Decide.{ℕ_discrete}
use Rattle.std.proofs.Common.{ap, sym, ◌∙◌, inl, inr, ⊎_elim}
use Rattle.std.proofs.Math.ListN.{length}
use Rattle.base_finite.specs.Below.{counted}
use Rattle.base_finite.specs.Laws.Below.{lt_or_ge, sum_limit, counted_le}
use Rattle.base_limits.specs.Limits.{max_vertices, max_edges, max_weight, max_value, records_room, group_numbers}
use Rattle.base_limits.specs.Verdict.{◌before◌, Outcome, refusal, outcome}
use Rattle.base_limits.specs.declared.Verdict.{Verdict}
use Rattle.base_limits.specs.declared.Verdict.TheVariants.{Fine, Refused}
use Rattle.base_limits.specs.Laws.Verdict.{before_fine, before_refused, fine_left, refusal_found, Lowest, lowest_elim, refused_refuse}
use Rattle.theory_steiner.specs.Problem.{all_usable, cost}
use Rattle.theory_steiner.specs.Growth.{numbers, grown}
use Rattle.theory_steiner.specs.Pruning.{kept, dual_bound}
use Rattle.theory_steiner.proofs.Laws.Rounds.{grown_reached, rounds_lt, value_bounded}
use Rattle.survey_core.specs.Survey.{Survey, vertex_count, edge_count, problem_of}
use Rattle.survey_core.specs.Sound.{SurveySound}
use Rattle.survey_core.specs.Refusal.{survey_refusal, group_refusal}
use Rattle.survey_core.proofs.Laws.Refusal.{fine_survey, survey_sound}
use Rattle.plan_rule.specs.Plan.{Plan, plan_of, plan_refusal, plan_counts_of, counting}
use Rattle.plan_rule.specs.Figures.{figures_refusal, figure_counts_of, figuring}
use Rattle.plan_rule.proofs.Laws.Number.{before_cases, survey_never}
use Rattle.plan_rule.proofs.Laws.Ready.{buffers_fit}
use Rattle.season_rule.specs.Figures.{Figures, figures, figures_of, counts_figures, cost_of, bound_of}
use Rattle.season_rule.specs.Report.{refusal_numbers, most_cost, most_bound}

-- ---- planning's own outcome

-- Buffers for the largest survey are long enough for every one.
pub own_buffers : (s : Survey) (marks_length records_length : ℕ) → max_edges ≤ marks_length → records_room ≤ records_length
    → plan_refusal s marks_length records_length ≡ figures_refusal s
unfolding plan_refusal figures_refusal vertex_count edge_count
own_buffers s marks_length records_length marks records = by (survey_refusal s) refl
  where
    by : (v : Verdict) → survey_refusal s ≡ v → plan_refusal s marks_length records_length ≡ figures_refusal s
    by (Refused number place) h = before_refused h _ ∙ sym (before_refused h _)
    by Fine h =
        let ok : SurveySound s = fine_survey s h in
        let n : length s.groups ≤ max_vertices = ok.few in
        let m : length s.firsts ≤ max_edges = ok.edges_few in
        before_fine h _
        ∙ before_fine (buffers_fit (length s.groups) (length s.firsts) marks_length records_length (omega arith) (omega arith)) _
        ∙ sym (before_fine h _)

abbrev plan_figures : Plan → Figures
plan_figures p = record { cost = p.cost; bound = p.bound }

-- By planning's refusal and its plan.
figures_by : (s : Survey) → figures s ≡ outcome (figures_refusal s) (plan_figures (plan_of (problem_of s)))
unfolding figures figuring outcome figures_of figure_counts_of
figures_by s = of (figures_refusal s) (plan_of (problem_of s))
  where
    of : (v : Verdict) (p : Plan) → figures_of (outcome v (figure_counts_of p)) ≡ outcome v (plan_figures p)
    of Fine p = refl
    of (Refused number place) p = refl

counts_figures_law : (v : Verdict) (p : Plan) → outcome v (plan_figures p) ≡ counts_figures (outcome v (plan_counts_of p))
unfolding outcome counts_figures plan_counts_of
counts_figures_law Fine p = refl
counts_figures_law (Refused number place) p = refl

-- The figures are among the counts of every call of planning with such buffers.
pub figures_planning : (s : Survey) (marks_length records_length : ℕ) → max_edges ≤ marks_length → records_room ≤ records_length
    → figures s ≡ counts_figures (counting s marks_length records_length)
unfolding counting
figures_planning s marks_length records_length marks records =
    figures_by s
    ∙ counts_figures_law (figures_refusal s) (plan_of (problem_of s))
    ∙ ap (λ v. counts_figures (outcome v (plan_counts_of (plan_of (problem_of s))))) (sym (own_buffers s marks_length records_length marks records))

-- ---- the numbers of refusals

-- 1 to 6, 8 or 18.
pub data Met : ℕ → Type 0 where
  survey : {number : ℕ} → number ≤ 6 → Met number
  groups : Met 8
  pairs : Met 18

pub met : (s : Survey) {number place : ℕ} → figures s ≡ refusal number place → Met number
unfolding figures_refusal group_refusal
met s {number} {place} h =
    ⊎_elim of_survey (λ k. of_groups k.1)
    (before_cases (survey_refusal s) (group_refusal s 8 (all_usable (problem_of s))) (refusal_found (figures_refusal s) _ (sym (figures_by s) ∙ h)))
  where
    of_survey : survey_refusal s ≡ Refused number place → Met number
    of_survey k = by (lt_or_ge 6 number) (ℕ_discrete number 18)
      where
        by : (6 < number) ⊎ (number ≤ 6) → Dec (number ≡ 18) → Met number
        by (inr b) d = survey b
        by (inl a) (yes e) = rw e pairs
        by (inl a) (no d) = absurd ((survey_never number d a s).other number place k refl)

    of_groups : group_refusal s 8 (all_usable (problem_of s)) ≡ Refused number place → Met number
    of_groups k =
        let l : Lowest group_numbers _ number place = lowest_elim group_numbers _ number place k in
        let e : 8 ≡ number = (refused_refuse _ 8 l.at number place l.found).1.0 in
        rw (sym e) groups

met_below : {number : ℕ} → Met number → number < refusal_numbers
met_below (survey b) = omega arith
met_below groups = omega arith
met_below pairs = omega arith

-- ---- how large the figures are

-- What the season needs of an outcome (law `limited`: every survey's has it).
pub record Limited (o : Outcome Figures) : Type 0 where
  pub cost_small : cost_of o ≤ most_cost
  pub bound_small : bound_of o ≤ most_bound
  pub number_small : (number place : ℕ) → o ≡ refusal number place → number < refusal_numbers

module _ (s : Survey) (ok : SurveySound s) where
  plan_cost : (plan_of (problem_of s)).cost ≤ most_cost
  unfolding plan_of cost problem_of edge_count
  plan_cost =
      let m : length s.firsts ≤ max_edges = ok.edges_few in
      let each = sum_limit (length s.firsts) max_weight (λ e. counted (kept (problem_of s) e) (get_or s.weights e 0))
      (λ e b. omega (arith, counted_le (kept (problem_of s) e) (get_or s.weights e 0), (ok.edges e b).weight_le)) in
      let all = mul-le-mul {n₁ = length s.firsts} {m₁ = max_weight} {n₂ = max_edges} {m₂ = max_weight} m (omega arith) in
      omega arith

  plan_bound : (plan_of (problem_of s)).bound ≤ most_bound
  unfolding plan_of dual_bound numbers problem_of vertex_count edge_count
  plan_bound =
      let p = problem_of s in
      let n : length s.groups ≤ max_vertices = ok.few in
      let rounds : (grown p).rounds < length s.groups = rounds_lt p (survey_sound s ok) ok.some (grown_reached p) in
      let each : (c : ℕ) → c < length s.groups + (grown p).rounds → (grown p).value c ≤ max_vertices * max_value = λ c b.
      omega (arith, value_bounded p (survey_sound s ok) max_weight (λ e l. (ok.edges e l).weight_le) (grown_reached p) c) in
      let sum = sum_limit (length s.groups + (grown p).rounds) (max_vertices * max_value) (grown p).value each in
      omega arith

-- Every survey's outcome.
pub limited : (s : Survey) → Limited (figures s)
unfolding figures_refusal outcome cost_of bound_of
limited s = rw (figures_by s) (by (figures_refusal s) refl)
  where
    by : (v : Verdict) → figures_refusal s ≡ v → Limited (outcome v (plan_figures (plan_of (problem_of s))))
    by Fine h =
        let ok : SurveySound s = fine_survey s (fine_left _ _ h) in
        record {
          cost_small = plan_cost s ok;
          bound_small = plan_bound s ok;
          number_small = λ number place e. absurd (let z : ◌≡◌ {A = ℕ} 0 1 = cc in omega arith);
        }
    by (Refused number place) h =
        record {
          cost_small = omega arith;
          bound_small = omega arith;
          number_small = λ n p e. met_below (met s (figures_by s ∙ ap (λ v. outcome v (plan_figures (plan_of (problem_of s)))) h ∙ e));
        }
