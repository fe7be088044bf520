-- The gap is rounded the safe way: the plan costs at most so much more than the floor, and so than any set that joins.
use Rattle.std.specs.Prelude.{ℕ, ◌+◌, ◌*◌, ◌-◌, ◌/◌, ◌%◌, ◌^◌, ◌≤◌, ◌<◌, ◌≡◌, Bool, length, get_or}
use Rattle.std.proofs.Common.{arith, mul-le-mul_left, div-add-mod', mod-lt, ap, sym, ◌∙◌, subst, eq-eqb, ne_eqb}
use Rattle.std.proofs.Math.Decide.{ℕ_discrete}
use Rattle.base_finite.specs.Below.{counted}
use Rattle.base_finite.specs.Laws.Below.{counted_le, sum_limit}
use Rattle.base_limits.specs.Limits.{max_edges, max_weight}
use Rattle.base_limits.specs.Verdict.{Outcome, answer}
use Rattle.base_limits.specs.Laws.Verdict.{answer_fine}
use Rattle.theory_steiner.specs.Problem.{EdgeSet, Joins, cost}
use Rattle.theory_steiner.specs.Pruning.{kept}
use Rattle.survey_core.specs.Survey.{Survey, edge_count, problem_of}
use Rattle.survey_core.specs.Sound.{SurveySound}
use Rattle.plan_rule.specs.Plan.{plan_of}
use Rattle.plan_rule.specs.Figures.{figures_refusal}
use Rattle.floor_rule.specs.Ascent.{max_cost}
use Rattle.floor_rule.specs.Floor.{FloorCounts, floor_counts_of, flooring}
use Rattle.floor_rule.specs.Promise.{FloorPromises}
use Rattle.text_floor.specs.Gap.{tenths, gap_of}

pub gap_none : (floor cost : ℕ) → floor ≡ 0 → 0 ≡ gap_of floor cost
unfolding gap_of
gap_none floor cost h = rw (eq-eqb floor 0 h)

pub gap_some : (floor cost : ℕ) → (floor ≡ 0 → ⊥) → (tenths * (cost - floor) + (floor - 1)) / floor ≡ gap_of floor cost
unfolding gap_of
gap_some floor cost h = rw (ne_eqb floor 0 h)

-- A number taken by a divisor, rounded up, is at least the whole.
round_up : (x f : ℕ) → (f ≡ 0 → ⊥) → x ≤ (x + (f - 1)) / f * f
round_up x f some =
    let whole : (x + (f - 1)) / f * f + (x + (f - 1)) % f ≡ x + (f - 1) = div-add-mod' (x + (f - 1)) f in
    let less : (x + (f - 1)) % f < f = mod-lt (x + (f - 1)) (omega arith) in
    omega (arith, whole, less)

-- The plan costs at most the gap more than the floor.
pub gap_enough : (floor cost : ℕ) → (floor ≡ 0 → ⊥) → floor ≤ cost → tenths * cost ≤ (tenths + gap_of floor cost) * floor
gap_enough floor cost some h =
    let up : tenths * (cost - floor) ≤ (tenths * (cost - floor) + (floor - 1)) / floor * floor = round_up (tenths * (cost - floor)) floor some in
    let is : (tenths * (cost - floor) + (floor - 1)) / floor * floor ≡ gap_of floor cost * floor = ap (λ q. q * floor) (gap_some floor cost some) in
    omega (arith, up, is, h)

-- What may be computed in 64 bits.
pub gap_fits : (floor cost : ℕ) → floor ≤ cost → cost ≤ max_cost → tenths * (cost - floor) + (floor - 1) < 2 ^ 64
gap_fits floor cost h c = omega arith

-- The floor and the cost that are answered, in these bounds.
module _ (s : Survey) {o : Outcome FloorCounts} (promises : FloorPromises s o) {f : FloorCounts} (told : o ≡ answer f) where
  pub floor_le_cost : f.floor ≤ f.cost
  floor_le_cost = (promises.answered f told).1.plan_above

  -- No set of tracks that joins every group is cheaper than the plan by more than the gap.
  pub gap_above_every_set : (F : ℕ → Bool) → EdgeSet (problem_of s) F → Joins (problem_of s) F
      → tenths * f.cost ≤ (tenths + gap_of f.floor f.cost) * cost (problem_of s) F
  gap_above_every_set F set joins = by (ℕ_discrete f.floor 0)
    where
      by : Dec (f.floor ≡ 0) → tenths * f.cost ≤ (tenths + gap_of f.floor f.cost) * cost (problem_of s) F
      by (yes none) =
          let free : f.cost ≡ 0 = (promises.answered f told).1.free none in
          omega (arith, free)
      by (no some) =
          omega (
            arith,
            gap_enough f.floor f.cost some floor_le_cost,
            mul-le-mul_left (tenths + gap_of f.floor f.cost) ((promises.answered f told).1.below F set joins),
          )

-- What the kept tracks of a sound survey cost.
cost_small : (s : Survey) → SurveySound s → (plan_of (problem_of s)).cost ≤ max_cost
unfolding plan_of cost problem_of edge_count
cost_small s sound =
    let few : length s.firsts ≤ max_edges = sound.edges_few in
    let all = sum_limit (length s.firsts) max_weight (λ e. counted (kept (problem_of s) e) (get_or s.weights e 0)) (λ e b.
    let w : get_or s.weights e 0 ≤ max_weight = (sound.edges e b).weight_le in
    omega (arith, counted_le (kept (problem_of s) e) (get_or s.weights e 0), w)) in
    omega (arith, all, few)

pub answered_small : (s : Survey) {o : Outcome FloorCounts} → o ≡ flooring s → FloorPromises s o → {f : FloorCounts} → o ≡ answer f → f.cost ≤ max_cost
unfolding flooring floor_counts_of
answered_small s is promises {f} told =
    let a = answer_fine (figures_refusal s) (floor_counts_of s) f (sym is ∙ told) in
    subst (λ (g : FloorCounts). g.cost ≤ max_cost) a.1 (cost_small s (promises.answered f told).0.survey)
