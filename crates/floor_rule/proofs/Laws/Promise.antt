-- The floor is one, for every survey: no set of tracks that joins every group costs less. Where the plan costs no more it is a cheapest one.
use Rattle.std.specs.Prelude.{ℕ, zero, suc, ◌*◌, ◌-◌, ◌≤◌, ◌<◌, ◌≡◌, refl, Bool, true, false, cond, length, ltb}
use native.Mathlib.Omega.{arith}
use Rattle.std.proofs.Common.{mul-zero, sym, ◌∙◌, ltb-true, ltb-false}
use Rattle.std.proofs.Math.Decide.{ℕ_discrete}
use Rattle.std.proofs.Math.Path.{ap, subst}
use Rattle.base_limits.specs.Limits.{max_vertices}
use Rattle.base_limits.specs.Verdict.{◌before◌, outcome}
use Rattle.base_limits.specs.declared.Verdict.TheVariants.{Fine}
use Rattle.base_limits.specs.Laws.Verdict.{fine_left, fine_right, before_fine, answer_fine}
use Rattle.theory_steiner.specs.Problem.{Problem, Sound, EdgeSet, Joins, all_usable, cost, terminals}
use Rattle.theory_steiner.specs.Growth.{grown}
use Rattle.theory_steiner.specs.Pruning.{kept, dual_bound}
use Rattle.theory_steiner.proofs.Laws.Finish.{kept_joins, kept_edges}
use Rattle.theory_steiner.proofs.Laws.Accuracy.{kept_accurate, no_terminal_free}
use Rattle.theory_steiner.proofs.Laws.Exact.{bound_le_twice}
use Rattle.survey_core.specs.Survey.{Survey, lists_of, vertex_count, edge_count, problem_of}
use Rattle.survey_core.specs.Sound.{ByteGroups, SurveySound}
use Rattle.survey_core.specs.Refusal.{survey_refusal, group_refusal}
use Rattle.survey_core.proofs.Laws.Refusal.{survey_sound, survey_fine, fine_survey}
use Rattle.survey_core.proofs.Laws.Group.{group_fine, joins_fine}
use Rattle.survey_lists.specs.Pouring.{poured_survey}
use Rattle.survey_lists.proofs.Laws.Pouring.{length_poured}
use Rattle.survey_lists.proofs.Laws.Plan.{poured_joins}
use Rattle.plan_rule.specs.Plan.{plan_of}
use Rattle.plan_rule.specs.Figures.{figures_refusal}
use Rattle.plan_rule.proofs.Laws.Ready.{all_bounded}
use Rattle.floor_rule.specs.Floor.{greater, ascent_of, half_up, floor_of, floor_counts_of, flooring}
use Rattle.floor_rule.specs.Number.{numbered_groups}
use Rattle.floor_rule.specs.Promise.{FloorHolds, Floorable, FloorPromises}
use Rattle.floor_rule.proofs.Laws.Ascent.{ascent_below}
use Rattle.floor_rule.proofs.Laws.Number.{length_numbered, numbered_required}

pub greater_left : (x y : ℕ) → x ≤ greater x y
unfolding greater
greater_left x y = by (ltb x y) refl
  where
    by : (t : Bool) → ltb x y ≡ t → x ≤ cond t y x
    by true h = let c : x < y = ltb-true x y h in omega arith
    by false h = omega arith

pub greater_right : (x y : ℕ) → y ≤ greater x y
unfolding greater
greater_right x y = by (ltb x y) refl
  where
    by : (t : Bool) → ltb x y ≡ t → y ≤ cond t y x
    by true h = omega arith
    by false h = ltb-false x y h

pub greater_le : (x y z : ℕ) → x ≤ z → y ≤ z → greater x y ≤ z
unfolding greater
greater_le x y z h k = by (ltb x y)
  where
    by : (t : Bool) → cond t y x ≤ z
    by true = k
    by false = h

-- The ascent's floor is one, also over lists that overlap.
pub ascent_floor_below : (s : Survey) → SurveySound s → (F : ℕ → Bool) → EdgeSet (problem_of s) F → Joins (problem_of s) F → ascent_of s ≤ cost (problem_of s) F
unfolding ascent_of problem_of vertex_count edge_count cost
ascent_floor_below s sound F set joins =
    let same_length : length (numbered_groups (lists_of s)) ≡ length (poured_survey s).groups = length_numbered (lists_of s) ∙ sym (length_poured (lists_of s)) in
    let few : length (numbered_groups (lists_of s)) ≤ max_vertices = omega (arith, length_numbered (lists_of s), sound.few) in
    ascent_below (poured_survey s) (numbered_groups (lists_of s)) same_length few sound.edges_few (numbered_required s sound.pairs) F set
    ((poured_joins s sound.pairs F (λ e h. (set e h).0)).0 joins)

half_below : (b c : ℕ) → b ≤ 2 * c → half_up b ≤ c
unfolding half_up
half_below b c h = omega arith

half_above : (b : ℕ) → b ≤ 2 * half_up b
unfolding half_up
half_above b = omega arith

free_product : (k c : ℕ) → k * c ≤ (k - 1) * 0 → (k ≡ 0 → ⊥) → c ≡ 0
free_product zero c h some = absurd (some refl)
free_product (suc k) c h some = let z : suc k * c ≤ 0 = subst (λ x. suc k * c ≤ x) (mul-zero (suc k - 1)) h in omega (arith, z)

module _ (s : Survey) (sound : SurveySound s) (joinable : Joins (problem_of s) (all_usable (problem_of s))) where
  abbrev p : Problem
  p = problem_of s

  ok : Sound (problem_of s)
  ok = survey_sound s sound

  some : 0 < (problem_of s).vertices
  unfolding problem_of vertex_count
  some = sound.some

  pub floor_below : (F : ℕ → Bool) → EdgeSet (problem_of s) F → Joins (problem_of s) F → floor_of s ≤ cost (problem_of s) F
  unfolding floor_of plan_of
  floor_below F set joins =
      greater_le (ascent_of s) (half_up (dual_bound p (grown p))) (cost p F) (ascent_floor_below s sound F set joins)
      (half_below (dual_bound p (grown p)) (cost p F) (bound_le_twice p ok some joinable F set joins))

  pub floor_half : (plan_of (problem_of s)).bound ≤ 2 * floor_of s
  unfolding floor_of
  floor_half = omega (arith, half_above (plan_of p).bound, greater_right (ascent_of s) (half_up (plan_of p).bound))

  pub floor_plan : floor_of s ≤ (plan_of (problem_of s)).cost
  unfolding plan_of
  floor_plan = floor_below (kept p) (kept_edges p ok some joinable) (kept_joins p ok some joinable)

  pub floor_free : floor_of s ≡ 0 → (plan_of (problem_of s)).cost ≡ 0
  unfolding plan_of
  floor_free h =
      let none : dual_bound p (grown p) ≡ 0 = bound_none in
      by (ℕ_discrete (terminals p) 0) none
    where
      bound_none : dual_bound p (grown p) ≡ 0
      bound_none = let c : dual_bound p (grown p) ≤ 2 * floor_of s = floor_half in omega arith

      by : Dec (terminals p ≡ 0) → dual_bound p (grown p) ≡ 0 → cost p (kept p) ≡ 0
      by (yes z) none = no_terminal_free p ok some joinable z
      by (no z) none = free_product (terminals p) (cost p (kept p)) (subst (λ b. terminals p * cost p (kept p) ≤ (terminals p - 1) * b) none (kept_accurate p ok some joinable)) z

  floor_holds : FloorHolds s (floor_counts_of s)
  unfolding floor_counts_of
  floor_holds =
      record {
        below = floor_below;
        plan_above = floor_plan;
        cheapest = λ e F set joins. subst (λ x. x ≤ cost p F) e (floor_below F set joins);
        half = floor_half;
        free = floor_free;
      }

module _ (s : Survey) (numbered : ByteGroups s) where
  pub fine_floorable : figures_refusal s ≡ Fine → Floorable s
  unfolding figures_refusal
  fine_floorable h =
      record {
        survey = fine_survey s (fine_left (survey_refusal s) (group_refusal s 8 (all_usable (problem_of s))) h);
        joinable = group_fine s 8 (all_usable (problem_of s)) (all_bounded s) numbered (fine_right (survey_refusal s) (group_refusal s 8 (all_usable (problem_of s))) h);
      }

  floorable_fine : Floorable s → figures_refusal s ≡ Fine
  unfolding figures_refusal
  floorable_fine h = before_fine (survey_fine s h.survey) _ ∙ joins_fine s 8 (all_usable (problem_of s)) (all_bounded s) h.joinable

  pub floor_promises : FloorPromises s (flooring s)
  unfolding flooring outcome
  floor_promises =
      record {
        answered = λ f h.
            let a = answer_fine (figures_refusal s) (floor_counts_of s) f h in
            let able = fine_floorable a.0 in
            (able, subst (FloorHolds s) a.1 (floor_holds s able.survey able.joinable));
        answers = λ h. ap (λ v. outcome v (floor_counts_of s)) (floorable_fine h);
      }
