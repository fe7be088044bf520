-- Where near best is best (document 02, No. 14), of every finished plan: `theory_steiner: two-bound, two-cheapest,
-- picked-is-taken, kept-is-picked, spanning-cheapest` and `theory_route: two-cheapest-route` for the problem that a
-- survey poses, said of the marks. And which surveys have exactly two sites.
use Rattle.std.specs.Prelude.{ℕ, ◌≤◌, ◌<◌, ◌≡◌, ◌⊎◌, Bool, List, eqb}
use Rattle.std.proofs.Common.{arith, ◌∙◌, subst}
use Rattle.std.proofs.Math.Path.{refl, ap, sym}
use Rattle.std.proofs.Math.Logic.{⊎_elim}
use Rattle.std.proofs.Math.Bool.{true, false, not}
use Rattle.std.proofs.Math.ListN.{get_or-eq_default}
use Rattle.base_finite.specs.Below.{counted, count_below, tabulate}
use Rattle.base_finite.specs.Laws.Test.{not_true_false}
use Rattle.base_finite.specs.Laws.Below.{lt_or_ge, length_tabulate, get_d_tabulate, sum_at_two, sum_zero, counted_true, counted_false}
use Rattle.theory_steiner.specs.Problem.{Problem, Sound, Joins, terminal, terminals, all_usable}
use Rattle.theory_steiner.specs.Pruning.{picked, kept, mark_of, mark}
use Rattle.theory_steiner.specs.Spanning.{RequiresAll, taken}
use Rattle.theory_steiner.proofs.Laws.Joined.{Partner, terminal_elim, terminal_intro}
use Rattle.theory_steiner.proofs.Laws.Finish.{picked_edges}
use Rattle.theory_steiner.proofs.Laws.Exact.{two_bound, two_cheapest}
use Rattle.theory_steiner.proofs.Laws.Spanning.{kept_is_picked}
use Rattle.theory_steiner.proofs.Laws.Cheapest.{spanning_cheapest}
use Rattle.theory_steiner.proofs.Laws.Taken.{picked_is_taken}
use Rattle.theory_route.specs.Cheapest.{CheapestRoute, TwoTerminals}
use Rattle.theory_route.proofs.Laws.Cheapest.{two_terminals, two_cheapest_route}
use Rattle.survey_core.specs.Survey.{Survey, vertex_count, same_group, problem_of}
use Rattle.survey_core.specs.Sound.{SurveySound, ByteGroups}
use Rattle.survey_core.proofs.Laws.Refusal.{survey_sound, same_group_symmetric}
use Rattle.survey_core.proofs.Laws.Group.{members_same_group}
use Rattle.survey_components.specs.Labels.{picked_in}
use Rattle.check_rule.specs.Check.{kept_by}
use Rattle.check_rule.proofs.Laws.Exact.{checking_certified}
use Rattle.plan_draw.specs.Drawing.{records_of}
use Rattle.plan_rule.specs.Plan.{plan_of, plan_counts_of}
use Rattle.plan_rule.specs.Exact.{RouteKept, HoldsAll, TakenKept, Exact}
use Rattle.plan_rule.proofs.Laws.Passes.{marks_kept, marks_cost, finished_passes}

-- ---- which surveys these are

-- Two junctions that share a list, where no others do, are exactly two sites: by one list or by several, of their own
-- groups or by pairs.
pub two_members : (s : Survey) (u w : ℕ) → u < vertex_count s → w < vertex_count s → (u ≡ w → ⊥) → same_group s u w ≡ true →
    ((x y : ℕ) → x < vertex_count s → y < vertex_count s → (x ≡ y → ⊥) → same_group s x y ≡ true → (x ≡ u) ⊎ (x ≡ w)) → terminals (problem_of s) ≡ 2
unfolding terminals count_below problem_of
two_members s u w bu bw apart shared only =
    omega (
      arith,
      sum_at_two (vertex_count s) (λ v. counted (terminal (problem_of s) v) 1) (λ v. 0) u w bu bw apart
          (λ v b x y. counted_false (not_true_false (terminal (problem_of s) v) (λ t. other v b x y t)) 1),
      sum_zero (vertex_count s) (λ v. 0) (λ v b. refl),
      counted_true at_u 1,
      counted_true at_w 1,
    )
  where
    at_u : terminal (problem_of s) u ≡ true
    at_u = terminal_intro (problem_of s) u (record { vertex = w; below = bw; other = λ e. apart (sym e); required = same_group_symmetric s u w shared })

    at_w : terminal (problem_of s) w ≡ true
    at_w = terminal_intro (problem_of s) w (record { vertex = u; below = bu; other = apart; required = shared })

    other : (v : ℕ) → v < vertex_count s → (v ≡ u → ⊥) → (v ≡ w → ⊥) → terminal (problem_of s) v ≡ true → ⊥
    other v b x y t =
        let p : Partner (problem_of s) v = terminal_elim (problem_of s) v t in
        ⊎_elim x y (only v p.vertex b p.below (λ e. p.other (sym e)) (same_group_symmetric s p.vertex v p.required))

-- A list that holds every junction requires any two to be linked.
holds_all_required : (s : Survey) (g : ℕ) → HoldsAll s g → RequiresAll (problem_of s)
unfolding problem_of
holds_all_required s g all u v bu bv = members_same_group s g u v (all u bu) (all v bv)

-- ---- a finished plan

module _ (s : Survey) (sound : SurveySound s) (joinable : Joins (problem_of s) (all_usable (problem_of s))) where
  p : Problem
  p = problem_of s

  ok : Sound (problem_of s)
  ok = survey_sound s sound

  some : 0 < (problem_of s).vertices
  unfolding problem_of vertex_count
  some = sound.some

  marks : List ℕ
  marks = (plan_of (problem_of s)).marks

  kept_path : kept_by (plan_of (problem_of s)).marks ≡ kept (problem_of s)
  kept_path i e = marks_kept s sound joinable e i

  mark_picked : (a b : Bool) → not (eqb (mark_of a b) 0) ≡ a
  unfolding mark_of
  mark_picked true true = refl
  mark_picked true false = refl
  mark_picked false b = refl

  marks_picked : (e : ℕ) → picked_in (plan_of (problem_of s)).marks e ≡ picked (problem_of s) e
  unfolding plan_of picked_in mark
  marks_picked e =
      ⊎_elim
      (λ b.
      ap (λ x. not (eqb x 0)) (get_d_tabulate (problem_of s).edges (mark (problem_of s)) e 0 b)
      ∙ mark_picked (picked (problem_of s) e) (kept (problem_of s) e))
      (λ g.
      ap (λ x. not (eqb x 0))
      (get_or-eq_default (tabulate (problem_of s).edges (mark (problem_of s))) 0 (subst (λ x. x ≤ e) (sym (length_tabulate (problem_of s).edges (mark (problem_of s)))) g))
      ∙ sym (not_true_false (picked (problem_of s) e) (λ k. let l = (picked_edges (problem_of s) ok some joinable e k).0 in omega arith)))
      (lt_or_ge e (problem_of s).edges)

  route_kept : terminals (problem_of s) ≡ 2 → RouteKept s (plan_of (problem_of s)).marks (plan_counts_of (plan_of (problem_of s)))
  unfolding plan_counts_of plan_of
  route_kept two =
      record {
        sites = sites;
        route = route;
        route_cost_law = sym (marks_cost s sound joinable) ∙ route.price;
        none_cheaper = two_cheapest (problem_of s) ok some joinable two;
        bound_twice = two_bound (problem_of s) ok some joinable two;
      }
    where
      sites : TwoTerminals (problem_of s)
      sites = two_terminals (problem_of s) ok two

      route : CheapestRoute (problem_of s) (kept_by (plan_of (problem_of s)).marks) sites.low sites.high
      route =
          subst (λ F. CheapestRoute (problem_of s) F sites.low sites.high) (sym kept_path)
          (two_cheapest_route (problem_of s) ok sites some joinable two)

  taken_kept : (g : ℕ) → HoldsAll s g → TakenKept s (plan_of (problem_of s)).marks (plan_counts_of (plan_of (problem_of s)))
  unfolding plan_counts_of plan_of
  taken_kept g holds =
      let all = holds_all_required s g holds in
      let order : (e : ℕ) → picked (problem_of s) e ≡ taken (problem_of s) e = λ e. ap (λ F. F e) (picked_is_taken (problem_of s) ok some joinable all) in
      record {
        none_cheaper = spanning_cheapest (problem_of s) ok some joinable all;
        picked_taken = λ e. marks_picked e ∙ order e;
        kept_taken = λ e. marks_kept s sound joinable e ∙ ap (λ F. F e) (kept_is_picked (problem_of s) ok some joinable all) ∙ order e;
      }

  -- The plan's own marks and figures.
  pub finished_exact : ByteGroups s → Exact s (plan_of (problem_of s)).marks (plan_counts_of (plan_of (problem_of s)))
  unfolding plan_counts_of plan_of
  finished_exact numbered =
      record {
        two_sites = route_kept;
        one_list = taken_kept;
        by_figures =
            (checking_certified s numbered (plan_of (problem_of s)).marks (records_of (plan_of (problem_of s)).duals) _ (finished_passes s sound joinable numbered)).none_cheaper;
      }
