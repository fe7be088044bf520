-- The marks of every finished plan keep just what is needed, by paths (demand 2): where the labels of the components do not join the groups, two members are named that no path links.
use Rattle.std.specs.Prelude.{ℕ, ◌<◌, ◌≤◌, ◌≡◌, ◌↔◌, Bool, ◌||◌, eqb}
use Rattle.std.proofs.Common.{arith, ◌∙◌, subst}
use Rattle.std.proofs.Math.Path.{refl, ap, sym, fun_ext}
use Rattle.std.proofs.Math.Logic.{⊎_elim}
use Rattle.std.proofs.Math.Bool.{true, false, not}
use Rattle.std.proofs.Math.ListN.{get_or-eq_default}
use Rattle.std.proofs.lemmas.Bool.{eqb-false, not-true, not-false}
use Rattle.base_finite.specs.Below.{any_below, all_below, tabulate}
use Rattle.base_finite.specs.Laws.Below.{any_elim, any_none, all_intro, Found, get_d_tabulate, length_tabulate, lt_or_ge}
use Rattle.base_finite.specs.Laws.Test.{true_not_false, not_true_false, or_false_left, or_false_right}
use Rattle.theory_graph.specs.Path.{without}
use Rattle.theory_graph.proofs.Laws.Linked.{without_elim}
use Rattle.theory_steiner.specs.Problem.{Sound, Bounded, Joins, all_usable, joined}
use Rattle.theory_steiner.specs.Pruning.{picked, kept, mark_of, mark}
use Rattle.theory_steiner.proofs.Laws.Joined.{label_of, linked_label, joined_elim, needed_iff}
use Rattle.theory_steiner.proofs.Laws.Rounds.{grown_reached}
use Rattle.theory_steiner.proofs.Laws.Partition.{picked_usable}
use Rattle.theory_steiner.proofs.Laws.Finish.{kept_joins, kept_edges, kept_spares_none}
use Rattle.survey_core.specs.Survey.{Survey, vertex_count, problem_of}
use Rattle.survey_core.specs.Sound.{SurveySound}
use Rattle.survey_core.proofs.Laws.Refusal.{survey_sound}
use Rattle.survey_core.proofs.Laws.Group.{Shared, same_group_shared, members_same_group, joins_groups}
use Rattle.survey_components.specs.Labels.{picked_in}
use Rattle.plan_rule.specs.Plan.{plan_of}
use Rattle.plan_rule.specs.Needed.{MembersApart, KeptByNeed}
use Rattle.plan_rule.proofs.Laws.Passes.{marks_kept}

-- ---- members that are not linked

-- A test that does not pass everywhere fails somewhere.
not_all : (n : ℕ) (t : ℕ → Bool) → (all_below n t ≡ true → ⊥) → Found n (λ i. not (t i))
not_all n t h =
    any_elim n (λ i. not (t i))
    (not_false_true (any_below n (λ i. not (t i)))
    (λ none. h (all_intro n t (λ i b. not-false (t i) (any_none n (λ i. not (t i)) none i b)))))
  where
    not_false_true : (b : Bool) → (b ≡ false → ⊥) → b ≡ true
    not_false_true true k = refl
    not_false_true false k = absurd (k refl)

-- Where F does not join every required pair, it leaves two members of a group apart.
pub unjoined_apart : (s : Survey) (F : ℕ → Bool) → Bounded (problem_of s) F → (Joins (problem_of s) F → ⊥) → MembersApart s F
unfolding joined problem_of
unjoined_apart s F bounded fails =
    let p = problem_of s in
    let f : Found (vertex_count s) (λ u. not (all_below (vertex_count s) (λ v. not (p.required u v) || eqb (label_of p F u) (label_of p F v)))) =
    not_all (vertex_count s) (λ u. all_below (vertex_count s) (λ v. not (p.required u v) || eqb (label_of p F u) (label_of p F v))) (λ h. fails (joined_elim p F h)) in
    let u = f.at in
    let row : all_below (vertex_count s) (λ v. not (p.required u v) || eqb (label_of p F u) (label_of p F v)) ≡ false = not-true _ f.passes in
    let g : Found (vertex_count s) (λ v. not (not (p.required u v) || eqb (label_of p F u) (label_of p F v))) =
    not_all (vertex_count s) (λ v. not (p.required u v) || eqb (label_of p F u) (label_of p F v)) (λ h. true_not_false _ h row) in
    let v = g.at in
    let off : (not (p.required u v) || eqb (label_of p F u) (label_of p F v)) ≡ false = not-true _ g.passes in
    let required : p.required u v ≡ true = not-false (p.required u v) (or_false_left (not (p.required u v)) _ off) in
    let labels : eqb (label_of p F u) (label_of p F v) ≡ false = or_false_right (not (p.required u v)) _ off in
    let x : Shared s u v = same_group_shared s u v required in
    record {
      group = x.group;
      first = u;
      second = v;
      first_below_law = f.below;
      second_below = g.below;
      first_member = x.first;
      second_member = x.second;
      apart = λ l. eqb-false (label_of p F u) (label_of p F v) labels (linked_label p F bounded u v l);
    }

apart_unjoined : (s : Survey) (F : ℕ → Bool) → MembersApart s F → Joins (problem_of s) F → ⊥
unfolding problem_of
apart_unjoined s F a joins = a.apart (joins a.first a.second a.first_below_law a.second_below (members_same_group s a.group a.first a.second a.first_member a.second_member))

-- ---- the marks of a plan

module _ (s : Survey) (sound : SurveySound s) (joinable : Joins (problem_of s) (all_usable (problem_of s))) where
  ok : Sound (problem_of s)
  ok = survey_sound s sound

  some : 0 < (problem_of s).vertices
  unfolding problem_of vertex_count
  some = sound.some

  picked_bounded : Bounded (problem_of s) (picked (problem_of s))
  unfolding picked
  picked_bounded e h = (picked_usable (problem_of s) (grown_reached (problem_of s)) e h).0

  mark_picked : (a b : Bool) → not (eqb (mark_of a b) 0) ≡ a
  unfolding mark_of
  mark_picked true true = refl
  mark_picked true false = refl
  mark_picked false b = refl

  marks_picked : picked_in (plan_of (problem_of s)).marks ≡ picked (problem_of s)
  unfolding picked_in plan_of mark
  marks_picked =
      fun_ext
      (λ e.
      ⊎_elim
      (λ b.
      ap (λ x. not (eqb x 0)) (get_d_tabulate (problem_of s).edges (mark (problem_of s)) e 0 b)
      ∙ mark_picked (picked (problem_of s) e) (kept (problem_of s) e))
      (λ g.
      ap (λ x. not (eqb x 0))
      (get_or-eq_default (tabulate (problem_of s).edges (mark (problem_of s))) 0 (subst (λ x. x ≤ e) (sym (length_tabulate (problem_of s).edges (mark (problem_of s)))) g))
      ∙ sym (not_true_false (picked (problem_of s) e) (λ k. let l = picked_bounded e k in omega arith)))
      (lt_or_ge e (problem_of s).edges))

  without_bounded : (F : ℕ → Bool) → Bounded (problem_of s) F → (e : ℕ) → Bounded (problem_of s) (without F e)
  without_bounded F bounded e f h = bounded f (without_elim F e f h).0

  kept_iff : (e : ℕ) → (kept (problem_of s) e ≡ true) ↔ ((picked (problem_of s) e ≡ true) × MembersApart s (without (picked (problem_of s)) e))
  unfolding kept
  kept_iff e =
      let n = needed_iff (problem_of s) (picked (problem_of s)) picked_bounded e in (
        λ h. ((n.0 h).0, unjoined_apart s (without (picked (problem_of s)) e) (without_bounded (picked (problem_of s)) picked_bounded e) (n.0 h).1),
        λ h. n.1 (h.0, apart_unjoined s (without (picked (problem_of s)) e) h.1),
      )

  -- What a plan keeps is what is needed.
  pub plan_needed : KeptByNeed s (plan_of (problem_of s)).marks
  plan_needed =
      let same = fun_ext (λ e. marks_kept s sound joinable e) in
      record {
        kept_needed = λ e. rw (marks_picked, marks_kept s sound joinable e) (kept_iff e);
        joins = λ g. rw same (joins_groups s (kept (problem_of s)) (kept_joins (problem_of s) ok some joinable) g);
        none_spare = λ e k.
            rw same
            (unjoined_apart s (without (kept (problem_of s)) e) (without_bounded (kept (problem_of s)) (λ f h. (kept_edges (problem_of s) ok some joinable f h).0) e)
            (kept_spares_none (problem_of s) ok some joinable e (sym (marks_kept s sound joinable e) ∙ k)));
      }
