-- The tests of a problem mean what source 001 says in words: `joined` that every required pair has a path, `separates` that a cut parts one.
use Rattle.std.specs.Prelude.{ℕ, ◌<◌, ◌≡◌, ◌↔◌, Bool, true, false, ◌&&◌, ◌||◌, not, eqb, ltb}
use Rattle.std.proofs.Common.{⊎_elim, eqb-true, eq-eqb, ne_eqb, lt-ltb}
use Rattle.std.proofs.lemmas.Bool.{eqb-false, not-true}
use Rattle.base_finite.specs.Below.{any_below, all_below}
use Rattle.base_finite.specs.Laws.Test.{either, and_left, and_right, and_both, or_cases, or_left, or_right, not_of_false, not_true_false, true_not_false}
use Rattle.base_finite.specs.Laws.Below.{any_intro, any_elim, any_cong, all_intro, all_elim, Found}
use Rattle.theory_graph.specs.Path.{Linked, without}
use Rattle.theory_graph.specs.Component.{components}
use Rattle.theory_graph.proofs.Laws.Linked.{linked_mono, without_elim}
use Rattle.theory_graph.proofs.Laws.Component.{below, components_iff}
use Rattle.theory_steiner.specs.Problem.{Problem, Bounded, Joins, joined, separates, terminal}
use Rattle.theory_steiner.specs.Pruning.{needed}

-- Labels of the components of F, and what equal ones say.
abbrev pub label_of : Problem → (ℕ → Bool) → ℕ → ℕ
label_of p F = components p.vertices p.first p.second F p.edges

pub label_linked : (p : Problem) (F : ℕ → Bool) (u v : ℕ) → label_of p F u ≡ label_of p F v → Linked p.first p.second F u v
label_linked p F u v h =
    linked_mono (λ e k. and_right (ltb e p.edges) (F e) k) ((components_iff p.vertices p.first p.second F p.edges u v).0 h)

pub linked_label : (p : Problem) (F : ℕ → Bool) → Bounded p F → (u v : ℕ) → Linked p.first p.second F u v → label_of p F u ≡ label_of p F v
linked_label p F bounded u v h =
    (components_iff p.vertices p.first p.second F p.edges u v).1
    (linked_mono (λ e k. and_both (ltb e p.edges) (F e) (lt-ltb e p.edges (bounded e k)) k) h)

-- ---- a test over required pairs

pub joined_elim : (p : Problem) (F : ℕ → Bool) → joined p F ≡ true → Joins p F
unfolding joined
joined_elim p F h u v bu bv r =
    label_linked p F u v
    (eqb-true (label_of p F u) (label_of p F v)
    (⊎_elim
    (λ n. true_not_false (p.required u v) r (not-true (p.required u v) n))
    (λ e. e)
    (or_cases (not (p.required u v)) (eqb (label_of p F u) (label_of p F v))
    (all_elim p.vertices (λ v. not (p.required u v) || eqb (label_of p F u) (label_of p F v))
    (all_elim p.vertices (λ u. all_below p.vertices (λ v. not (p.required u v) || eqb (label_of p F u) (label_of p F v))) h u bu) v bv))))

pub joined_intro : (p : Problem) (F : ℕ → Bool) → Bounded p F → Joins p F → joined p F ≡ true
unfolding joined
joined_intro p F bounded h =
    all_intro p.vertices (λ u. all_below p.vertices (λ v. not (p.required u v) || eqb (label_of p F u) (label_of p F v)))
    (λ u bu.
    all_intro p.vertices (λ v. not (p.required u v) || eqb (label_of p F u) (label_of p F v))
    (λ v bv.
    ⊎_elim
    (λ r. or_right (not (p.required u v)) (eqb (label_of p F u) (label_of p F v))
    (eq-eqb (label_of p F u) (label_of p F v) (linked_label p F bounded u v (h u v bu bv r))))
    (λ r. or_left (not (p.required u v)) (eqb (label_of p F u) (label_of p F v)) (not_of_false (p.required u v) r))
    (either (p.required u v))))

-- Every required pair has a path of F exactly if the labels say so.
pub joined_iff : (p : Problem) (F : ℕ → Bool) → Bounded p F → (joined p F ≡ true) ↔ Joins p F
joined_iff p F bounded = (joined_elim p F, joined_intro p F bounded)

-- ---- cuts

-- A required pair with u inside S and v outside.
pub record Split (p : Problem) (S : ℕ → Bool) : Type 0 where
  pub u : ℕ
  pub v : ℕ
  pub u_below : u < p.vertices
  pub v_below : v < p.vertices
  pub required : p.required u v ≡ true
  pub inside : S u ≡ true
  pub outside : S v ≡ false

pub separates_elim : (p : Problem) (S : ℕ → Bool) → separates p S ≡ true → Split p S
unfolding separates
separates_elim p S h =
    let f : Found p.vertices (λ u. S u && any_below p.vertices (λ v. not (S v) && p.required u v)) = any_elim p.vertices _ h in
    let g : Found p.vertices (λ v. not (S v) && p.required f.at v) =
    any_elim p.vertices _ (and_right (S f.at) (any_below p.vertices (λ v. not (S v) && p.required f.at v)) f.passes) in
    record {
      u = f.at;
      v = g.at;
      u_below = f.below;
      v_below = g.below;
      required = and_right (not (S g.at)) (p.required f.at g.at) g.passes;
      inside = and_left (S f.at) (any_below p.vertices (λ v. not (S v) && p.required f.at v)) f.passes;
      outside = not-true (S g.at) (and_left (not (S g.at)) (p.required f.at g.at) g.passes);
    }

pub separates_intro : (p : Problem) (S : ℕ → Bool) → Split p S → separates p S ≡ true
unfolding separates
separates_intro p S s =
    any_intro p.vertices (λ u. S u && any_below p.vertices (λ v. not (S v) && p.required u v)) s.u s.u_below
    (and_both (S s.u) (any_below p.vertices (λ v. not (S v) && p.required s.u v)) s.inside
    (any_intro p.vertices (λ v. not (S v) && p.required s.u v) s.v s.v_below
    (and_both (not (S s.v)) (p.required s.u s.v) (not_of_false (S s.v) s.outside) s.required)))

-- Only the vertices below the count matter.
pub separates_cong : (p : Problem) (S R : ℕ → Bool) → ((v : ℕ) → v < p.vertices → S v ≡ R v) → separates p S ≡ separates p R
unfolding separates
separates_cong p S R h =
    any_cong p.vertices _ _
    (λ u bu. rw (h u bu, any_cong p.vertices (λ v. not (S v) && p.required u v) (λ v. not (R v) && p.required u v) (λ v bv. rw (h v bv))))

-- ---- what a terminal and a needed edge are

-- A terminal has another vertex that it must be linked with: a member that is alone in its group is none.
pub record Partner (p : Problem) (v : ℕ) : Type 0 where
  pub vertex : ℕ
  pub below : vertex < p.vertices
  pub other : vertex ≡ v → ⊥
  pub required : p.required vertex v ≡ true

pub terminal_elim : (p : Problem) (v : ℕ) → terminal p v ≡ true → Partner p v
unfolding terminal
terminal_elim p v h =
    let f : Found p.vertices (λ u. not (eqb u v) && p.required u v) = any_elim p.vertices _ h in
    record {
      vertex = f.at;
      below = f.below;
      other = eqb-false f.at v (not-true (eqb f.at v) (and_left (not (eqb f.at v)) (p.required f.at v) f.passes));
      required = and_right (not (eqb f.at v)) (p.required f.at v) f.passes;
    }

pub terminal_intro : (p : Problem) (v : ℕ) → Partner p v → terminal p v ≡ true
unfolding terminal
terminal_intro p v h =
    any_intro p.vertices (λ u. not (eqb u v) && p.required u v) h.vertex h.below
    (and_both (not (eqb h.vertex v)) (p.required h.vertex v) (not_of_false (eqb h.vertex v) (ne_eqb h.vertex v h.other)) h.required)

without_bounded : (p : Problem) (F : ℕ → Bool) → Bounded p F → (e : ℕ) → Bounded p (without F e)
without_bounded p F bounded e f h = bounded f (without_elim F e f h).0

-- An edge of F is needed exactly if the others of F, all of them, fail some required pair.
pub needed_iff : (p : Problem) (F : ℕ → Bool) → Bounded p F → (e : ℕ) → (needed p F e ≡ true) ↔ ((F e ≡ true) × (Joins p (without F e) → ⊥))
unfolding needed
needed_iff p F bounded e = (
  λ h. (
    and_left (F e) (not (joined p (without F e))) h,
    λ joins.
        true_not_false (joined p (without F e)) (joined_intro p (without F e) (without_bounded p F bounded e) joins)
        (not-true (joined p (without F e)) (and_right (F e) (not (joined p (without F e))) h)),
  ),
  λ h.
      and_both (F e) (not (joined p (without F e))) h.0
      (not_of_false (joined p (without F e)) (not_true_false (joined p (without F e)) (λ k. h.1 (joined_elim p (without F e) k)))),
)
