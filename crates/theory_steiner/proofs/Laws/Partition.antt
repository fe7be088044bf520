-- After every round: labels are equal exactly if the picked edges link, the picked edges are a forest of usable edges (source 001, proof of
-- Lemma 22.6), and a component number that is in use has just the vertices with that label.
use Rattle.std.specs.Prelude.{ℕ, suc, ◌<◌, ◌≡◌, refl, ◌⊎◌, ◌↔◌, true, false, ◌||◌, eqb}
use Rattle.std.proofs.Common.{sym, ◌∙◌, subst, inl, inr, ⊎_elim, arith, eqb-true, eq-eqb, ne_eqb}
use Rattle.std.proofs.lemmas.Bool.{false≢true}
use Rattle.std.proofs.Math.Decide.{ℕ_discrete}
use Rattle.base_finite.specs.Laws.Test.{or_cases, or_left, or_right}
use Rattle.theory_graph.specs.Path.{Linked, Forest}
use Rattle.theory_graph.specs.Component.{merged}
use Rattle.theory_graph.proofs.Laws.Linked.{linked_refl}
use Rattle.theory_graph.proofs.Laws.Component.{Labels, linked_same_label, labels_iff, labels_merged, labels_cong, Merging, inside, outside, merging}
use Rattle.theory_graph.proofs.Laws.Forest.{forest_more}
use Rattle.theory_steiner.specs.Problem.{Problem, Sound, EdgeSet}
use Rattle.theory_steiner.specs.Growth.{State, start, active, numbers, edge, winner, pick, state_at, Reached, first, next}
use Rattle.theory_steiner.proofs.Laws.Joined.{Split, separates_elim}
use Rattle.theory_steiner.proofs.Laws.Round.{state_at_reached, pick_numbers, pick_label, pick_holds_old, pick_holds_new, pick_more, pick_new, pick_only}
use Rattle.theory_steiner.proofs.Laws.Winner.{Candidate, delay_elim, winner_wins}

abbrev pub Vertex : Problem → ℕ → Type 0
Vertex p v = v < p.vertices

-- ---- the winner's edge

pub winner_candidate : (p : Problem) (s : State) (e d : ℕ) → winner p s ≡ edge e d → Candidate p s e d
winner_candidate p s e d w = delay_elim p s e d (winner_wins p s e d w).delayed

pub winner_below_law : (p : Problem) (s : State) (e d : ℕ) → winner p s ≡ edge e d → e < p.edges
winner_below_law p s e d w = (winner_wins p s e d w).below

-- ---- labels

-- How a label changes in a round.
pub label_merging : (p : Problem) (s : State) (e v : ℕ) → Merging (s.label (p.first e)) (s.label (p.second e)) (numbers p s) s.label v
label_merging p s e v = merging (s.label (p.first e)) (s.label (p.second e)) (numbers p s) s.label v

pub label_below_law : (p : Problem) {s : State} → Reached p s → (v : ℕ) → v < p.vertices → s.label v < numbers p s
unfolding start numbers
label_below_law p first v h = omega arith
label_below_law p (next {s = s} {e = e} {d = d} h w) v b =
    rw (pick_label p s e d v, pick_numbers p s e d) (by (label_below_law p h v b) (label_merging p s e v))
  where
    by : s.label v < numbers p s → Merging (s.label (p.first e)) (s.label (p.second e)) (numbers p s) s.label v →
        merged (s.label (p.first e)) (s.label (p.second e)) (numbers p s) s.label v < suc (numbers p s)
    by ih (inside q i) = rw i (omega arith)
    by ih (outside q r i) = rw i (omega arith)

-- The next number is no vertex's label.
pub label_fresh : (p : Problem) {s : State} → Reached p s → (v : ℕ) → v < p.vertices → s.label v ≡ numbers p s → ⊥
label_fresh p h v b e = let l = label_below_law p h v b in omega arith

pub picked_usable : (p : Problem) {s : State} → Reached p s → EdgeSet p s.picked
unfolding start
picked_usable p first e h = absurd (false≢true h)
picked_usable p (next {s = s} {e = e} {d = d} h w) f g =
    ⊎_elim
    (λ old. picked_usable p h f old)
    (λ same. (
      subst (λ x. x < p.edges) (sym same) (winner_below_law p s e d w),
      subst (λ x. p.usable x ≡ true) (sym same) (winner_candidate p s e d w).usable,
    ))
    (pick_only p s e d f g)

-- Labels are right: equal exactly if linked by picked edges (`labels_iff`).
pub partition : (p : Problem) (ok : Sound p) {s : State} → Reached p s → Labels p.first p.second s.picked (Vertex p) s.label
unfolding start
partition p ok first = record { ends = λ e h. absurd (false≢true h); sound = λ u v bu bv h. linked_refl h }
partition p ok (next {s = s} {e = e} {d = d} h w) =
    labels_cong (λ f. refl) (pick_label p s e d)
    (labels_merged p.first p.second s.picked (pick p s e d).picked (Vertex p) s.label (partition p ok h) e (numbers p s) (pick_more p s e d)
    (pick_new p s e d) (pick_only p s e d) (ok.first_below_law e (winner_below_law p s e d w)) (ok.second_below e (winner_below_law p s e d w))
    (λ v b k. absurd (label_fresh p h v b k)))

-- Document 01: components are what picked tracks link.
pub label_iff_linked : (p : Problem) (ok : Sound p) (r u v : ℕ) → u < p.vertices → v < p.vertices →
    ((state_at p r).label u ≡ (state_at p r).label v) ↔ Linked p.first p.second (state_at p r).picked u v
label_iff_linked p ok r u v bu bv = labels_iff (partition p ok (state_at_reached p r)) u v bu bv

pub picked_forest : (p : Problem) (ok : Sound p) {s : State} → Reached p s → Forest p.first p.second s.picked
unfolding start
picked_forest p ok first = λ e h l. absurd (false≢true h)
picked_forest p ok (next {s = s} {e = e} {d = d} h w) =
    forest_more p.first p.second s.picked (pick p s e d).picked e (picked_forest p ok h)
    (λ l. (winner_candidate p s e d w).apart (linked_same_label s.label (partition p ok h).ends l)) (pick_only p s e d)

-- ---- members

members_first : (u v : ℕ) → start.holds (start.label u) v ≡ eqb (start.label v) (start.label u)
unfolding start
members_first u v = refl

pub members : (p : Problem) (ok : Sound p) {s : State} → Reached p s → (u v : ℕ) → u < p.vertices → v < p.vertices →
    s.holds (s.label u) v ≡ eqb (s.label v) (s.label u)
members p ok first u v bu bv = members_first u v
members p ok (next {s = s} {e = e} {d = d} h w) u v bu bv =
    rw (pick_label p s e d u, pick_label p s e d v)
    (by (λ a ba. members p ok h a v ba bv) (label_merging p s e u) (label_merging p s e v))
  where
    x : ℕ
    x = s.label (p.first e)

    y : ℕ
    y = s.label (p.second e)

    z : ℕ
    z = numbers p s

    either_eqb : (s.label v ≡ x) ⊎ (s.label v ≡ y) → (eqb (s.label v) x || eqb (s.label v) y) ≡ true
    either_eqb (inl k) = or_left (eqb (s.label v) x) (eqb (s.label v) y) (eq-eqb (s.label v) x k)
    either_eqb (inr k) = or_right (eqb (s.label v) x) (eqb (s.label v) y) (eq-eqb (s.label v) y k)

    neither_eqb : (s.label v ≡ x → ⊥) → (s.label v ≡ y → ⊥) → (eqb (s.label v) x || eqb (s.label v) y) ≡ false
    neither_eqb k l = rw (ne_eqb (s.label v) x k, ne_eqb (s.label v) y l)

    Old : Type 0
    Old = (a : ℕ) → a < p.vertices → s.holds (s.label a) v ≡ eqb (s.label v) (s.label a)

    M : ℕ → ℕ
    M = merged x y z s.label

    union : Old → (pick p s e d).holds z v ≡ (eqb (s.label v) x || eqb (s.label v) y)
    union old =
        pick_holds_new p s e d v
        ∙ rw (old (p.first e) (ok.first_below_law e (winner_below_law p s e d w)), old (p.second e) (ok.second_below e (winner_below_law p s e d w)))

    by : Old → Merging x y z s.label u → Merging x y z s.label v → (pick p s e d).holds (M u) v ≡ eqb (M v) (M u)
    by old (inside q i) (inside r j) =
        rw (i, j) (union old ∙ either_eqb r ∙ sym (eq-eqb z z refl))
    by old (inside q i) (outside r r' j) =
        rw (i, j) (union old ∙ neither_eqb r r' ∙ sym (ne_eqb (s.label v) z (label_fresh p h v bv)))
    by old (outside q q' i) (inside r j) =
        rw (i, j)
        (pick_holds_old p s e d (s.label u) v (label_fresh p h u bu) ∙ old u bu
        ∙ ne_eqb (s.label v) (s.label u) (λ k. ⊎_elim (λ a. q (sym k ∙ a)) (λ a. q' (sym k ∙ a)) r)
        ∙ sym (ne_eqb z (s.label u) (λ k. label_fresh p h u bu (sym k))))
    by old (outside q q' i) (outside r r' j) = rw (i, j) (pick_holds_old p s e d (s.label u) v (label_fresh p h u bu) ∙ old u bu)

-- The members of every component are vertices.
pub members_below : (p : Problem) (ok : Sound p) {s : State} → Reached p s → (c v : ℕ) → c < numbers p s → s.holds c v ≡ true → v < p.vertices
unfolding start numbers
members_below p ok first c v b h = let e : v ≡ c = eqb-true v c h in omega arith
members_below p ok (next {s = s} {e = e} {d = d} h w) c v b k = by (ℕ_discrete c (numbers p s)) (λ c b k. members_below p ok h c v b k)
  where
    Old : Type 0
    Old = (c : ℕ) → c < numbers p s → s.holds c v ≡ true → v < p.vertices

    by : Dec (c ≡ numbers p s) → Old → v < p.vertices
    by (yes new) ih =
        ⊎_elim
        (ih (s.label (p.first e)) (label_below_law p h (p.first e) (ok.first_below_law e (winner_below_law p s e d w))))
        (ih (s.label (p.second e)) (label_below_law p h (p.second e) (ok.second_below e (winner_below_law p s e d w))))
        (or_cases (s.holds (s.label (p.first e)) v) (s.holds (s.label (p.second e)) v)
        (sym (pick_holds_new p s e d v) ∙ subst (λ x. (pick p s e d).holds x v ≡ true) new k))
    by (no old) ih = ih c (omega (arith, pick_numbers p s e d)) (sym (pick_holds_old p s e d c v old) ∙ k)

-- An active component has a vertex.
pub record Inhabited (p : Problem) (label : ℕ → ℕ) (c : ℕ) : Type 0 where
  pub vertex : ℕ
  pub below : vertex < p.vertices
  pub labelled : label vertex ≡ c

pub active_inhabited : (p : Problem) (label : ℕ → ℕ) (c : ℕ) → active p label c ≡ true → Inhabited p label c
unfolding active
active_inhabited p label c h =
    let s : Split p (λ v. eqb (label v) c) = separates_elim p (λ v. eqb (label v) c) h in
    record { vertex = s.u; below = s.u_below; labelled = eqb-true (label s.u) c s.inside }

pub active_below_law : (p : Problem) {s : State} → Reached p s → (c : ℕ) → active p s.label c ≡ true → c < numbers p s
active_below_law p {s} h c a =
    let i : Inhabited p s.label c = active_inhabited p s.label c a in
    subst (λ x. x < numbers p s) i.labelled (label_below_law p h i.vertex i.below)

-- The members of an active component are the vertices with its label.
pub active_members : (p : Problem) (ok : Sound p) {s : State} → Reached p s → (c : ℕ) → active p s.label c ≡ true →
    (v : ℕ) → v < p.vertices → s.holds c v ≡ eqb (s.label v) c
active_members p ok {s} h c a v b =
    let i : Inhabited p s.label c = active_inhabited p s.label c a in
    subst (λ x. s.holds x v ≡ eqb (s.label v) x) i.labelled (members p ok h i.vertex v i.below b)
