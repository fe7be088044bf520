-- How growing ends and what pruning leaves (source 001, Lemma 22.6). While the usable edges can join every required pair, a round in which some
-- component is active has a winner; so at the end none is, the picked edges join every required pair, the kept ones still do, and none of those can be spared.
use Rattle.std.specs.Prelude.{ℕ, ◌<◌, ◌≡◌, refl, ◌⊎◌, Bool, true, false, eqb, ltb}
use Rattle.std.proofs.Common.{ap, sym, ◌∙◌, inl, inr, eqb-true, eq-eqb, ne_eqb, ltb-true, lt-ltb}
use Rattle.std.proofs.Math.Bool.{not}
use Rattle.std.proofs.Math.Decide.{ℕ_discrete}
use Rattle.std.proofs.lemmas.Bool.{eqb-false, not-false}
use Rattle.base_finite.specs.Laws.Test.{and_left, and_right, and_both, not_true_false, true_not_false}
use Rattle.theory_graph.specs.Path.{Linked, without, crosses, Forest}
use Rattle.theory_graph.proofs.Laws.Linked.{linked_mono, Crossing, cut_crossed, crosses_elim, without_mono}
use Rattle.theory_graph.proofs.Laws.Forest.{needed_joins}
use Rattle.theory_steiner.specs.Problem.{Problem, Sound, EdgeSet, Joins, joined, separates, all_usable}
use Rattle.theory_steiner.specs.Growth.{State, active, nobody, edge, winner, grown}
use Rattle.theory_steiner.specs.Pruning.{needed, picked, kept}
use Rattle.theory_steiner.proofs.Laws.Joined.{joined_elim, Split, separates_elim, separates_intro, needed_iff}
use Rattle.theory_steiner.proofs.Laws.Cut.{unseparated_joins}
use Rattle.theory_steiner.proofs.Laws.Winner.{winner_none, delay_never}
use Rattle.theory_steiner.proofs.Laws.Partition.{partition, picked_usable, picked_forest}
use Rattle.theory_steiner.proofs.Laws.Rounds.{grown_reached, grown_still}

pub all_usable_edges : (p : Problem) → EdgeSet p (all_usable p)
unfolding all_usable
all_usable_edges p e h =
    (ltb-true e p.edges (and_left (ltb e p.edges) (p.usable e) h), and_right (ltb e p.edges) (p.usable e) h)

-- Every set of usable edges is part of it.
pub all_usable_all : (p : Problem) (F : ℕ → Bool) → EdgeSet p F → (e : ℕ) → F e ≡ true → all_usable p e ≡ true
unfolding all_usable
all_usable_all p F set e h = and_both (ltb e p.edges) (p.usable e) (lt-ltb e p.edges (set e h).0) (set e h).1

-- ---- the end of growing

-- A usable edge that leaves an active component is a candidate.
pub active_left : (p : Problem) (s : State) (c : ℕ) → active p s.label c ≡ true → winner p s ≡ nobody → (e : ℕ) → e < p.edges → p.usable e ≡ true →
    crosses p.first p.second (λ v. eqb (s.label v) c) e ≡ true → ⊥
active_left p s c a still e b u x = by (crosses_elim p.first p.second (λ v. eqb (s.label v) c) e x)
  where
    by : ((eqb (s.label (p.first e)) c ≡ true) × (eqb (s.label (p.second e)) c ≡ false))
        ⊎ ((eqb (s.label (p.first e)) c ≡ false) × (eqb (s.label (p.second e)) c ≡ true)) → ⊥
    by (inl k) =
        let f : s.label (p.first e) ≡ c = eqb-true (s.label (p.first e)) c k.0 in
        let rest = delay_never p s e (winner_none p s still e b) u (λ same. eqb-false (s.label (p.second e)) c k.1 (sym same ∙ f)) in
        true_not_false (active p s.label (s.label (p.first e))) (ap (active p s.label) f ∙ a) rest.0
    by (inr k) =
        let f : s.label (p.second e) ≡ c = eqb-true (s.label (p.second e)) c k.1 in
        let rest = delay_never p s e (winner_none p s still e b) u (λ same. eqb-false (s.label (p.first e)) c k.0 (same ∙ f)) in
        true_not_false (active p s.label (s.label (p.second e))) (ap (active p s.label) f ∙ a) rest.1

-- So, where nothing is left to pick, a path of usable edges from an active component stays in it.
pub active_closed : (p : Problem) (s : State) (c : ℕ) → active p s.label c ≡ true → winner p s ≡ nobody →
    {u v : ℕ} → Linked p.first p.second (all_usable p) u v → s.label u ≡ c → s.label v ≡ c
active_closed p s c a still {u} {v} l h = by (ℕ_discrete (s.label v) c)
  where
    by : Dec (s.label v ≡ c) → s.label v ≡ c
    by (yes same) = same
    by (no apart) =
        let x : Crossing p.first p.second (all_usable p) (λ v. eqb (s.label v) c) =
        cut_crossed (λ v. eqb (s.label v) c) l (eq-eqb (s.label u) c h) (ne_eqb (s.label v) c apart) in
        absurd
        (active_left p s c a still x.edge (all_usable_edges p x.edge x.member).0 (all_usable_edges p x.edge x.member).1 x.crossing)

-- An active component is left by a candidate.
pub active_not_still : (p : Problem) → Joins p (all_usable p) → (s : State) (c : ℕ) → active p s.label c ≡ true → winner p s ≡ nobody → ⊥
unfolding active
active_not_still p joins s c a still =
    let split : Split p (λ v. eqb (s.label v) c) = separates_elim p (λ v. eqb (s.label v) c) a in
    eqb-false (s.label split.v) c split.outside
    (active_closed p s c a still (joins split.u split.v split.u_below split.v_below split.required)
    (eqb-true (s.label split.u) c split.inside))

-- A required pair whose first vertex is in no active component has one label.
pub resting_pair : (p : Problem) (label : ℕ → ℕ) (u v : ℕ) → u < p.vertices → v < p.vertices → p.required u v ≡ true →
    active p label (label u) ≡ false → label u ≡ label v
unfolding active
resting_pair p label u v bu bv r rest = by (ℕ_discrete (label u) (label v))
  where
    by : Dec (label u ≡ label v) → label u ≡ label v
    by (yes same) = same
    by (no apart) =
        absurd
        (true_not_false (separates p (λ w. eqb (label w) (label u)))
        (separates_intro p (λ w. eqb (label w) (label u))
        (record {
          u = u;
          v = v;
          u_below = bu;
          v_below = bv;
          required = r;
          inside = eq-eqb (label u) (label u) refl;
          outside = ne_eqb (label v) (label u) (λ k. apart (sym k));
        }))
        rest)

-- Where nothing is active, every required pair has.
pub resting_joined : (p : Problem) (label : ℕ → ℕ) → ((c : ℕ) → active p label c ≡ false) → (u v : ℕ) → u < p.vertices → v < p.vertices →
    p.required u v ≡ true → label u ≡ label v
resting_joined p label rest u v bu bv r = resting_pair p label u v bu bv r (rest (label u))

-- The ends of a picked edge are in one component at the end.
pub grown_ends : (p : Problem) (ok : Sound p) (e : ℕ) → picked p e ≡ true → (grown p).label (p.first e) ≡ (grown p).label (p.second e)
unfolding picked
grown_ends p ok e h = (partition p ok (grown_reached p)).ends e h

module _ (p : Problem) (ok : Sound p) (some : 0 < p.vertices) (joinable : Joins p (all_usable p)) where
  -- At the end no component is active.
  pub grown_resting : (c : ℕ) → active p (grown p).label c ≡ false
  grown_resting c =
      not_true_false (active p (grown p).label c) (λ a. active_not_still p joinable (grown p) c a (grown_still p ok some))

  -- The picked edges join every required pair.
  pub picked_joins : Joins p (picked p)
  unfolding picked
  picked_joins u v bu bv r = (partition p ok (grown_reached p)).sound u v bu bv (resting_joined p (grown p).label grown_resting u v bu bv r)

  pub picked_edges : EdgeSet p (picked p)
  unfolding picked
  picked_edges = picked_usable p (grown_reached p)

  pub picked_acyclic : Forest p.first p.second (picked p)
  unfolding picked
  picked_acyclic = picked_forest p ok (grown_reached p)

  -- The others join without an edge that is not kept.
  spare : (e : ℕ) → picked p e ≡ true → not (joined p (without (picked p) e)) ≡ false → Joins p (without (picked p) e)
  spare e f n = joined_elim p (without (picked p) e) (not-false (joined p (without (picked p) e)) n)

  -- The kept edges still join every required pair.
  pub kept_joins : Joins p (kept p)
  unfolding kept needed
  kept_joins u v bu bv r =
      needed_joins p.first p.second (picked p) (λ e. not (joined p (without (picked p) e))) p.edges
      (λ u v. (u < p.vertices) × (v < p.vertices) × (p.required u v ≡ true)) (λ e f. (picked_edges e f).0) picked_acyclic
      (λ u v k. picked_joins u v k.0 k.1 k.2) (λ e f n u v k. spare e f n u v k.0 k.1 k.2) u v (bu, bv, r)

  -- A kept edge is one without which the picked ones fail.
  pub kept_picked : (e : ℕ) → kept p e ≡ true → picked p e ≡ true
  unfolding kept
  kept_picked e k = ((needed_iff p (picked p) (λ f h. (picked_edges f h).0) e).0 k).0

  kept_fails : (e : ℕ) → kept p e ≡ true → Joins p (without (picked p) e) → ⊥
  unfolding kept
  kept_fails e k = ((needed_iff p (picked p) (λ f h. (picked_edges f h).0) e).0 k).1

  pub kept_edges : EdgeSet p (kept p)
  kept_edges e k = picked_edges e (kept_picked e k)

  -- Without a kept edge the others do not join.
  pub kept_spares_none : (e : ℕ) → kept p e ≡ true → Joins p (without (kept p) e) → ⊥
  kept_spares_none e k joins = kept_fails e k (λ u v bu bv r. linked_mono (without_mono e kept_picked) (joins u v bu bv r))

  -- ---- kept edges at a cut

  -- Source 001, Lemma 22.7: a cut that separates no required pair is not crossed by exactly one kept edge.
  pub no_inactive_leaf : (S : ℕ → Bool) → separates p S ≡ false → (e : ℕ) → kept p e ≡ true → crosses p.first p.second S e ≡ true →
      ((f : ℕ) → kept p f ≡ true → crosses p.first p.second S f ≡ true → f ≡ e) → ⊥
  no_inactive_leaf S rest e k x alone =
      kept_spares_none e k (unseparated_joins p ok (kept p) kept_joins e S x (λ f kf xf. alone f kf xf) rest)
