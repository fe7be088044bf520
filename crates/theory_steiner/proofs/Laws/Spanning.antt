-- Where any two vertices are required to be linked (document 02, No. 14: all junctions in one group) every component
-- is active in every round, so all vertices have one load, and a winner is the first edge between components by
-- weight, then number. An edge is picked exactly if those before it do not link its ends, and none is dropped.
use Rattle.std.specs.Prelude.{ℕ, ◌+◌, ◌≤◌, ◌<◌, ◌≡◌, ◌⊎◌, ◌↔◌, Bool, ◌&&◌, ltb}
use Rattle.std.proofs.Common.{arith, sym, ◌∙◌}
use Rattle.std.proofs.Math.Decide.{ℕ_discrete}
use Rattle.std.proofs.Math.Path.{refl, subst}
use Rattle.std.proofs.Math.Logic.{inl, inr, ⊎_elim}
use Rattle.std.proofs.Math.Bool.{true, false}
use Rattle.std.proofs.Math.Dec.{eqb}
use borrow.Author.Tests.{eq-eqb, ne_eqb, lt-ltb}
use Rattle.base_finite.specs.Laws.Test.{and_left, and_right, and_both, true_not_false, same_test_law}
use Rattle.base_finite.specs.Laws.Below.{counted_true, lt_or_ge}
use Rattle.theory_graph.specs.Path.{Linked}
use Rattle.theory_graph.proofs.Laws.Linked.{linked_mono}
use Rattle.theory_graph.proofs.Laws.Component.{linked_same_label}
use Rattle.theory_steiner.specs.Problem.{Problem, Sound, Joins, all_usable}
use Rattle.theory_steiner.specs.Growth.{State, start, active, load, slack, Delay, never, after, delay, edge, winner, pick, grown, Reached, first, next}
use Rattle.theory_steiner.specs.Pruning.{picked, kept}
use Rattle.theory_steiner.proofs.Laws.Joined.{separates_intro, needed_iff}
use Rattle.theory_steiner.proofs.Laws.Round.{pick_more, pick_new, pick_only}
use Rattle.theory_steiner.proofs.Laws.Winner.{Waits, one_first, one_second, both, Candidate, delay_elim, delay_never, Wins, winner_wins}
use Rattle.theory_steiner.proofs.Laws.Partition.{winner_candidate, winner_below_law, partition, picked_usable}
use Rattle.theory_steiner.proofs.Laws.Weighed.{load_pick}
use Rattle.theory_steiner.proofs.Laws.Feasible.{load_start, apart_before, loads_fit}
use Rattle.theory_steiner.proofs.Laws.Rounds.{grown_reached}
use Rattle.theory_steiner.proofs.Laws.Finish.{grown_resting, resting_joined, picked_acyclic, kept_picked, all_usable_edges}
use Rattle.theory_steiner.specs.Spanning.{RequiresAll, comes_before}
use Rattle.theory_steiner.proofs.Laws.Order.{Before, before_intro, before_not_both, before_not_itself}

-- The usable edges that come before e.
unfoldable pub before : Problem → ℕ → ℕ → Bool
before p e f = all_usable p f && comes_before p f e

pub before_edge : (p : Problem) (e f : ℕ) → before p e f ≡ true → (f < p.edges) × (p.usable f ≡ true)
unfolding before
before_edge p e f h = all_usable_edges p f (and_left (all_usable p f) (comes_before p f e) h)

pub before_order : (p : Problem) (e f : ℕ) → before p e f ≡ true → comes_before p f e ≡ true
unfolding before
before_order p e f h = and_right (all_usable p f) (comes_before p f e) h

pub before_makes : (p : Problem) (e f : ℕ) → f < p.edges → p.usable f ≡ true → comes_before p f e ≡ true → before p e f ≡ true
unfolding before all_usable
before_makes p e f b u h = and_both (all_usable p f) (comes_before p f e) (and_both (ltb f p.edges) (p.usable f) (lt-ltb f p.edges b) u) h

module _ (p : Problem) (ok : Sound p) (all : RequiresAll p) where
  active_apart : (s : State) (v w : ℕ) → v < p.vertices → w < p.vertices → (s.label v ≡ s.label w → ⊥) → active p s.label (s.label v) ≡ true
  unfolding active
  active_apart s v w bv bw apart =
      separates_intro p (λ x. eqb (s.label x) (s.label v))
      (record {
        u = v;
        v = w;
        u_below = bv;
        v_below = bw;
        required = all v w bv bw;
        inside = eq-eqb (s.label v) (s.label v) refl;
        outside = ne_eqb (s.label w) (s.label v) (λ k. apart (sym k));
      })

  -- In a round with a winner every component is active.
  pub all_active : (s : State) (e d : ℕ) → winner p s ≡ edge e d → (v : ℕ) → v < p.vertices → active p s.label (s.label v) ≡ true
  all_active s e d w v bv = by (ℕ_discrete (s.label v) (s.label (p.first e)))
    where
      b : e < p.edges
      b = winner_below_law p s e d w

      by : Dec (s.label v ≡ s.label (p.first e)) → active p s.label (s.label v) ≡ true
      by (yes same) = active_apart s v (p.second e) bv (ok.second_below e b) (λ k. (winner_candidate p s e d w).apart (sym same ∙ k))
      by (no other) = active_apart s v (p.first e) bv (ok.first_below_law e b) other

  -- So all vertices have one load.
  pub load_even : {s : State} → Reached p s → (u v : ℕ) → u < p.vertices → v < p.vertices → load p s u ≡ load p s v
  load_even first u v bu bv = load_start p u ∙ sym (load_start p v)
  load_even (next {s = s} {e = e} {d = d} h w) u v bu bv =
      omega (
        arith,
        load_even h u v bu bv,
        load_pick p ok h e d u bu,
        load_pick p ok h e d v bv,
        counted_true (all_active s e d w u bu) d,
        counted_true (all_active s e d w v bv) d,
      )

  -- The delay of an edge between components is its weight less that load.
  pub delay_is : {s : State} → Reached p s → (f : ℕ) → f < p.edges → p.usable f ≡ true → (s.label (p.first f) ≡ s.label (p.second f) → ⊥) →
      (c : ℕ) × ((delay p s f ≡ after c) × (c + load p s (p.first f) ≡ p.weight f))
  unfolding slack
  delay_is {s} h f b u apart = by (delay p s f) refl
    where
      x : active p s.label (s.label (p.first f)) ≡ true
      x = active_apart s (p.first f) (p.second f) (ok.first_below_law f b) (ok.second_below f b) apart

      y : active p s.label (s.label (p.second f)) ≡ true
      y = active_apart s (p.second f) (p.first f) (ok.second_below f b) (ok.first_below_law f b) (λ k. apart (sym k))

      half : (c : ℕ) → Waits (active p s.label (s.label (p.first f))) (active p s.label (s.label (p.second f))) (slack p s f) c →
          c + load p s (p.first f) ≡ p.weight f
      half c (one_first k l q) = true_not_false _ y l
      half c (one_second k l q) = true_not_false _ x k
      half c (both k l q) = omega (arith, q, loads_fit p ok h f b u apart, load_even h (p.first f) (p.second f) (ok.first_below_law f b) (ok.second_below f b))

      by : (t : Delay) → delay p s f ≡ t → (c : ℕ) × ((delay p s f ≡ after c) × (c + load p s (p.first f) ≡ p.weight f))
      by never k = true_not_false _ x (delay_never p s f k u apart).0
      by (after c) k = (c, (k, half c (delay_elim p s f c k).waits))

  pub after_load : {s : State} → Reached p s → (f c : ℕ) → f < p.edges → delay p s f ≡ after c → c + load p s (p.first f) ≡ p.weight f
  after_load {s} h f c b k =
      let ca : Candidate p s f c = delay_elim p s f c k in
      let its = delay_is h f b ca.usable ca.apart in
      let same : its.0 ≡ c = after_same its.0 c (sym its.1.0 ∙ k) in
      omega (arith, same, its.1.1)
    where
      after_same : (c d : ℕ) → after c ≡ after d → c ≡ d
      after_same c d h = cc

  -- The winner comes before every other edge between components.
  wins : {s : State} → Reached p s → (e d : ℕ) → winner p s ≡ edge e d → (f : ℕ) → f < p.edges → p.usable f ≡ true →
      (s.label (p.first f) ≡ s.label (p.second f) → ⊥) → (f ≡ e → ⊥) → before p f e ≡ true
  wins {s} h e d w f b u apart other =
      let W : Wins p s p.edges e d = winner_wins p s e d w in
      let its = delay_is h f b u apart in
      let mine = after_load h e d W.below W.delayed in
      let even = load_even h (p.first e) (p.first f) (ok.first_below_law e W.below) (ok.first_below_law f b) in
      let near : p.weight e ≤ p.weight f = omega (arith, mine, its.1.1, even, W.least f its.0 b its.1.0) in
      let low : f < e → p.weight e < p.weight f = λ l. omega (arith, mine, its.1.1, even, W.lowest f its.0 l its.1.0) in
      before_makes p f e W.below (winner_candidate p s e d w).usable (before_intro p e f (by near low (lt_or_ge f e) (lt_or_ge (p.weight e) (p.weight f))))
    where
      by : p.weight e ≤ p.weight f → (f < e → p.weight e < p.weight f) → (f < e) ⊎ (e ≤ f) → (p.weight e < p.weight f) ⊎ (p.weight f ≤ p.weight e) →
          Before p e f
      by near low (inl l) x = inl (low l)
      by near low (inr g) (inl l) = inl l
      by near low (inr g) (inr k) = inr (omega arith, omega (arith, other))

  -- What was picked comes before every edge that is still between components.
  earlier : {s : State} → Reached p s → (g : ℕ) → s.picked g ≡ true → (f : ℕ) → f < p.edges → p.usable f ≡ true →
      (s.label (p.first f) ≡ s.label (p.second f) → ⊥) → before p f g ≡ true
  unfolding start
  earlier first g k f b u apart = true_not_false false k refl
  earlier (next {s = s} {e = e} {d = d} h w) g k f b u apart =
      let was = apart_before p s e d (p.first f) (p.second f) apart in
      ⊎_elim
      (λ old. earlier h g old f b u was)
      (λ same.
      subst (λ x. before p f x ≡ true) (sym same)
      (wins h e d w f b u was (λ q. apart (subst (λ x. (pick p s e d).label (p.first x) ≡ (pick p s e d).label (p.second x)) (sym q) ((partition p ok (next h w)).ends e (pick_new p s e d))))))
      (pick_only p s e d g k)

  -- An edge inside a component is picked, or those before it link its ends.
  inside : {s : State} → Reached p s → (f : ℕ) → f < p.edges → p.usable f ≡ true → s.label (p.first f) ≡ s.label (p.second f) →
      (s.picked f ≡ true) ⊎ Linked p.first p.second (before p f) (p.first f) (p.second f)
  unfolding start
  inside first f b u same = absurd (ok.ends_differ f b same)
  inside (next {s = s} {e = e} {d = d} h w) f b u same = by (λ k. inside h f b u k) (ℕ_discrete (s.label (p.first f)) (s.label (p.second f))) (ℕ_discrete f e)
    where
      by : (s.label (p.first f) ≡ s.label (p.second f) → (s.picked f ≡ true) ⊎ Linked p.first p.second (before p f) (p.first f) (p.second f)) →
          Dec (s.label (p.first f) ≡ s.label (p.second f)) → Dec (f ≡ e) →
          ((pick p s e d).picked f ≡ true) ⊎ Linked p.first p.second (before p f) (p.first f) (p.second f)
      by ih (yes k) q = ⊎_elim (λ old. inl (pick_more p s e d f old)) inr (ih k)
      by ih (no apart) (yes q) = inl (subst (λ x. (pick p s e d).picked x ≡ true) (sym q) (pick_new p s e d))
      by ih (no apart) (no other) =
          inr
          (linked_mono
          (λ g k.
          ⊎_elim
          (λ old. earlier h g old f b u apart)
          (λ new. subst (λ x. before p f x ≡ true) (sym new) (wins h e d w f b u apart other))
          (pick_only p s e d g k))
          ((partition p ok (next h w)).sound (p.first f) (p.second f) (ok.first_below_law f b) (ok.second_below f b) same))

  -- The ends of a picked edge are not linked by those before it.
  unlinked : {s : State} → Reached p s → (f : ℕ) → s.picked f ≡ true → Linked p.first p.second (before p f) (p.first f) (p.second f) → ⊥
  unfolding start
  unlinked first f k l = true_not_false false k refl
  unlinked (next {s = s} {e = e} {d = d} h w) f k l =
      ⊎_elim (λ old. unlinked h f old l) (λ new. won (subst (λ x. Linked p.first p.second (before p x) (p.first x) (p.second x)) new l)) (pick_only p s e d f k)
    where
      level : (g : ℕ) → before p e g ≡ true → s.label (p.first g) ≡ s.label (p.second g)
      level g k = by (ℕ_discrete (s.label (p.first g)) (s.label (p.second g)))
        where
          by : Dec (s.label (p.first g) ≡ s.label (p.second g)) → s.label (p.first g) ≡ s.label (p.second g)
          by (yes q) = q
          by (no q) =
              let its = before_edge p e g k in
              let low : comes_before p g e ≡ true = before_order p e g k in
              absurd
              (before_not_both p g e low (before_order p g e (wins h e d w g its.0 its.1 q (λ same. before_not_itself p g e same low))))

      won : Linked p.first p.second (before p e) (p.first e) (p.second e) → ⊥
      won m = (winner_candidate p s e d w).apart (linked_same_label s.label level m)

module _ (p : Problem) (ok : Sound p) (some : 0 < p.vertices) (joinable : Joins p (all_usable p)) (all : RequiresAll p) where
  -- Picked are the edges whose ends those before do not link.
  pub picked_if_unlinked : (e : ℕ) → e < p.edges → p.usable e ≡ true →
      (picked p e ≡ true) ↔ (Linked p.first p.second (before p e) (p.first e) (p.second e) → ⊥)
  unfolding picked
  picked_if_unlinked e b u = (
    λ k l. unlinked p ok all (grown_reached p) e k l,
    λ apart.
        ⊎_elim
        (λ k. k)
        (λ l. absurd (apart l))
        (inside p ok all (grown_reached p) e b u
        (resting_joined p (grown p).label (grown_resting p ok some joinable) (p.first e) (p.second e) (ok.first_below_law e b) (ok.second_below e b)
        (all (p.first e) (p.second e) (ok.first_below_law e b) (ok.second_below e b)))),
  )

  picked_kept : (e : ℕ) → picked p e ≡ true → kept p e ≡ true
  unfolding kept picked
  picked_kept e k =
      let set = picked_usable p (grown_reached p) in
      let b = (set e k).0 in
      (needed_iff p (picked p) (λ f h. (set f h).0) e).1 (
        k,
        λ joins.
            picked_acyclic p ok some joinable e k
            (joins (p.first e) (p.second e) (ok.first_below_law e b) (ok.second_below e b)
            (all (p.first e) (p.second e) (ok.first_below_law e b) (ok.second_below e b))),
      )

  kept_at : (e : ℕ) → kept p e ≡ picked p e
  kept_at e = same_test_law (kept p e) (picked p e) (kept_picked p ok some joinable e) (picked_kept e)

  -- Nothing is dropped.
  pub kept_is_picked : kept p ≡ picked p
  kept_is_picked i e = kept_at e i
