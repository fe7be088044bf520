-- The degrees of active components (source 001, Lemma 22.8, with the finer count behind source 003's factor 2 - 2/k): in a round, the kept
-- edges at the active components number at most twice the active components less 2.
use Prim.Native.Nat.{ℕ, zero, suc, ◌+◌, ◌*◌, ◌-◌, ◌≤◌, ◌<◌}
use Rattle.std.specs.Prelude.{◌≡◌, ◌⊎◌, false, ◌&&◌, ◌||◌, not, eqb, ltb}
use Rattle.std.proofs.Math.Path.{refl, ap, sym, subst}
use Rattle.std.proofs.Common.{◌∙◌, inl, inr, add-zero, add-suc, add-sub_of_le}
use Rattle.std.proofs.Math.Logic.{⊎_elim}
use Rattle.std.proofs.Math.Bool.{Bool, true, xor, and-true, and-false}
use Rattle.std.proofs.Math.Nat.{le_of_eq}
use native.Mathlib.Omega.{arith}
use Rattle.std.proofs.Math.Decide.{ℕ_discrete}
use borrow.Author.Tests.{eqb-true, eq-eqb, ne_eqb, lt-ltb, ltb-true, not-true}
use Rattle.base_finite.specs.Below.{counted, sum_below, count_below}
use Rattle.base_finite.specs.Laws.Test.{either, same_test_law, and_left, and_right, and_both, or_left, or_right, not_true_false, true_not_false}
use Rattle.base_finite.specs.Laws.Below.{sum_le, sum_cong, sum_add, sum_zero, sum_swap, sum_at, sum_scale, sum_only, counted_true, counted_false, counted_le, counted_mono, counted_or_le, count_positive, count_elim, count_two, count_none, Found, lt_or_ge}
use Rattle.theory_graph.specs.Path.{crosses}
use Rattle.theory_graph.proofs.Laws.Linked.{crosses_not, linked_mono, without_intro}
use Rattle.theory_graph.proofs.Laws.Component.{merged_cong}
use Rattle.theory_steiner.specs.Problem.{Problem, Sound, Joins, all_usable}
use Rattle.theory_steiner.specs.Growth.{State, active, numbers, slack, Winner, nobody, edge, winner, pick, state_at, grown, Reached, next}
use Rattle.theory_steiner.specs.Pruning.{picked, kept}
use Rattle.theory_steiner.specs.Rounds.{active_count}
use Rattle.theory_steiner.proofs.Laws.Round.{state_at_reached, pick_label, pick_more, pick_new, pick_only}
use Rattle.theory_steiner.proofs.Laws.Winner.{Waits, one_first, one_second, both}
use Rattle.theory_steiner.proofs.Laws.Partition.{label_below_law, winner_candidate, winner_below_law, partition}
use Rattle.theory_steiner.proofs.Laws.Weighed.{component, two_ends}
use Rattle.theory_steiner.proofs.Laws.Rounds.{meets, Met, meets_intro, meets_elim, meets_count, state_at_pick, state_at_still, grown_reached}
use Rattle.theory_steiner.proofs.Laws.Finish.{kept_edges, kept_picked, picked_acyclic, grown_ends, no_inactive_leaf}

-- deg_F of component c: the edges of F with exactly one end in it.
unfoldable pub degree : Problem → (ℕ → Bool) → (ℕ → ℕ) → ℕ → ℕ
degree p F label c = count_below p.edges (λ e. F e && crosses p.first p.second (component label c) e)

-- The edges of F between components.
unfoldable pub between : Problem → (ℕ → Bool) → (ℕ → ℕ) → ℕ → Bool
between p F label e = F e && not (eqb (label (p.first e)) (label (p.second e)))

-- ---- the degrees of all components count each edge between components twice

module _ (p : Problem) (ok : Sound p) {s : State} (h : Reached p s) (F : ℕ → Bool) where
  edge_degrees : (e : ℕ) → e < p.edges →
      sum_below (numbers p s) (λ c. counted (F e && crosses p.first p.second (component s.label c) e) 1) ≡ 2 * counted (between p F s.label e) 1
  unfolding between crosses
  edge_degrees e b = by (either (F e)) (ℕ_discrete x y)
    where
      x : ℕ
      x = s.label (p.first e)

      y : ℕ
      y = s.label (p.second e)

      one_at : (z : ℕ) → z < numbers p s → sum_below (numbers p s) (λ c. counted (true && eqb z c) 1) ≡ 1
      one_at z bz =
          sum_only (numbers p s) (λ c. counted (true && eqb z c) 1) z bz (λ c bc other. counted_false (ne_eqb z c (λ k. other (sym k))) 1)
          ∙ counted_true (eq-eqb z z refl) 1

      by : (F e ≡ true) ⊎ (F e ≡ false) → Dec (x ≡ y) →
          sum_below (numbers p s) (λ c. counted (F e && xor (eqb x c) (eqb y c)) 1) ≡ 2 * counted (F e && not (eqb x y)) 1
      by (inr f) d = rw f (omega (arith, sum_zero (numbers p s) (λ c. counted false 1) (λ c b. counted_false refl 1), counted_false {t = false} refl 1))
      by (inl f) (yes same) =
          rw (f, eq-eqb x y same)
          (omega (
            arith,
            counted_false {t = false} refl 1,
            sum_zero (numbers p s) (λ c. counted (xor (eqb x c) (eqb y c)) 1)
                (λ c b. counted_false (crosses_not p.first p.second (component s.label c) e (ap (λ z. eqb z c) same)) 1),
          ))
      by (inl f) (no apart) =
          rw (f, ne_eqb x y apart)
          (omega (
            arith,
            counted_true {t = true} refl 1,
            sum_cong (numbers p s) (λ c. counted (xor (eqb x c) (eqb y c)) 1) (λ c. counted (true && eqb x c) 1 + counted (true && eqb y c) 1)
                (λ c b. two_ends true x y c 1 apart),
            sum_add (numbers p s) (λ c. counted (true && eqb x c) 1) (λ c. counted (true && eqb y c) 1),
            one_at x (label_below_law p h (p.first e) (ok.first_below_law e b)),
            one_at y (label_below_law p h (p.second e) (ok.second_below e b)),
          ))

  pub degree_sum : sum_below (numbers p s) (degree p F s.label) ≡ 2 * count_below p.edges (between p F s.label)
  unfolding degree count_below
  degree_sum =
      sum_swap (numbers p s) p.edges (λ c e. counted (F e && crosses p.first p.second (component s.label c) e) 1)
      ∙ sum_cong p.edges _ (λ e. 2 * counted (between p F s.label e) 1) edge_degrees
      ∙ sum_scale p.edges 2 (λ e. counted (between p F s.label e) 1)

-- ---- from one round to a later one

picked_step : (p : Problem) (r f : ℕ) (x : Winner) → winner p (state_at p r) ≡ x → (state_at p r).picked f ≡ true → (state_at p (suc r)).picked f ≡ true
picked_step p r f nobody k h = ap (λ s. s.picked f) (state_at_still p r k) ∙ h
picked_step p r f (edge e d) k h = ap (λ s. s.picked f) (state_at_pick p r e d k) ∙ pick_more p (state_at p r) e d f h

-- What is picked stays picked.
pub picked_later : (p : Problem) (r i f : ℕ) → (state_at p r).picked f ≡ true → (state_at p (r + i)).picked f ≡ true
picked_later p r zero f h = ap (λ k. (state_at p k).picked f) (add-zero r) ∙ h
picked_later p r (suc i) f h =
    ap (λ k. (state_at p k).picked f) (add-suc r i) ∙ picked_step p (r + i) f (winner p (state_at p (r + i))) refl (picked_later p r i f h)

label_step : (p : Problem) (r u v : ℕ) (x : Winner) → winner p (state_at p r) ≡ x → (state_at p r).label u ≡ (state_at p r).label v →
    (state_at p (suc r)).label u ≡ (state_at p (suc r)).label v
label_step p r u v nobody k h = ap (λ s. s.label u) (state_at_still p r k) ∙ h ∙ ap (λ s. s.label v) (sym (state_at_still p r k))
label_step p r u v (edge e d) k h =
    let s : State = state_at p r in
    ap (λ s. s.label u) (state_at_pick p r e d k) ∙ pick_label p s e d u
    ∙ merged_cong (s.label (p.first e)) (s.label (p.second e)) (numbers p s) s.label u v h
    ∙ sym (pick_label p s e d v) ∙ ap (λ s. s.label v) (sym (state_at_pick p r e d k))

-- What is in one component stays in one.
pub label_later : (p : Problem) (r i u v : ℕ) → (state_at p r).label u ≡ (state_at p r).label v → (state_at p (r + i)).label u ≡ (state_at p (r + i)).label v
label_later p r zero u v h = ap (λ k. (state_at p k).label u) (add-zero r) ∙ h ∙ ap (λ k. (state_at p k).label v) (sym (add-zero r))
label_later p r (suc i) u v h =
    ap (λ k. (state_at p k).label u) (add-suc r i) ∙ label_step p (r + i) u v (winner p (state_at p (r + i))) refl (label_later p r i u v h)
    ∙ ap (λ k. (state_at p k).label v) (sym (add-suc r i))

-- ---- the degree bound of one round

module _ (p : Problem) (ok : Sound p) (some : 0 < p.vertices) (joinable : Joins p (all_usable p)) (label : ℕ → ℕ) where
  -- A component of that round is live if it is active or has a kept edge; a vertex, if its component is.
  live : ℕ → Bool
  live c = active p label c || ltb 0 (degree p (kept p) label c)

  -- components of a later state with a live vertex
  held : State → ℕ
  held s = count_below (numbers p s) (meets p (λ v. live (label v)) s.label)

  -- kept edges between components of that round that a later state has inside one
  closed : State → ℕ → Bool
  closed s e = between p (kept p) label e && eqb (s.label (p.first e)) (s.label (p.second e))

  degree_positive : (e c : ℕ) → e < p.edges → kept p e ≡ true → crosses p.first p.second (component label c) e ≡ true → live c ≡ true
  unfolding live degree
  degree_positive e c b k x =
      or_right (active p label c) (ltb 0 (degree p (kept p) label c))
      (lt-ltb 0 (degree p (kept p) label c)
      (count_positive p.edges (λ e. kept p e && crosses p.first p.second (component label c) e) e b
      (and_both (kept p e) (crosses p.first p.second (component label c) e) k x)))

  -- both ends of a kept edge between components are live
  first_live : (e : ℕ) → e < p.edges → kept p e ≡ true → (label (p.first e) ≡ label (p.second e) → ⊥) → live (label (p.first e)) ≡ true
  unfolding crosses xor
  first_live e b k apart =
      degree_positive e (label (p.first e)) b k
      (rw (
        eq-eqb (label (p.first e)) (label (p.first e)) refl,
        ne_eqb (label (p.second e)) (label (p.first e)) (λ same. apart (sym same)),
      ))

  second_live : (e : ℕ) → e < p.edges → kept p e ≡ true → (label (p.first e) ≡ label (p.second e) → ⊥) → live (label (p.second e)) ≡ true
  unfolding crosses xor
  second_live e b k apart =
      degree_positive e (label (p.second e)) b k
      (rw
      (eq-eqb (label (p.second e)) (label (p.second e)) refl, ne_eqb (label (p.first e)) (label (p.second e)) apart))

  -- One pick of a later round.
  module _ {s : State} (h : Reached p s) (mono : (u v : ℕ) → label u ≡ label v → s.label u ≡ s.label v) (e d : ℕ) (w : winner p s ≡ edge e d)
      (later : (f : ℕ) → (pick p s e d).picked f ≡ true → picked p f ≡ true) where
    b : e < p.edges
    b = winner_below_law p s e d w

    apart : s.label (p.first e) ≡ s.label (p.second e) → ⊥
    apart = (winner_candidate p s e d w).apart

    -- a kept edge other than the winner is not closed by it
    not_closed : (f : ℕ) → f < p.edges → (f ≡ e → ⊥) → kept p f ≡ true →
        (pick p s e d).label (p.first f) ≡ (pick p s e d).label (p.second f) → s.label (p.first f) ≡ s.label (p.second f)
    not_closed f bf other k same = by (ℕ_discrete (s.label (p.first f)) (s.label (p.second f)))
      where
        unpicked : (s.label (p.first f) ≡ s.label (p.second f) → ⊥) → (g : ℕ) → (pick p s e d).picked g ≡ true → g ≡ f → ⊥
        unpicked differ g pg gf =
            ⊎_elim
            (λ old. differ ((partition p ok h).ends f (subst (λ x. s.picked x ≡ true) gf old)))
            (λ new. other (sym gf ∙ new))
            (pick_only p s e d g pg)

        by : Dec (s.label (p.first f) ≡ s.label (p.second f)) → s.label (p.first f) ≡ s.label (p.second f)
        by (yes q) = q
        by (no differ) =
            absurd
            (picked_acyclic p ok some joinable f (kept_picked p ok some joinable f k)
            (linked_mono (λ g pg. without_intro (picked p) f g (later g pg) (unpicked differ g pg))
            ((partition p ok (next h w)).sound (p.first f) (p.second f) (ok.first_below_law f bf) (ok.second_below f bf) same)))

    closed_others : (f : ℕ) → f < p.edges → (f ≡ e → ⊥) → closed (pick p s e d) f ≡ closed s f
    unfolding closed between
    closed_others f bf other =
        same_test_law (closed (pick p s e d) f) (closed s f)
        (λ k.
        let t : between p (kept p) label f ≡ true = and_left (between p (kept p) label f) _ k in
        let q : (pick p s e d).label (p.first f) ≡ (pick p s e d).label (p.second f) = eqb-true _ _ (and_right (between p (kept p) label f) _ k) in
        and_both (between p (kept p) label f) (eqb (s.label (p.first f)) (s.label (p.second f))) t
        (eq-eqb (s.label (p.first f)) (s.label (p.second f)) (not_closed f bf other (and_left (kept p f) _ t) q)))
        (λ k.
        and_both (between p (kept p) label f) (eqb ((pick p s e d).label (p.first f)) ((pick p s e d).label (p.second f)))
        (and_left (between p (kept p) label f) _ k)
        (eq-eqb ((pick p s e d).label (p.first f)) ((pick p s e d).label (p.second f))
        (pick_label p s e d (p.first f)
        ∙ merged_cong (s.label (p.first e)) (s.label (p.second e)) (numbers p s) s.label (p.first f) (p.second f)
        (eqb-true (s.label (p.first f)) (s.label (p.second f)) (and_right (between p (kept p) label f) _ k))
        ∙ sym (pick_label p s e d (p.second f)))))

    closed_before : closed s e ≡ false
    unfolding closed
    closed_before = rw (ne_eqb (s.label (p.first e)) (s.label (p.second e)) apart) (and-false (between p (kept p) label e))

    apart_then : label (p.first e) ≡ label (p.second e) → ⊥
    apart_then k = apart (mono (p.first e) (p.second e) k)

    closed_after : closed (pick p s e d) e ≡ kept p e
    unfolding closed between
    closed_after =
        rw (ne_eqb (label (p.first e)) (label (p.second e)) apart_then, eq-eqb ((pick p s e d).label (p.first e)) ((pick p s e d).label (p.second e)) together)
        (and-true (kept p e && true) ∙ and-true (kept p e))
      where
        together : (pick p s e d).label (p.first e) ≡ (pick p s e d).label (p.second e)
        together = (partition p ok (next h w)).ends e (pick_new p s e d)

    closed_count : count_below p.edges (closed (pick p s e d)) ≡ count_below p.edges (closed s) + counted (kept p e) 1
    unfolding count_below
    closed_count =
        omega (
          arith,
          sum_at p.edges (λ f. counted (closed (pick p s e d) f) 1) (λ f. counted (closed s f) 1) e b
              (λ f bf other. ap (λ t. counted t 1) (closed_others f bf other)),
          counted_false closed_before 1,
          ap (λ t. counted t 1) closed_after,
        )

    -- A kept pick closes one edge and merges two live components; another pick closes none.
    closed_and_held : count_below p.edges (closed (pick p s e d)) + held (pick p s e d) ≤ count_below p.edges (closed s) + held s
    unfolding held
    closed_and_held = by (either (kept p e))
      where
        X : ℕ → Bool
        X v = live (label v)

        bx : Bool
        bx = meets p X s.label (s.label (p.first e))

        by : (kept p e ≡ true) ⊎ (kept p e ≡ false) →
            count_below p.edges (closed (pick p s e d)) + count_below (numbers p (pick p s e d)) (meets p (λ v. live (label v)) (pick p s e d).label)
            ≤ count_below p.edges (closed s) + count_below (numbers p s) (meets p (λ v. live (label v)) s.label)
        by (inl k) =
            omega (
              arith,
              closed_count,
              counted_true k 1,
              meets_count p h e d w ok X,
              counted_true (meets_intro p X s.label (p.first e) (ok.first_below_law e b) (first_live e b k apart_then)) 1,
              counted_true (meets_intro p X s.label (p.second e) (ok.second_below e b) (second_live e b k apart_then)) 1,
              counted_le (meets p X s.label (s.label (p.first e)) || meets p X s.label (s.label (p.second e))) 1,
            )
        by (inr k) =
            omega (
              arith,
              closed_count,
              counted_false k 1,
              meets_count p h e d w ok X,
              counted_or_le (meets p X s.label (s.label (p.first e))) (meets p X s.label (s.label (p.second e))) 1,
            )

module _ (p : Problem) (ok : Sound p) (some : 0 < p.vertices) (joinable : Joins p (all_usable p)) (r : ℕ) (in_time : r ≤ p.vertices) where
  -- what a round leaves of the two counts
  measure : State → ℕ
  measure s = count_below p.edges (closed p ok some joinable (state_at p r).label s) + held p ok some joinable (state_at p r).label s

  picked_at_end : (t f : ℕ) → t ≤ p.vertices → (state_at p t).picked f ≡ true → picked p f ≡ true
  unfolding picked grown
  picked_at_end t f b h = ap (λ k. (state_at p k).picked f) (sym (add-sub_of_le b)) ∙ picked_later p t (p.vertices - t) f h

  measure_step : (i : ℕ) → suc (r + i) ≤ p.vertices → (x : Winner) → winner p (state_at p (r + i)) ≡ x →
      measure (state_at p (suc (r + i))) ≤ measure (state_at p (r + i))
  unfolding measure
  measure_step i b nobody k = le_of_eq (ap measure (state_at_still p (r + i) k))
  measure_step i b (edge e d) k =
      subst (λ s. measure s ≤ measure (state_at p (r + i))) (sym (state_at_pick p (r + i) e d k))
      (closed_and_held p ok some joinable (state_at p r).label (state_at_reached p (r + i)) (label_later p r i) e d k
      (λ f h. picked_at_end (suc (r + i)) f b (ap (λ s. s.picked f) (state_at_pick p (r + i) e d k) ∙ h)))

  measure_later : (i : ℕ) → r + i ≤ p.vertices → measure (state_at p (r + i)) ≤ measure (state_at p r)
  measure_later zero b = le_of_eq (ap (λ k. measure (state_at p k)) (add-zero r))
  measure_later (suc i) b =
      omega
      (arith, ap (λ k. measure (state_at p k)) (add-suc r i), measure_step i (omega arith) (winner p (state_at p (r + i))) refl, measure_later i (omega arith))

  measure_end : measure (grown p) ≤ measure (state_at p r)
  unfolding grown
  measure_end = subst (λ k. measure (state_at p k) ≤ measure (state_at p r)) (add-sub_of_le in_time) (measure_later (p.vertices - r) (le_of_eq (add-sub_of_le in_time)))

  -- at the round itself nothing is closed yet, and what is held is live
  measure_start : measure (state_at p r) ≤ count_below (numbers p (state_at p r)) (live p ok some joinable (state_at p r).label)
  unfolding measure held count_below closed between
  measure_start =
      omega (
        arith,
        count_none p.edges (closed p ok some joinable (state_at p r).label (state_at p r)) none_closed,
        sum_le (numbers p (state_at p r)) _ (λ c. counted (live p ok some joinable (state_at p r).label c) 1)
            (λ c b. counted_mono (meets p X (state_at p r).label c) (live p ok some joinable (state_at p r).label c) 1 (met_live c)),
      )
    where
      X : ℕ → Bool
      X v = live p ok some joinable (state_at p r).label ((state_at p r).label v)

      none_closed : (e : ℕ) → e < p.edges → closed p ok some joinable (state_at p r).label (state_at p r) e ≡ false
      none_closed e b =
          let x : ℕ = (state_at p r).label (p.first e) in
          let y : ℕ = (state_at p r).label (p.second e) in
          not_true_false (kept p e && not (eqb x y) && eqb x y)
          (λ k.
          true_not_false (eqb x y) (and_right (kept p e && not (eqb x y)) (eqb x y) k)
          (not-true (eqb x y) (and_right (kept p e) (not (eqb x y)) (and_left (kept p e && not (eqb x y)) (eqb x y) k))))

      met_live : (c : ℕ) → meets p X (state_at p r).label c ≡ true → live p ok some joinable (state_at p r).label c ≡ true
      met_live c h =
          let m : Met p X (state_at p r).label c = meets_elim p X (state_at p r).label c h in
          subst (λ k. live p ok some joinable (state_at p r).label k ≡ true) m.labelled m.member

  -- at the end every kept edge is closed
  all_closed : count_below p.edges (between p (kept p) (state_at p r).label) ≤ count_below p.edges (closed p ok some joinable (state_at p r).label (grown p))
  unfolding closed between count_below
  all_closed =
      sum_le p.edges _ _
      (λ e b.
      counted_mono (between p (kept p) (state_at p r).label e) (closed p ok some joinable (state_at p r).label (grown p) e) 1
      (λ k.
      and_both (between p (kept p) (state_at p r).label e) (eqb ((grown p).label (p.first e)) ((grown p).label (p.second e))) k
      (eq-eqb ((grown p).label (p.first e)) ((grown p).label (p.second e)) (same e (and_left (kept p e) _ k)))))
    where
      same : (e : ℕ) → kept p e ≡ true → (grown p).label (p.first e) ≡ (grown p).label (p.second e)
      same e k = grown_ends p ok e (kept_picked p ok some joinable e k)

  -- a vertex of an active component is in some component at the end
  held_end : (v : ℕ) → v < p.vertices → active p (state_at p r).label ((state_at p r).label v) ≡ true → 1 ≤ held p ok some joinable (state_at p r).label (grown p)
  unfolding held live
  held_end v b a =
      count_positive (numbers p (grown p)) (meets p (λ v. live p ok some joinable (state_at p r).label ((state_at p r).label v)) (grown p).label) ((grown p).label v)
      (label_below_law p (grown_reached p) v b)
      (meets_intro p (λ v. live p ok some joinable (state_at p r).label ((state_at p r).label v)) (grown p).label v b
      (or_left (active p (state_at p r).label ((state_at p r).label v)) _ a))

  -- the kept edges between components are fewer than the live components
  kept_lt_live : (e d : ℕ) → winner p (state_at p r) ≡ edge e d →
      count_below p.edges (between p (kept p) (state_at p r).label) + 1 ≤ count_below (numbers p (state_at p r)) (live p ok some joinable (state_at p r).label)
  unfolding measure
  kept_lt_live e d w = omega (arith, all_closed, measure_end, measure_start, by (winner_candidate p (state_at p r) e d w).waits)
    where
      s : State
      s = state_at p r

      be : e < p.edges
      be = winner_below_law p (state_at p r) e d w

      by : Waits (active p s.label (s.label (p.first e))) (active p s.label (s.label (p.second e))) (slack p s e) d →
          1 ≤ held p ok some joinable (state_at p r).label (grown p)
      by (one_first x y k) = held_end (p.first e) (ok.first_below_law e be) x
      by (both x y k) = held_end (p.first e) (ok.first_below_law e be) x
      by (one_second x y k) = held_end (p.second e) (ok.second_below e be) y

-- ---- degrees of components that rest

module _ (p : Problem) (ok : Sound p) (some : 0 < p.vertices) (joinable : Joins p (all_usable p)) (label : ℕ → ℕ) where
  -- A component that rests has no kept edge, or two.
  pub resting_degree : (c : ℕ) → active p label c ≡ false → 0 < degree p (kept p) label c → 2 ≤ degree p (kept p) label c
  unfolding degree active
  resting_degree c rest pos =
      let S : ℕ → Bool = component label c in
      let t : ℕ → Bool = λ e. kept p e && crosses p.first p.second S e in
      let f : Found p.edges t = count_elim p.edges t pos in
      let k : kept p f.at ≡ true = and_left (kept p f.at) (crosses p.first p.second S f.at) f.passes in
      let x : crosses p.first p.second S f.at ≡ true = and_right (kept p f.at) (crosses p.first p.second S f.at) f.passes in
      ⊎_elim
      (λ one.
      absurd
      (no_inactive_leaf p ok some joinable S rest f.at k x
      (λ g kg xg. alone f one g (kept_edges p ok some joinable g kg).0 (and_both (kept p g) (crosses p.first p.second S g) kg xg))))
      (λ two. two)
      (lt_or_ge (count_below p.edges t) 2)
    where
      alone : (f : Found p.edges (λ e. kept p e && crosses p.first p.second (component label c) e)) →
          count_below p.edges (λ e. kept p e && crosses p.first p.second (component label c) e) < 2 → (g : ℕ) → g < p.edges →
          (kept p g && crosses p.first p.second (component label c) g) ≡ true → g ≡ f.at
      alone f one g bg tg = by (ℕ_discrete g f.at)
        where
          by : Dec (g ≡ f.at) → g ≡ f.at
          by (yes same) = same
          by (no other) =
              absurd
              (omega (
                arith,
                count_two p.edges (λ e. kept p e && crosses p.first p.second (component label c) e) f.at g f.below bg other f.passes tg,
              ))

  live_degrees : (c : ℕ) →
      counted (active p label c) (degree p (kept p) label c) + 2 * counted (live p ok some joinable label c) 1
      ≤ degree p (kept p) label c + 2 * counted (active p label c) 1
  unfolding live
  live_degrees c = by (either (active p label c)) (either (ltb 0 (degree p (kept p) label c)))
    where
      D : ℕ
      D = degree p (kept p) label c

      by : (active p label c ≡ true) ⊎ (active p label c ≡ false) → (ltb 0 (degree p (kept p) label c) ≡ true) ⊎ (ltb 0 (degree p (kept p) label c) ≡ false) →
          counted (active p label c) (degree p (kept p) label c) + 2 * counted (active p label c || ltb 0 (degree p (kept p) label c)) 1
          ≤ degree p (kept p) label c + 2 * counted (active p label c) 1
      by (inl a) t = omega (arith, counted_true a D, counted_true a 1, counted_le (active p label c || ltb 0 (degree p (kept p) label c)) 1)
      by (inr a) (inl t) =
          omega (
            arith,
            counted_false a D,
            counted_false a 1,
            counted_le (active p label c || ltb 0 (degree p (kept p) label c)) 1,
            resting_degree c a (ltb-true 0 D t),
          )
      by (inr a) (inr t) = rw (a, t) (omega (arith, counted_false {t = false} refl D, counted_false {t = false} refl 1))

-- The kept edges at the active components.
unfoldable pub active_degree : Problem → State → ℕ
active_degree p s = sum_below (numbers p s) (λ c. counted (active p s.label c) (degree p (kept p) s.label c))

-- The degrees of the active components come to at most 2 A - 2.
pub degree_bound : (p : Problem) (ok : Sound p) → 0 < p.vertices → Joins p (all_usable p) → (r : ℕ) → r ≤ p.vertices → (e d : ℕ) →
    winner p (state_at p r) ≡ edge e d → active_degree p (state_at p r) + 2 ≤ 2 * active_count p (state_at p r)
unfolding active_degree active_count count_below
degree_bound p ok some joinable r in_time e d w =
    omega (
      arith,
      kept_lt_live p ok some joinable r in_time e d w,
      degree_sum p ok (state_at_reached p r) (kept p),
      sum_le N (λ c. counted (active p L c) (degree p (kept p) L c) + 2 * counted (live p ok some joinable L c) 1)
          (λ c. degree p (kept p) L c + 2 * counted (active p L c) 1) (λ c b. live_degrees p ok some joinable L c),
      sum_add N (λ c. counted (active p L c) (degree p (kept p) L c)) (λ c. 2 * counted (live p ok some joinable L c) 1),
      sum_add N (degree p (kept p) L) (λ c. 2 * counted (active p L c) 1),
      sum_scale N 2 (λ c. counted (live p ok some joinable L c) 1),
      sum_scale N 2 (λ c. counted (active p L c) 1),
    )
  where
    N : ℕ
    N = numbers p (state_at p r)

    L : ℕ → ℕ
    L = (state_at p r).label
