-- Where any two vertices are required to be linked (document 02, No. 14: all junctions in one group) no set of edges
-- that joins them costs less than the kept ones. A set F that joins is paid as growth goes on: an edge of F inside a
-- component has its weight, one between two components the load, which all vertices share. In each round F pays for at
-- least as many edges as there are picks to come, so it has never paid less than the picks cost.
use Prim.Native.Nat.{ℕ, suc, ◌+◌, ◌*◌, ◌-◌, ◌≤◌, ◌<◌}
use native.Mathlib.Omega.{arith}
use Rattle.std.proofs.Common.{mul-le-mul_left, sym, ◌∙◌, inl, inr, eq-eqb, ne_eqb, lt-ltb}
use Rattle.std.proofs.Math.Decide.{ℕ_discrete}
use Rattle.std.specs.Prelude.{◌≡◌, ◌⊎◌, Bool, true, ◌&&◌, ◌||◌, not, cond, eqb, ltb}
use Rattle.std.proofs.Math.Path.{refl, ap}
use Rattle.std.proofs.Math.Logic.{⊎_elim}
use Rattle.std.proofs.Math.Bool.{false}
use Rattle.base_finite.specs.Below.{counted, sum_below, count_below}
use Rattle.base_finite.specs.Laws.Test.{either, and_left, and_both, or_cases, or_left, or_right, not_true_false, same_test_law, not_of_false}
use Rattle.base_finite.specs.Laws.Below.{sum_le, sum_cong, sum_add, sum_scale, sum_only, sum_at, sum_zero, counted_true, counted_false, counted_mono, counted_or_le, counted_le}
use Rattle.theory_graph.specs.Path.{Linked}
use Rattle.theory_graph.proofs.Laws.Linked.{linked_mono, linked_over, linked_ends}
use Rattle.theory_graph.proofs.Laws.Component.{merged_cong}
use Rattle.theory_steiner.specs.Problem.{Problem, Sound, Bounded, EdgeSet, Joins, Cheapest, all_usable, cost}
use Rattle.theory_steiner.specs.Growth.{State, start, numbers, load, edge, winner, pick, grown, Reached, first, next}
use Rattle.theory_steiner.specs.Pruning.{picked, kept}
use Rattle.theory_steiner.specs.Spanning.{RequiresAll}
use Rattle.theory_steiner.proofs.Laws.Round.{pick_more, pick_new, pick_only, pick_label, pick_rounds}
use Rattle.theory_steiner.proofs.Laws.Winner.{winner_wins}
use Rattle.theory_steiner.proofs.Laws.Partition.{winner_candidate, winner_below_law, partition, picked_usable, label_below_law}
use Rattle.theory_steiner.proofs.Laws.Weighed.{load_pick}
use Rattle.theory_steiner.proofs.Laws.Feasible.{load_start}
use Rattle.theory_steiner.proofs.Laws.Rounds.{meets, Met, meets_elim, components_and_rounds, picked_count, grown_reached, rounds_lt}
use Rattle.theory_steiner.proofs.Laws.Finish.{grown_resting, resting_joined}
use Rattle.theory_steiner.proofs.Laws.Degree.{between}
use Rattle.theory_steiner.proofs.Laws.Spanning.{load_even, all_active, delay_is, after_load, kept_is_picked}

-- ---- a set that joins all has at least n - 1 edges: those that growth picks when it may use no others

using_only : Problem → (ℕ → Bool) → Problem
using_only p F =
    record {
      vertices = p.vertices;
      edges = p.edges;
      first = p.first;
      second = p.second;
      weight = p.weight;
      usable = F;
      required = p.required;
    }

pub spanning_count : (p : Problem) (ok : Sound p) → 0 < p.vertices → RequiresAll p → (F : ℕ → Bool) → Bounded p F → Joins p F →
    p.vertices ≤ count_below p.edges F + 1
unfolding count_below using_only all_usable
spanning_count p ok some all F set joins =
    omega (
      arith,
      components_and_rounds q okq (grown_reached q),
      picked_count q okq (grown_reached q),
      sum_le p.edges (λ e. counted ((grown q).picked e) 1) (λ e. counted (F e) 1)
          (λ e b. counted_mono ((grown q).picked e) (F e) 1 (λ k. (picked_usable q (grown_reached q) e k).1)),
      few,
    )
  where
    q : Problem
    q = using_only p F

    okq : Sound q
    okq = record { first_below_law = ok.first_below_law; second_below = ok.second_below; ends_differ = ok.ends_differ; symmetric = ok.symmetric }

    joinable : Joins q (all_usable q)
    joinable u v bu bv r = linked_mono (λ e k. and_both (ltb e p.edges) (F e) (lt-ltb e p.edges (set e k)) k) (joins u v bu bv r)

    one : (v : ℕ) → v < p.vertices → (grown q).label v ≡ (grown q).label 0
    one v b = resting_joined q (grown q).label (grown_resting q okq some joinable) v 0 b some (all v 0 b some)

    label : ℕ → ℕ
    label = (grown q).label

    no_other : (c : ℕ) → (c ≡ label 0 → ⊥) → meets q (λ v. true) label c ≡ true → ⊥
    no_other c other a = let m : Met q (λ v. true) label c = meets_elim q (λ v. true) label c a in other (sym m.labelled ∙ one m.vertex m.below)

    few : count_below (numbers q (grown q)) (meets q (λ v. true) (grown q).label) ≤ 1
    few =
        omega (
          arith,
          sum_only (numbers q (grown q)) (λ c. counted (meets q (λ v. true) label c) 1) (label 0) (label_below_law q (grown_reached q) 0 some)
              (λ c b other. counted_false (not_true_false (meets q (λ v. true) label c) (no_other c other)) 1),
          counted_le (meets q (λ v. true) label (label 0)) 1,
        )

module _ (p : Problem) (ok : Sound p) (some : 0 < p.vertices) (all : RequiresAll p) (F : ℕ → Bool) (set : EdgeSet p F) (joins : Joins p F) where
  -- Edges of F between components, and the picks, join all.
  mixed : State → ℕ → Bool
  mixed s e = between p F s.label e || s.picked e

  mixed_edge : {s : State} → Reached p s → (e : ℕ) → F e ≡ true → Linked p.first p.second (mixed s) (p.first e) (p.second e)
  unfolding mixed between
  mixed_edge {s} h e k = by (ℕ_discrete (s.label (p.first e)) (s.label (p.second e)))
    where
      b : e < p.edges
      b = (set e k).0

      by : Dec (s.label (p.first e) ≡ s.label (p.second e)) → Linked p.first p.second (mixed s) (p.first e) (p.second e)
      by (yes q) =
          linked_mono (λ f o. or_right (between p F s.label f) (s.picked f) o)
          ((partition p ok h).sound (p.first e) (p.second e) (ok.first_below_law e b) (ok.second_below e b) q)
      by (no q) =
          linked_ends e
          (or_left (between p F s.label e) (s.picked e)
          (and_both (F e) (not (eqb (s.label (p.first e)) (s.label (p.second e)))) k
          (not_of_false (eqb (s.label (p.first e)) (s.label (p.second e))) (ne_eqb (s.label (p.first e)) (s.label (p.second e)) q))))

  mixed_below : {s : State} → Reached p s → (e : ℕ) → mixed s e ≡ true → e < p.edges
  unfolding mixed between
  mixed_below {s} h e k =
      ⊎_elim (λ x. (set e (and_left (F e) (not (eqb (s.label (p.first e)) (s.label (p.second e)))) x)).0) (λ o. (picked_usable p h e o).0)
      (or_cases (between p F s.label e) (s.picked e) k)

  between_many : {s : State} → Reached p s → p.vertices ≤ count_below p.edges (between p F s.label) + s.rounds + 1
  unfolding count_below mixed
  between_many {s} h =
      omega (
        arith,
        spanning_count p ok some all (mixed s) (mixed_below h) (λ u v bu bv r. linked_over (mixed_edge h) (joins u v bu bv r)),
        picked_count p ok h,
        sum_le p.edges (λ e. counted (between p F s.label e || s.picked e) 1) (λ e. counted (between p F s.label e) 1 + counted (s.picked e) 1)
            (λ e b. counted_or_le (between p F s.label e) (s.picked e) 1),
        sum_add p.edges (λ e. counted (between p F s.label e) 1) (λ e. counted (s.picked e) 1),
      )

  -- What F has spent by now: the weights of its edges inside components, and the load for each edge between.
  term : State → ℕ → ℕ
  term s e = counted (F e) (cond (eqb (s.label (p.first e)) (s.label (p.second e))) (p.weight e) (load p s 0))

  spent : State → ℕ
  spent s = sum_below p.edges (term s)

  term_next : {s : State} (h : Reached p s) (e d : ℕ) → winner p s ≡ edge e d → (f : ℕ) → f < p.edges →
      term s f + d * counted (between p F s.label f) 1 ≤ term (pick p s e d) f
  unfolding between term counted
  term_next {s} h e d w f b = by (either (F f)) (ℕ_discrete (s.label (p.first f)) (s.label (p.second f)))
      (ℕ_discrete ((pick p s e d).label (p.first f)) ((pick p s e d).label (p.second f)))
    where
      x : ℕ
      x = s.label (p.first f)

      y : ℕ
      y = s.label (p.second f)

      x' : ℕ
      x' = (pick p s e d).label (p.first f)

      y' : ℕ
      y' = (pick p s e d).label (p.second f)

      later : x ≡ y → x' ≡ y'
      later k =
          pick_label p s e d (p.first f)
          ∙ merged_cong (s.label (p.first e)) (s.label (p.second e)) (numbers p s) s.label (p.first f) (p.second f) k
          ∙ sym (pick_label p s e d (p.second f))

      raised : load p (pick p s e d) 0 ≡ load p s 0 + d
      raised = omega (arith, load_pick p ok h e d 0 some, counted_true (all_active p ok all s e d w 0 some) d)

      room : (x ≡ y → ⊥) → F f ≡ true → load p s 0 + d ≤ p.weight f
      room apart k =
          let its = delay_is p ok all h f b (set f k).1 apart in
          omega (arith, its.1.1, (winner_wins p s e d w).least f its.0 b its.1.0, load_even p ok all h (p.first f) 0 (ok.first_below_law f b) some)

      by : (F f ≡ true) ⊎ (F f ≡ false) → Dec (x ≡ y) → Dec (x' ≡ y') →
          counted (F f) (cond (eqb x y) (p.weight f) (load p s 0)) + d * counted (F f && not (eqb x y)) 1
          ≤ counted (F f) (cond (eqb x' y') (p.weight f) (load p (pick p s e d) 0))
      by (inr k) _ _ = rw k (omega arith)
      by (inl k) (yes q) r = rw (k, eq-eqb x y q, eq-eqb x' y' (later q)) (omega arith)
      by (inl k) (no q) (yes r) = rw (k, ne_eqb x y q, eq-eqb x' y' r) (omega (arith, room q k))
      by (inl k) (no q) (no r) = rw (k, ne_eqb x y q, ne_eqb x' y' r) (omega (arith, raised))

  spent_next : {s : State} (h : Reached p s) (e d : ℕ) → winner p s ≡ edge e d → spent s + d * count_below p.edges (between p F s.label) ≤ spent (pick p s e d)
  unfolding spent count_below
  spent_next {s} h e d w =
      omega (
        arith,
        sum_le p.edges (λ f. term s f + d * counted (between p F s.label f) 1) (term (pick p s e d)) (λ f b. term_next h e d w f b),
        sum_add p.edges (term s) (λ f. d * counted (between p F s.label f) 1),
        sum_scale p.edges d (λ f. counted (between p F s.label f) 1),
      )

  -- A pick weighs the load at which it is reached.
  cost_next : {s : State} (h : Reached p s) (e d : ℕ) → winner p s ≡ edge e d → cost p (pick p s e d).picked ≡ cost p s.picked + (d + load p s 0)
  unfolding cost
  cost_next {s} h e d w =
      omega (
        arith,
        sum_at p.edges (λ f. counted ((pick p s e d).picked f) (p.weight f)) (λ f. counted (s.picked f) (p.weight f)) e b
            (λ f bf other. ap (λ t. counted t (p.weight f)) (old f other)),
        counted_true (pick_new p s e d) (p.weight e),
        counted_false fresh (p.weight e),
        after_load p ok all h e d b (winner_wins p s e d w).delayed,
        load_even p ok all h (p.first e) 0 (ok.first_below_law e b) some,
      )
    where
      b : e < p.edges
      b = winner_below_law p s e d w

      fresh : s.picked e ≡ false
      fresh = not_true_false (s.picked e) (λ k. (winner_candidate p s e d w).apart ((partition p ok h).ends e k))

      old : (f : ℕ) → (f ≡ e → ⊥) → (pick p s e d).picked f ≡ s.picked f
      old f other = same_test_law ((pick p s e d).picked f) (s.picked f) (λ k. ⊎_elim (λ o. o) (λ n. absurd (other n)) (pick_only p s e d f k)) (pick_more p s e d f)

  none_picked : cost p (λ e. false) ≡ 0
  unfolding cost
  none_picked = sum_zero p.edges (λ e. counted false (p.weight e)) (λ e b. counted_false refl (p.weight e))

  -- So the picks never cost more than F has spent, each component but one still to be paid for at the present load.
  spends : {s : State} → Reached p s → cost p s.picked + load p s 0 * (p.vertices - 1 - s.rounds) ≤ spent s
  unfolding start
  spends first = omega (arith, none_picked, ap (λ t. t * (p.vertices - 1 - 0)) (load_start p 0))
  spends (next {s = s} {e = e} {d = d} h w) =
      count (p.vertices - 1 - s.rounds) (p.vertices - 1 - (pick p s e d).rounds) (omega (arith, pick_rounds p s e d, rounds_lt p ok some (next h w)))
      (omega (arith, between_many h)) (spends h)
    where
      raised : load p (pick p s e d) 0 ≡ load p s 0 + d
      raised = omega (arith, load_pick p ok h e d 0 some, counted_true (all_active p ok all s e d w 0 some) d)

      count : (B C : ℕ) → B ≡ suc C → B ≤ count_below p.edges (between p F s.label) → cost p s.picked + load p s 0 * B ≤ spent s →
          cost p (pick p s e d).picked + load p (pick p s e d) 0 * C ≤ spent (pick p s e d)
      count B C k many ih =
          rw raised
          (omega (
            arith,
            ap (λ x. load p s 0 * x) k,
            ap (λ x. d * x) k,
            mul-le-mul_left d many,
            spent_next h e d w,
            cost_next h e d w,
            ih,
          ))

  spent_all : (joinable : Joins p (all_usable p)) → spent (grown p) ≡ cost p F
  unfolding spent cost term
  spent_all joinable =
      sum_cong p.edges (term (grown p)) (λ e. counted (F e) (p.weight e))
      (λ e b.
      ap (λ t. counted (F e) (cond t (p.weight e) (load p (grown p) 0)))
      (eq-eqb ((grown p).label (p.first e)) ((grown p).label (p.second e))
      (resting_joined p (grown p).label (grown_resting p ok some joinable) (p.first e) (p.second e) (ok.first_below_law e b) (ok.second_below e b)
      (all (p.first e) (p.second e) (ok.first_below_law e b) (ok.second_below e b)))))

  -- So F costs at least as much as the picks.
  picked_le : Joins p (all_usable p) → cost p (picked p) ≤ cost p F
  unfolding picked
  picked_le joinable = omega (arith, spends (grown_reached p), spent_all joinable)

-- No set that joins all costs less than the kept edges, which are those picked.
pub spanning_cheapest : (p : Problem) (ok : Sound p) → 0 < p.vertices → Joins p (all_usable p) → RequiresAll p → Cheapest p (kept p)
spanning_cheapest p ok some joinable all F set joins = rw (kept_is_picked p ok some joinable all) (picked_le p ok some all F set joins joinable)
