-- The accuracy of a grown and pruned set (source 001, Lemma 22.8 and Theorem 22.9, with source 003's factor 2 - 2/k): k times its cost is at most
-- k - 1 times the dual bound, so (2k - 2) times the cost of any set that joins every required pair is at least k times its cost.
use Rattle.std.specs.Prelude.{ℕ, zero, suc, ◌+◌, ◌*◌, ◌-◌, ◌≤◌, ◌<◌, ◌≡◌, refl, Bool, ◌&&◌, List, eqb}
use Rattle.std.proofs.Math.Path.{ap, sym}
use Rattle.std.proofs.Common.{◌∙◌, subst, mul-le-mul_left, eqb-true}
use Rattle.std.proofs.Math.Bool.{true, false}
use native.Mathlib.Omega.{arith}
use Rattle.base_finite.specs.Below.{counted, sum_below, count_below}
use Rattle.base_finite.specs.Laws.Test.{true_not_false}
use Rattle.base_finite.specs.Laws.Below.{sum_le, sum_cong, sum_add, sum_zero, sum_swap, sum_scale, counted_true, counted_false, counted_zero, counted_add, counted_mono, counted_sum, count_positive, count_labels}
use Rattle.theory_graph.specs.Path.{crosses}
use Rattle.theory_steiner.specs.Problem.{Problem, Sound, EdgeSet, Joins, cost, terminal, terminals, all_usable}
use Rattle.theory_steiner.specs.Growth.{State, start, active, numbers, slack, Winner, nobody, edge, winner, pick, state_at, grown, Reached}
use Rattle.theory_steiner.specs.Dual.{Dual, total, dual_load, duals_of, Separating, EachDual}
use Rattle.theory_steiner.specs.Pruning.{picked, kept, dual_bound}
use Rattle.theory_steiner.specs.Rounds.{active_count, delay_or_zero, round_delay}
use Rattle.theory_steiner.proofs.Laws.Joined.{Split, separates_elim, terminal_intro}
use Rattle.theory_steiner.proofs.Laws.Round.{state_at_reached}
use Rattle.theory_steiner.proofs.Laws.Winner.{Waits, one_first, one_second, both}
use Rattle.theory_steiner.proofs.Laws.Partition.{label_below_law, winner_candidate, winner_below_law}
use Rattle.theory_steiner.proofs.Laws.Weighed.{component, dual_load_at, dual_load_pick}
use Rattle.theory_steiner.proofs.Laws.Feasible.{dual_load_start, picked_tight, not_overtight}
use Rattle.theory_steiner.proofs.Laws.Rounds.{meets, meets_intro, state_at_pick, state_at_still, grown_reached, bound_by_rounds}
use Rattle.theory_steiner.proofs.Laws.Finish.{kept_picked}
use Rattle.theory_steiner.proofs.Laws.Dual.{each_dual, value_separates, load_duals}
use Rattle.theory_steiner.proofs.Laws.WeakDuality.{weak_duality}
use Rattle.theory_steiner.proofs.Laws.Degree.{degree, active_degree, degree_bound}

-- ---- active components hold terminals

split_terminal : (p : Problem) (ok : Sound p) (S : ℕ → Bool) (s : Split p S) → terminal p s.u ≡ true
split_terminal p ok S s =
    terminal_intro p s.u
    (record {
      vertex = s.v;
      below = s.v_below;
      other = λ same. true_not_false (S s.u) s.inside (ap S (sym same) ∙ s.outside);
      required = ok.symmetric s.u s.v s.required;
    })

-- Each active component holds a terminal, and components share none: A is at most k.
pub active_le_terminals : (p : Problem) (ok : Sound p) (s : State) → active_count p s ≤ terminals p
unfolding active_count terminals count_below active meets
active_le_terminals p ok s =
    omega (
      arith,
      count_labels (numbers p s) p.vertices (terminal p) s.label,
      sum_le (numbers p s) (λ c. counted (active p s.label c) 1) (λ c. counted (meets p (terminal p) s.label c) 1)
          (λ c b. counted_mono (active p s.label c) (meets p (terminal p) s.label c) 1 (met c)),
    )
  where
    met : (c : ℕ) → active p s.label c ≡ true → meets p (terminal p) s.label c ≡ true
    met c a =
        let split : Split p (λ v. eqb (s.label v) c) = separates_elim p (λ v. eqb (s.label v) c) a in
        subst (λ k. meets p (terminal p) s.label k ≡ true) (eqb-true (s.label split.u) c split.inside)
        (meets_intro p (terminal p) s.label split.u split.u_below (split_terminal p ok (λ v. eqb (s.label v) c) split))

-- A winner has an active end.
pub winner_active : (p : Problem) (ok : Sound p) {s : State} → Reached p s → (e d : ℕ) → winner p s ≡ edge e d → 1 ≤ active_count p s
unfolding active_count
winner_active p ok {s} h e d w = by (winner_candidate p s e d w).waits
  where
    b : e < p.edges
    b = winner_below_law p s e d w

    at : (v : ℕ) → v < p.vertices → active p s.label (s.label v) ≡ true → 1 ≤ count_below (numbers p s) (active p s.label)
    at v bv a = count_positive (numbers p s) (active p s.label) (s.label v) (label_below_law p h v bv) a

    by : Waits (active p s.label (s.label (p.first e))) (active p s.label (s.label (p.second e))) (slack p s e) d →
        1 ≤ count_below (numbers p s) (active p s.label)
    by (one_first x y k) = at (p.first e) (ok.first_below_law e b) x
    by (both x y k) = at (p.first e) (ok.first_below_law e b) x
    by (one_second x y k) = at (p.second e) (ok.second_below e b) y

-- ---- twice the cost, as a sum over rounds

-- The dual load of the kept edges.
kept_feels : Problem → State → ℕ
kept_feels p s = sum_below p.edges (λ e. counted (kept p e) (dual_load_at p s e))

both_counted : (s a t : Bool) (d : ℕ) → counted s (counted (a && t) d) ≡ d * counted a (counted (s && t) 1)
unfolding counted
both_counted true true true d = omega arith
both_counted true true false d = omega arith
both_counted true false t d = omega arith
both_counted false true t d = omega arith
both_counted false false t d = omega arith

-- One round: the delay for every kept edge at every active component.
kept_load_pick : (p : Problem) (ok : Sound p) {s : State} → Reached p s → (e d : ℕ) → kept_feels p (pick p s e d) ≡ kept_feels p s + d * active_degree p s
unfolding kept_feels active_degree degree count_below
kept_load_pick p ok {s} h e d =
    sum_cong M _ (λ f. counted (kept p f) (dual_load_at p s f) + counted (kept p f) (sum_below N (added f)))
    (λ f b. ap (counted (kept p f)) (dual_load_pick p ok h e d f b) ∙ counted_add (kept p f) (dual_load_at p s f) (sum_below N (added f)))
    ∙ sum_add M (λ f. counted (kept p f) (dual_load_at p s f)) (λ f. counted (kept p f) (sum_below N (added f)))
    ∙ ap (λ x. sum_below M (λ f. counted (kept p f) (dual_load_at p s f)) + x) exchanged
  where
    M : ℕ
    M = p.edges

    N : ℕ
    N = numbers p s

    x : ℕ → ℕ → Bool
    x c f = crosses p.first p.second (component s.label c) f

    added : ℕ → ℕ → ℕ
    added f c = counted (active p s.label c && x c f) d

    at : (c : ℕ) → sum_below M (λ f. counted (kept p f) (added f c)) ≡ d * counted (active p s.label c) (sum_below M (λ f. counted (kept p f && x c f) 1))
    at c =
        sum_cong M _ (λ f. d * counted (active p s.label c) (counted (kept p f && x c f) 1)) (λ f b. both_counted (kept p f) (active p s.label c) (x c f) d)
        ∙ sum_scale M d (λ f. counted (active p s.label c) (counted (kept p f && x c f) 1))
        ∙ ap (λ y. d * y) (sym (counted_sum (active p s.label c) M (λ f. counted (kept p f && x c f) 1)))

    exchanged : sum_below M (λ f. counted (kept p f) (sum_below N (added f)))
        ≡ d * sum_below N (λ c. counted (active p s.label c) (sum_below M (λ f. counted (kept p f && x c f) 1)))
    exchanged =
        sum_cong M _ (λ f. sum_below N (λ c. counted (kept p f) (added f c))) (λ f b. counted_sum (kept p f) N (added f))
        ∙ sum_swap M N (λ f c. counted (kept p f) (added f c))
        ∙ sum_cong N _ (λ c. d * counted (active p s.label c) (sum_below M (λ f. counted (kept p f && x c f) 1))) (λ c b. at c)
        ∙ sum_scale N d (λ c. counted (active p s.label c) (sum_below M (λ f. counted (kept p f && x c f) 1)))

kept_load_step : (p : Problem) (ok : Sound p) (r : ℕ) (x : Winner) → winner p (state_at p r) ≡ x →
    kept_feels p (state_at p (suc r)) ≡ kept_feels p (state_at p r) + delay_or_zero x * active_degree p (state_at p r)
unfolding delay_or_zero
kept_load_step p ok r nobody k = ap (kept_feels p) (state_at_still p r k) ∙ omega arith
kept_load_step p ok r (edge e d) k = ap (kept_feels p) (state_at_pick p r e d k) ∙ kept_load_pick p ok (state_at_reached p r) e d

kept_load_start : (p : Problem) → kept_feels p start ≡ 0
unfolding kept_feels
kept_load_start p = sum_zero p.edges _ (λ e b. ap (counted (kept p e)) (dual_load_start p e) ∙ counted_zero (kept p e))

kept_load_by_rounds : (p : Problem) (ok : Sound p) (r : ℕ) →
    kept_feels p (state_at p r) ≡ sum_below r (λ i. round_delay p i * active_degree p (state_at p i))
unfolding state_at round_delay sum_below
kept_load_by_rounds p ok zero = kept_load_start p
kept_load_by_rounds p ok (suc r) =
    kept_load_step p ok r (winner p (state_at p r)) refl
    ∙ ap (λ x. x + delay_or_zero (winner p (state_at p r)) * active_degree p (state_at p r)) (kept_load_by_rounds p ok r)

-- ---- the factor

ratio_times : (j P Q d : ℕ) → P + 2 * d ≤ 2 * Q → Q ≤ d * suc j → suc j * P ≤ 2 * (j * Q)
ratio_times j P Q d h l = omega (arith, mul-le-mul_left (suc j) h)

-- k D is at most 2 (k - 1) A, and so times the delay.
ratio : (k D A d : ℕ) → D + 2 ≤ 2 * A → A ≤ k → k * (d * D) ≤ 2 * ((k - 1) * (d * A))
ratio zero D A d h l = absurd (omega arith)
ratio (suc j) D A d h l =
    rw (suc_sub_one j)
    (ratio_times j (d * D) (d * A) d (omega (arith, mul-le-mul_left d h)) (mul-le-mul_left d l))
  where
    suc_sub_one : (j : ℕ) → suc j - 1 ≡ j
    suc_sub_one j = omega arith

-- What the checker's premises give: duals that weak duality bounds, and k times a cost within k - 1 times their sum.
pub within_factor : (p : Problem) (F : ℕ → Bool) → EdgeSet p F → Joins p F → (ds : List Dual) → EachDual (Separating p) ds →
    ((e : ℕ) → e < p.edges → p.usable e ≡ true → dual_load p ds e ≤ 2 * p.weight e) → (k c : ℕ) → k * c ≤ (k - 1) * total ds →
    k * c ≤ (2 * k - 2) * cost p F
within_factor p F set joins ds separating fits k c rule =
    let twice : 2 * k - 2 ≡ 2 * (k - 1) = omega arith in
    omega (arith, ap (λ x. x * cost p F) twice, mul-le-mul_left (k - 1) (weak_duality p F set joins ds separating fits))

grown_tight : (p : Problem) (ok : Sound p) (e : ℕ) → picked p e ≡ true → dual_load_at p (grown p) e ≡ 2 * p.weight e
unfolding picked
grown_tight p ok e h = picked_tight p ok (grown_reached p) e h

module _ (p : Problem) (ok : Sound p) (some : 0 < p.vertices) (joinable : Joins p (all_usable p)) where
  twice_cost : 2 * cost p (kept p) ≡ kept_feels p (grown p)
  unfolding cost kept_feels
  twice_cost =
      sym (sum_scale p.edges 2 (λ e. counted (kept p e) (p.weight e)))
      ∙ sum_cong p.edges (λ e. 2 * counted (kept p e) (p.weight e)) (λ e. counted (kept p e) (dual_load_at p (grown p) e)) (λ e b. at e (kept p e) refl)
    where
      at : (e : ℕ) (t : Bool) → kept p e ≡ t → 2 * counted (kept p e) (p.weight e) ≡ counted (kept p e) (dual_load_at p (grown p) e)
      at e true k =
          omega
          (arith, counted_true k (p.weight e), counted_true k (dual_load_at p (grown p) e), grown_tight p ok e (kept_picked p ok some joinable e k))
      at e false k = omega (arith, counted_false k (p.weight e), counted_false k (dual_load_at p (grown p) e))

  -- twice the cost, and the bound, as sums over rounds
  cost_by_rounds : 2 * cost p (kept p) ≡ sum_below p.vertices (λ i. round_delay p i * active_degree p (state_at p i))
  unfolding grown
  cost_by_rounds = twice_cost ∙ kept_load_by_rounds p ok p.vertices

  grown_bound : dual_bound p (grown p) ≡ sum_below p.vertices (λ i. round_delay p i * active_count p (state_at p i))
  unfolding grown
  grown_bound = bound_by_rounds p ok p.vertices

  round_ratio : (k : ℕ) → terminals p ≤ k → (i : ℕ) → i < p.vertices → (x : Winner) → winner p (state_at p i) ≡ x →
      k * (delay_or_zero x * active_degree p (state_at p i)) ≤ 2 * ((k - 1) * (delay_or_zero x * active_count p (state_at p i)))
  unfolding delay_or_zero
  round_ratio k most i b nobody w = omega arith
  round_ratio k most i b (edge e d) w =
      ratio k (active_degree p (state_at p i)) (active_count p (state_at p i)) d (degree_bound p ok some joinable i (omega arith) e d w)
      (omega (arith, active_le_terminals p ok (state_at p i)))

  -- k times the cost is at most k - 1 times the bound, for the number of terminals and for any number above it.
  pub kept_accurate_at : (k : ℕ) → terminals p ≤ k → k * cost p (kept p) ≤ (k - 1) * dual_bound p (grown p)
  unfolding round_delay
  kept_accurate_at k most =
      omega (
        arith,
        ap (λ x. k * x) cost_by_rounds,
        ap (λ x. (k - 1) * x) grown_bound,
        sum_scale p.vertices k (λ i. round_delay p i * active_degree p (state_at p i)),
        sum_scale p.vertices (k - 1) (λ i. round_delay p i * active_count p (state_at p i)),
        sum_scale p.vertices 2 (λ i. (k - 1) * (round_delay p i * active_count p (state_at p i))),
        sum_le p.vertices (λ i. k * (round_delay p i * active_degree p (state_at p i)))
            (λ i. 2 * ((k - 1) * (round_delay p i * active_count p (state_at p i))))
            (λ i b. round_ratio k most i b (winner p (state_at p i)) refl),
      )

  pub kept_accurate : terminals p * cost p (kept p) ≤ (terminals p - 1) * dual_bound p (grown p)
  kept_accurate = kept_accurate_at (terminals p) (omega arith)

  -- Where there is no terminal the kept edges cost nothing.
  pub no_terminal_free : terminals p ≡ 0 → cost p (kept p) ≡ 0
  unfolding round_delay delay_or_zero
  no_terminal_free none =
      omega (
        arith,
        cost_by_rounds,
        sum_zero p.vertices (λ i. round_delay p i * active_degree p (state_at p i)) (λ i b. idle i (winner p (state_at p i)) refl),
      )
    where
      idle : (i : ℕ) (x : Winner) → winner p (state_at p i) ≡ x → delay_or_zero x * active_degree p (state_at p i) ≡ 0
      idle i nobody w = omega arith
      idle i (edge e d) w = absurd (omega (arith, winner_active p ok (state_at_reached p i) e d w, active_le_terminals p ok (state_at p i)))

  -- Each dual of the growth separates a required pair, and no usable edge is overtight.
  pub grown_separating : EachDual (Separating p) (duals_of p (grown p))
  grown_separating = each_dual p (grown p) (λ c pos. value_separates p ok (grown_reached p) c pos)

  pub grown_feasible : (e : ℕ) → e < p.edges → p.usable e ≡ true → dual_load p (duals_of p (grown p)) e ≤ 2 * p.weight e
  grown_feasible e b u = omega (arith, load_duals p (grown p) e, not_overtight p ok (grown_reached p) e b u)
