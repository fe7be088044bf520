-- The duals of a growth: as a list they weigh what the component numbers weigh, there are at most 2n - 1, each has a value above 0 that no usable
-- edge across it exceeds, and each separates a required pair (document 01, 'What a plan holds'; the checker's 11 and 12).
use Rattle.std.specs.Prelude.{ℕ, zero, suc, ◌+◌, ◌*◌, ◌-◌, ◌≤◌, ◌<◌, ◌≡◌, refl, ◌⊎◌, Bool, true, false, cond, [], List, ◌∷◌, ◌++◌, map, length, eqb, ltb}
use Rattle.std.proofs.Common.{ap, sym, ◌∙◌, subst, inl, inr, ⊎_elim, arith, length-append, ltb-true, ltb-false}
use Rattle.std.proofs.lemmas.List.{map-append, length-map}
use Rattle.std.proofs.Math.Decide.{ℕ_discrete}
use Rattle.base_finite.specs.Below.{counted, sum_below, count_below, those_below, tabulate}
use Rattle.base_finite.specs.Laws.Test.{either}
use Rattle.base_finite.specs.Laws.Below.{lt_or_ge, sum_member, counted_true, counted_false, counted_zero, count_le}
use Rattle.theory_graph.specs.Path.{crosses}
use Rattle.theory_graph.proofs.Laws.Linked.{Crossing, cut_crossed}
use Rattle.theory_steiner.specs.Problem.{Problem, Sound, Joins, separates, all_usable}
use Rattle.theory_steiner.specs.Growth.{State, start, active, numbers, edge, pick, Reached, first, next}
use Rattle.theory_steiner.specs.Dual.{Dual, weigh, total, dual_load, EachDual, none, more, dual_of, duals_of}
use Rattle.theory_steiner.specs.Pruning.{dual_bound}
use Rattle.theory_steiner.proofs.Laws.Joined.{Split, separates_elim, separates_cong}
use Rattle.theory_steiner.proofs.Laws.Round.{pick_value, pick_holds_old}
use Rattle.theory_steiner.proofs.Laws.Partition.{active_members}
use Rattle.theory_steiner.proofs.Laws.Weighed.{weighed, value_fresh, value_newborn, dual_load_at, bound_weighed}
use Rattle.theory_steiner.proofs.Laws.Feasible.{not_overtight}
use Rattle.theory_steiner.proofs.Laws.Rounds.{rounds_lt}
use Rattle.theory_steiner.proofs.Laws.Finish.{all_usable_edges}

-- ---- the list

pub weigh_append : (ds es : List Dual) (t : (ℕ → Bool) → Bool) → weigh (ds ++ es) t ≡ weigh ds t + weigh es t
unfolding weigh
weigh_append [] es t = omega arith
weigh_append (d ∷ ds) es t = omega (arith, weigh_append ds es t)

pub weigh_tabulate : (n : ℕ) (f : ℕ → Dual) (t : (ℕ → Bool) → Bool) → weigh (tabulate n f) t ≡ sum_below n (λ i. counted (t (f i).holds) (f i).value)
unfolding weigh tabulate sum_below
weigh_tabulate zero f t = refl
weigh_tabulate (suc n) f t = omega (arith, weigh_append (tabulate n f) (f n ∷ []) t, weigh_tabulate n f t)

-- Those with value 0 weigh nothing.
weigh_those : (s : State) (t : (ℕ → Bool) → Bool) (n : ℕ) →
    weigh (map (dual_of s) (those_below n (λ c. ltb 0 (s.value c)))) t ≡ sum_below n (λ c. counted (t (s.holds c)) (s.value c))
unfolding those_below sum_below weigh
weigh_those s t zero = refl
weigh_those s t (suc n) =
    ap (λ l. weigh l t) (map-append (dual_of s) (those_below n (λ c. ltb 0 (s.value c))) (cond (ltb 0 (s.value n)) (n ∷ []) []))
    ∙ weigh_append (map (dual_of s) (those_below n (λ c. ltb 0 (s.value c)))) (map (dual_of s) (cond (ltb 0 (s.value n)) (n ∷ []) [])) t
    ∙ by (weigh_those s t n) (ltb 0 (s.value n)) refl
  where
    by : weigh (map (dual_of s) (those_below n (λ c. ltb 0 (s.value c)))) t ≡ sum_below n (λ c. counted (t (s.holds c)) (s.value c)) →
        (b : Bool) → ltb 0 (s.value n) ≡ b →
        weigh (map (dual_of s) (those_below n (λ c. ltb 0 (s.value c)))) t + weigh (map (dual_of s) (cond b (n ∷ []) [])) t
        ≡ sum_below n (λ c. counted (t (s.holds c)) (s.value c)) + counted (t (s.holds n)) (s.value n)
    by ih true k = omega arith
    by ih false k =
        let z : s.value n ≡ 0 = let l = ltb-false 0 (s.value n) k in omega arith in
        omega (arith, ap (counted (t (s.holds n))) z, counted_zero (t (s.holds n)))

pub weigh_duals : (p : Problem) (s : State) (t : (ℕ → Bool) → Bool) → weigh (duals_of p s) t ≡ weighed p s t
unfolding duals_of weighed
weigh_duals p s t = weigh_those s t (numbers p s)

-- The bound is the sum of all duals.
pub total_duals : (p : Problem) (s : State) → total (duals_of p s) ≡ dual_bound p s
unfolding total
total_duals p s = weigh_duals p s (λ S. true) ∙ sym (bound_weighed p s)

pub load_duals : (p : Problem) (s : State) (e : ℕ) → dual_load p (duals_of p s) e ≡ dual_load_at p s e
unfolding dual_load dual_load_at
load_duals p s e = weigh_duals p s _

length_those : (n : ℕ) (t : ℕ → Bool) → length (those_below n t) ≡ count_below n t
unfolding those_below count_below sum_below
length_those zero t = refl
length_those (suc n) t =
    length-append (those_below n t) (cond (t n) (n ∷ []) []) ∙ by (length_those n t) (t n)
  where
    by : length (those_below n t) ≡ sum_below n (λ i. counted (t i) 1) → (b : Bool) →
        length (those_below n t) + length (cond b (n ∷ []) []) ≡ sum_below n (λ i. counted (t i) 1) + counted b 1
    by ih true = omega (arith, counted_true {t = true} refl 1)
    by ih false = omega (arith, counted_false {t = false} refl 1)

-- At most 2n - 1.
pub duals_count : (p : Problem) (ok : Sound p) → 0 < p.vertices → {s : State} → Reached p s → length (duals_of p s) ≤ 2 * p.vertices - 1
unfolding duals_of numbers
duals_count p ok some {s} h =
    let n : ℕ = p.vertices + s.rounds in
    omega (
      arith,
      length-map (those_below n (λ c. ltb 0 (s.value c))) (dual_of s),
      length_those n (λ c. ltb 0 (s.value c)),
      count_le n (λ c. ltb 0 (s.value c)),
      rounds_lt p ok some h,
    )

-- ---- each dual

each_append : {P : Dual → Type 0} {ds es : List Dual} → EachDual P ds → EachDual P es → EachDual P (ds ++ es)
each_append none k = k
each_append (more h hs) k = more h (each_append hs k)

each_those : {P : Dual → Type 0} (s : State) → ((c : ℕ) → 0 < s.value c → P (dual_of s c)) → (n : ℕ) →
    EachDual P (map (dual_of s) (those_below n (λ c. ltb 0 (s.value c))))
unfolding those_below
each_those s h zero = none
each_those {P} s h (suc n) =
    subst (EachDual P) (sym (map-append (dual_of s) (those_below n (λ c. ltb 0 (s.value c))) (cond (ltb 0 (s.value n)) (n ∷ []) [])))
    (each_append (each_those s h n) (by (ltb 0 (s.value n)) refl))
  where
    by : (b : Bool) → ltb 0 (s.value n) ≡ b → EachDual P (map (dual_of s) (cond b (n ∷ []) []))
    by true k = more (h n (ltb-true 0 (s.value n) k)) none
    by false k = none

pub each_dual : {P : Dual → Type 0} (p : Problem) (s : State) → ((c : ℕ) → 0 < s.value c → P (dual_of s c)) → EachDual P (duals_of p s)
unfolding duals_of
each_dual p s h = each_those s h (numbers p s)

-- A component with a value separates a required pair.
pub value_separates : (p : Problem) (ok : Sound p) {s : State} → Reached p s → (c : ℕ) → 0 < s.value c → separates p (s.holds c) ≡ true
unfolding start active
value_separates p ok first c h = absurd (omega arith)
value_separates p ok (next {s = s} {e = e} {d = d} h w) c pos = by (ℕ_discrete c (numbers p s)) (either (active p s.label c)) (λ k. value_separates p ok h c k)
  where
    by : Dec (c ≡ numbers p s) → (active p s.label c ≡ true) ⊎ (active p s.label c ≡ false) → (0 < s.value c → separates p (s.holds c) ≡ true) →
        separates p ((pick p s e d).holds c) ≡ true
    by (yes new) a ih = absurd (omega (arith, value_newborn p h e d, ap (pick p s e d).value new))
    by (no old) (inl a) ih =
        separates_cong p ((pick p s e d).holds c) (λ v. eqb (s.label v) c)
        (λ v b. pick_holds_old p s e d c v old ∙ active_members p ok h c a v b)
        ∙ a
    by (no old) (inr a) ih =
        separates_cong p ((pick p s e d).holds c) (s.holds c) (λ v b. pick_holds_old p s e d c v old)
        ∙ ih (omega (arith, pick_value p s e d c, counted_false a d))

-- Some usable edge crosses it, and its value is at most twice that edge's weight.
pub value_fits : (p : Problem) (ok : Sound p) → Joins p (all_usable p) → {s : State} → Reached p s → (W : ℕ) → ((e : ℕ) → e < p.edges → p.weight e ≤ W) →
    (c : ℕ) → 0 < s.value c → s.value c ≤ 2 * W
unfolding dual_load_at weighed
value_fits p ok joinable {s} h W light c pos =
    let split : Split p (s.holds c) = separates_elim p (s.holds c) (value_separates p ok h c pos) in
    let x : Crossing p.first p.second (all_usable p) (s.holds c) =
    cut_crossed (s.holds c) (joinable split.u split.v split.u_below split.v_below split.required) split.inside split.outside in
    let b : x.edge < p.edges = (all_usable_edges p x.edge x.member).0 in
    let u : p.usable x.edge ≡ true = (all_usable_edges p x.edge x.member).1 in
    let bc : c < numbers p s = ⊎_elim (λ l. l) (λ g. absurd (omega (arith, value_fresh p h c g))) (lt_or_ge c (numbers p s)) in
    omega (
      arith,
      not_overtight p ok h x.edge b u,
      light x.edge b,
      sum_member (numbers p s) (λ c. counted (crosses p.first p.second (s.holds c) x.edge) (s.value c)) c bc,
      counted_true x.crossing (s.value c),
    )
