-- What a round adds to a sum over the duals: the delay for each active component whose set passes the test. The load of a vertex, the dual
-- load of an edge and the dual bound are three such sums.
use Prim.Native.Nat.{ℕ, suc, ◌+◌, ◌*◌, ◌≤◌, ◌<◌}
use Rattle.std.specs.Prelude.{◌≡◌, refl, Bool, ◌&&◌, eqb}
use Rattle.std.proofs.Math.Path.{ap}
use Rattle.std.proofs.Common.{ap₂, sym, ◌∙◌, mul-one, arith, eqb-true, eq-eqb}
use Rattle.std.proofs.Math.Bool.{true, false, xor, and-true, and-false}
use Rattle.base_finite.specs.Below.{counted, sum_below, count_below}
use Rattle.base_finite.specs.Laws.Test.{not_true_false, and_right}
use Rattle.base_finite.specs.Laws.Below.{sum_suc, sum_cong, sum_add, sum_zero, sum_only, sum_scale, counted_false, counted_zero, counted_add, counted_scale}
use Rattle.theory_graph.specs.Path.{crosses}
use Rattle.theory_graph.proofs.Laws.Linked.{crosses_cong, crosses_not}
use Rattle.theory_steiner.specs.Problem.{Problem, Sound}
use Rattle.theory_steiner.specs.Growth.{State, start, active, numbers, load, pick, Reached, first, next}
use Rattle.theory_steiner.specs.Pruning.{dual_bound}
use Rattle.theory_steiner.specs.Rounds.{active_count}
use Rattle.theory_steiner.proofs.Laws.Round.{pick_numbers, pick_value, pick_holds_old}
use Rattle.theory_steiner.proofs.Laws.Partition.{label_below_law, active_below_law, active_members}

-- The sum of the values of all component numbers whose members pass the test.
unfoldable pub weighed : Problem → State → ((ℕ → Bool) → Bool) → ℕ
weighed p s t = sum_below (numbers p s) (λ c. counted (t (s.holds c)) (s.value c))

-- A test that looks at vertices only.
abbrev pub Local : Problem → ((ℕ → Bool) → Bool) → Type 0
Local p t = (S R : ℕ → Bool) → ((v : ℕ) → v < p.vertices → S v ≡ R v) → t S ≡ t R

-- The vertices of component c.
abbrev pub component : (ℕ → ℕ) → ℕ → ℕ → Bool
component label c v = eqb (label v) c

-- A number that no component has yet has value 0.
pub value_fresh : (p : Problem) {s : State} → Reached p s → (c : ℕ) → numbers p s ≤ c → s.value c ≡ 0
unfolding start
value_fresh p first c h = refl
value_fresh p (next {s = s} {e = e} {d = d} h w) c b =
    let n : numbers p (pick p s e d) ≡ suc (numbers p s) = pick_numbers p s e d in
    let idle : active p s.label c ≡ false =
    not_true_false (active p s.label c) (λ a. let l : c < numbers p s = active_below_law p h c a in omega arith) in
    let ih : s.value c ≡ 0 = value_fresh p h c (omega arith) in
    let v : (pick p s e d).value c ≡ s.value c + counted (active p s.label c) d = pick_value p s e d c in
    let z : counted (active p s.label c) d ≡ 0 = counted_false idle d in
    omega arith

-- Nor has the component that a round makes.
pub value_newborn : (p : Problem) {s : State} → Reached p s → (e d : ℕ) → (pick p s e d).value (numbers p s) ≡ 0
value_newborn p {s} h e d =
    let c : ℕ = numbers p s in
    let idle : active p s.label c ≡ false =
    not_true_false (active p s.label c) (λ a. let l : c < numbers p s = active_below_law p h c a in omega arith) in
    let ih : s.value c ≡ 0 = value_fresh p h c (omega arith) in
    let v : (pick p s e d).value c ≡ s.value c + counted (active p s.label c) d = pick_value p s e d c in
    let z : counted (active p s.label c) d ≡ 0 = counted_false idle d in
    omega arith

module _ (p : Problem) (ok : Sound p) {s : State} (h : Reached p s) (e d : ℕ) (t : (ℕ → Bool) → Bool) (local : Local p t) where
  term : (c : ℕ) → c < numbers p s →
      counted (t ((pick p s e d).holds c)) ((pick p s e d).value c)
      ≡ counted (t (s.holds c)) (s.value c) + counted (active p s.label c && t (component s.label c)) d
  unfolding counted
  term c b =
      rw (
        local ((pick p s e d).holds c) (s.holds c) (λ v bv. pick_holds_old p s e d c v (λ same. omega arith)),
        pick_value p s e d c,
      )
      (by (active p s.label c) refl)
    where
      by : (a : Bool) → active p s.label c ≡ a →
          counted (t (s.holds c)) (s.value c + counted (active p s.label c) d)
          ≡ counted (t (s.holds c)) (s.value c) + counted (active p s.label c && t (component s.label c)) d
      by true a =
          rw (a, local (s.holds c) (component s.label c) (active_members p ok h c a))
          (counted_add (t (component s.label c)) (s.value c) d)
      by false a = rw a (counted_add (t (s.holds c)) (s.value c) 0 ∙ ap (λ x. counted (t (s.holds c)) (s.value c) + x) (counted_zero (t (s.holds c))))

  pub weighed_pick :
      weighed p (pick p s e d) t ≡ weighed p s t + sum_below (numbers p s) (λ c. counted (active p s.label c && t (component s.label c)) d)
  unfolding weighed
  weighed_pick =
      rw (pick_numbers p s e d) (last ∙ sum_cong (numbers p s) _ _ term
      ∙ sum_add (numbers p s) (λ c. counted (t (s.holds c)) (s.value c)) (λ c. counted (active p s.label c && t (component s.label c)) d))
    where
      f : ℕ → ℕ
      f c = counted (t ((pick p s e d).holds c)) ((pick p s e d).value c)

      last : sum_below (suc (numbers p s)) f ≡ sum_below (numbers p s) f
      last =
          let k : f (numbers p s) ≡ 0 =
          ap (counted (t ((pick p s e d).holds (numbers p s)))) (value_newborn p h e d) ∙ counted_zero (t ((pick p s e d).holds (numbers p s))) in
          let l : sum_below (suc (numbers p s)) f ≡ sum_below (numbers p s) f + f (numbers p s) = sum_suc (numbers p s) f in
          omega arith

-- ---- loads

pub load_weighed : (p : Problem) (s : State) (v : ℕ) → load p s v ≡ weighed p s (λ S. S v)
unfolding load weighed
load_weighed p s v = refl

-- The vertex's own component counts, if it is active.
pub raised_at : (p : Problem) {s : State} → Reached p s → (d v : ℕ) → v < p.vertices →
    sum_below (numbers p s) (λ c. counted (active p s.label c && eqb (s.label v) c) d) ≡ counted (active p s.label (s.label v)) d
raised_at p {s} h d v b =
    sum_only (numbers p s) (λ c. counted (active p s.label c && eqb (s.label v) c) d) (s.label v) (label_below_law p h v b)
    (λ c bc other. counted_false (not_true_false (active p s.label c && eqb (s.label v) c)
    (λ k. other (sym (eqb-true (s.label v) c (and_right (active p s.label c) (eqb (s.label v) c) k))))) d)
    ∙ ap (λ x. counted x d) (rw (eq-eqb (s.label v) (s.label v) refl) (and-true (active p s.label (s.label v))))

-- A round raises a vertex by the delay if its component is active.
pub load_pick : (p : Problem) (ok : Sound p) {s : State} → Reached p s → (e d v : ℕ) → v < p.vertices →
    load p (pick p s e d) v ≡ load p s v + counted (active p s.label (s.label v)) d
load_pick p ok {s} h e d v b =
    load_weighed p (pick p s e d) v ∙ weighed_pick p ok h e d (λ S. S v) (λ S R k. k v b)
    ∙ ap (λ x. weighed p s (λ S. S v) + x) (raised_at p h d v b) ∙ ap (λ x. x + counted (active p s.label (s.label v)) d) (sym (load_weighed p s v))

-- ---- the dual load of an edge

-- The dual load of an edge after some rounds.
unfoldable pub dual_load_at : Problem → State → ℕ → ℕ
dual_load_at p s e = weighed p s (λ S. crosses p.first p.second S e)

pub dual_load_pick : (p : Problem) (ok : Sound p) {s : State} → Reached p s → (e d f : ℕ) → f < p.edges →
    dual_load_at p (pick p s e d) f
    ≡ dual_load_at p s f + sum_below (numbers p s) (λ c. counted (active p s.label c && crosses p.first p.second (component s.label c) f) d)
unfolding dual_load_at
dual_load_pick p ok {s} h e d f b =
    weighed_pick p ok h e d (λ S. crosses p.first p.second S f)
    (λ S R k. crosses_cong p.first p.second S R f (k (p.first f) (ok.first_below_law f b)) (k (p.second f) (ok.second_below f b)))

-- Inside a component it stays.
pub dual_load_inside : (p : Problem) (ok : Sound p) {s : State} → Reached p s → (e d f : ℕ) → f < p.edges →
    s.label (p.first f) ≡ s.label (p.second f) → dual_load_at p (pick p s e d) f ≡ dual_load_at p s f
dual_load_inside p ok {s} h e d f b same =
    let z : sum_below (numbers p s) (λ c. counted (active p s.label c && crosses p.first p.second (component s.label c) f) d) ≡ 0 =
    sum_zero (numbers p s) _
    (λ c bc.
    counted_false
    (rw (crosses_not p.first p.second (component s.label c) f (ap (λ x. eqb x c) same)) (and-false (active p s.label c))) d) in
    let q : dual_load_at p (pick p s e d) f
    ≡ dual_load_at p s f + sum_below (numbers p s) (λ c. counted (active p s.label c && crosses p.first p.second (component s.label c) f) d) =
    dual_load_pick p ok h e d f b in
    omega arith

-- One of two different numbers is c, or none.
pub two_ends : (a : Bool) (x y c d : ℕ) → (x ≡ y → ⊥) → counted (a && xor (eqb x c) (eqb y c)) d ≡ counted (a && eqb x c) d + counted (a && eqb y c) d
unfolding counted xor
two_ends a x y c d apart = by a (eqb x c) (eqb y c) (λ p q. apart (eqb-true x c p ∙ sym (eqb-true y c q)))
  where
    by : (a s t : Bool) → (s ≡ true → t ≡ true → ⊥) → counted (a && xor s t) d ≡ counted (a && s) d + counted (a && t) d
    by false s t k = refl
    by true false false k = refl
    by true true false k = omega arith
    by true false true k = omega arith
    by true true true k = absurd (k refl refl)

-- Between two components it rises by what each end is raised.
pub dual_load_between : (p : Problem) (ok : Sound p) {s : State} → Reached p s → (e d f : ℕ) → f < p.edges →
    (s.label (p.first f) ≡ s.label (p.second f) → ⊥) →
    dual_load_at p (pick p s e d) f
    ≡ dual_load_at p s f + (counted (active p s.label (s.label (p.first f))) d + counted (active p s.label (s.label (p.second f))) d)
unfolding crosses
dual_load_between p ok {s} h e d f b apart =
    dual_load_pick p ok h e d f b ∙ ap (λ x. dual_load_at p s f + x) ends
  where
    x : ℕ
    x = s.label (p.first f)

    y : ℕ
    y = s.label (p.second f)

    ends : sum_below (numbers p s) (λ c. counted (active p s.label c && crosses p.first p.second (component s.label c) f) d)
        ≡ counted (active p s.label x) d + counted (active p s.label y) d
    ends =
        sum_cong (numbers p s) _ (λ c. counted (active p s.label c && eqb x c) d + counted (active p s.label c && eqb y c) d)
        (λ c bc. cross c)
        ∙ sum_add (numbers p s) (λ c. counted (active p s.label c && eqb x c) d) (λ c. counted (active p s.label c && eqb y c) d)
        ∙ ap₂ ◌+◌ (raised_at p h d (p.first f) (ok.first_below_law f b)) (raised_at p h d (p.second f) (ok.second_below f b))
      where
        cross : (c : ℕ) → counted (active p s.label c && crosses p.first p.second (component s.label c) f) d
            ≡ counted (active p s.label c && eqb x c) d + counted (active p s.label c && eqb y c) d
        cross c = two_ends (active p s.label c) x y c d apart

-- ---- the dual bound

pub bound_weighed : (p : Problem) (s : State) → dual_bound p s ≡ weighed p s (λ S. true)
unfolding dual_bound weighed counted
bound_weighed p s = refl

-- A round adds the delay once for each active component.
pub bound_pick : (p : Problem) (ok : Sound p) {s : State} → Reached p s → (e d : ℕ) →
    dual_bound p (pick p s e d) ≡ dual_bound p s + d * active_count p s
unfolding active_count count_below
bound_pick p ok {s} h e d =
    bound_weighed p (pick p s e d) ∙ weighed_pick p ok h e d (λ S. true) (λ S R k. refl)
    ∙ ap₂ ◌+◌ (sym (bound_weighed p s))
    (sum_cong (numbers p s) _ (λ c. d * counted (active p s.label c) 1) (λ c b. each (active p s.label c))
    ∙ sum_scale (numbers p s) d (λ c. counted (active p s.label c) 1))
  where
    each : (t : Bool) → counted (t && true) d ≡ d * counted t 1
    each t = rw and-true (ap (counted t) (sym (mul-one d)) ∙ counted_scale t d 1)
