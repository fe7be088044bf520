-- The order of edges by weight, then number (document 02, No. 14): of two edges exactly one comes before the other,
-- and `in_order_law` holds the usable edges and no others, each before all that follow it.
use Prim.Native.Nat.{ℕ, zero, suc, ◌≤◌, ◌<◌}
use Rattle.std.proofs.Common.{arith, ap, sym, ◌∙◌}
use Rattle.std.specs.Prelude.{◌≡◌, ◌⊎◌, Bool, ◌&&◌, cond}
use Rattle.std.proofs.Math.Path.{refl, subst}
use Rattle.std.proofs.Math.Logic.{inl, inr, ⊎_elim}
use Rattle.std.proofs.Math.Bool.{true, false}
use mathlib.Core.List.Memᴰ
use mathlib.Core.List.{[], List, ◌∷◌, Memᴰ}
use Rattle.std.proofs.Math.Dec.{eqb, ltb}
use borrow.Author.Tests.{eqb-true, eq-eqb, ltb-true, lt-ltb}
use Rattle.base_finite.specs.Laws.Test.{and_left, and_right, and_both, or_cases, or_left, or_right, true_not_false}
use Rattle.base_finite.specs.Laws.Below.{below_suc, lt_or_ge}
use Rattle.theory_steiner.specs.Problem.{Problem}
use Rattle.theory_steiner.specs.Spanning.{comes_before, placed, in_order_law, Rising, none, more}

-- e comes before f: it weighs less, or as much and has the lower number.
abbrev pub Before : Problem → (e f : ℕ) → Type 0
Before p e f = (p.weight e < p.weight f) ⊎ ((p.weight e ≡ p.weight f) × (e < f))

module _ (p : Problem) where
  pub before_elim : (e f : ℕ) → comes_before p e f ≡ true → Before p e f
  unfolding comes_before
  before_elim e f h =
      ⊎_elim
      (λ l. inl (ltb-true (p.weight e) (p.weight f) l))
      (λ k.
      inr (
        eqb-true (p.weight e) (p.weight f) (and_left (eqb (p.weight e) (p.weight f)) (ltb e f) k),
        ltb-true e f (and_right (eqb (p.weight e) (p.weight f)) (ltb e f) k),
      ))
      (or_cases (ltb (p.weight e) (p.weight f)) (eqb (p.weight e) (p.weight f) && ltb e f) h)

  pub before_intro : (e f : ℕ) → Before p e f → comes_before p e f ≡ true
  unfolding comes_before
  before_intro e f b =
      let t = ltb (p.weight e) (p.weight f) in
      let u = eqb (p.weight e) (p.weight f) in
      ⊎_elim
      (λ l. or_left t (u && ltb e f) (lt-ltb (p.weight e) (p.weight f) l))
      (λ k. or_right t (u && ltb e f) (and_both u (ltb e f) (eq-eqb (p.weight e) (p.weight f) k.0) (lt-ltb e f k.1)))
      b

  -- ---- strict and total

  pub before_not_both : (e f : ℕ) → comes_before p e f ≡ true → comes_before p f e ≡ true → ⊥
  before_not_both e f h k = by (before_elim e f h) (before_elim f e k)
    where
      by : Before p e f → Before p f e → ⊥
      by (inl a) (inl b) = omega arith
      by (inl a) (inr b) = omega (arith, b.0)
      by (inr a) (inl b) = omega (arith, a.0)
      by (inr a) (inr b) = omega (arith, a.1, b.1)

  pub before_not_itself : (e f : ℕ) → e ≡ f → comes_before p e f ≡ true → ⊥
  before_not_itself e f same h =
      let k : comes_before p e e ≡ true = subst (λ x. comes_before p e x ≡ true) (sym same) h in before_not_both e e k k

  pub before_trans : (e f g : ℕ) → comes_before p e f ≡ true → comes_before p f g ≡ true → comes_before p e g ≡ true
  before_trans e f g h k = before_intro e g (by (before_elim e f h) (before_elim f g k))
    where
      by : Before p e f → Before p f g → Before p e g
      by (inl a) (inl b) = inl (omega arith)
      by (inl a) (inr b) = inl (omega (arith, b.0))
      by (inr a) (inl b) = inl (omega (arith, a.0))
      by (inr a) (inr b) = inr (a.0 ∙ b.0, omega (arith, a.1, b.1))

  pub before_or_after : (e f : ℕ) → (e ≡ f → ⊥) → (comes_before p e f ≡ true) ⊎ (comes_before p f e ≡ true)
  before_or_after e f other = by (lt_or_ge (p.weight e) (p.weight f)) (lt_or_ge (p.weight f) (p.weight e)) (lt_or_ge e f)
    where
      by : (p.weight e < p.weight f) ⊎ (p.weight f ≤ p.weight e) → (p.weight f < p.weight e) ⊎ (p.weight e ≤ p.weight f) → (e < f) ⊎ (f ≤ e) →
          (comes_before p e f ≡ true) ⊎ (comes_before p f e ≡ true)
      by (inl a) y z = inl (before_intro e f (inl a))
      by (inr a) (inl b) z = inr (before_intro f e (inl b))
      by (inr a) (inr b) (inl c) = inl (before_intro e f (inr (omega arith, c)))
      by (inr a) (inr b) (inr c) = inr (before_intro f e (inr (omega arith, omega (arith, other))))

  -- ---- one more edge in the list

  placed_cases : (e : ℕ) (es : List ℕ) (g : ℕ) → Memᴰ g (placed p e es) → (g ≡ e) ⊎ Memᴰ g es
  unfolding placed
  placed_cases e [] g m = Memᴰ.cases_cons m
  placed_cases e (f ∷ fs) g m = by (placed_cases e fs g) (comes_before p e f) m
    where
      by : (Memᴰ g (placed p e fs) → (g ≡ e) ⊎ Memᴰ g fs) → (t : Bool) →
          Memᴰ g (cond t (e ∷ (f ∷ fs)) (f ∷ placed p e fs)) → (g ≡ e) ⊎ Memᴰ g (f ∷ fs)
      by ih true m = Memᴰ.cases_cons m
      by ih false m = ⊎_elim (λ k. inr (Memᴰ.head k)) (λ k. ⊎_elim inl (λ o. inr (Memᴰ.tail o)) (ih k)) (Memᴰ.cases_cons m)

  placed_new : (e : ℕ) (es : List ℕ) (g : ℕ) → g ≡ e → Memᴰ g (placed p e es)
  unfolding placed
  placed_new e [] g same = Memᴰ.head same
  placed_new e (f ∷ fs) g same = by (placed_new e fs g same) (comes_before p e f)
    where
      by : Memᴰ g (placed p e fs) → (t : Bool) → Memᴰ g (cond t (e ∷ (f ∷ fs)) (f ∷ placed p e fs))
      by ih true = Memᴰ.head same
      by ih false = Memᴰ.tail ih

  placed_old : (e : ℕ) (es : List ℕ) (g : ℕ) → Memᴰ g es → Memᴰ g (placed p e es)
  unfolding placed
  placed_old e [] g m = absurd (Memᴰ.not-nil m)
  placed_old e (f ∷ fs) g m = by (placed_old e fs g) (comes_before p e f) (Memᴰ.cases_cons m)
    where
      by : (Memᴰ g fs → Memᴰ g (placed p e fs)) → (t : Bool) → (g ≡ f) ⊎ Memᴰ g fs →
          Memᴰ g (cond t (e ∷ (f ∷ fs)) (f ∷ placed p e fs))
      by ih true x = Memᴰ.tail m
      by ih false (inl k) = Memᴰ.head k
      by ih false (inr k) = Memᴰ.tail (ih k)

  placed_rising : (e : ℕ) (es : List ℕ) → Rising p es → (Memᴰ e es → ⊥) → Rising p (placed p e es)
  unfolding placed
  placed_rising e [] none fresh = more (λ f m. absurd (Memᴰ.not-nil m)) none
  placed_rising e (f ∷ fs) (more low rest) fresh = by (placed_rising e fs rest (λ m. fresh (Memᴰ.tail m))) (comes_before p e f) refl
    where
      by : Rising p (placed p e fs) → (t : Bool) → comes_before p e f ≡ t → Rising p (cond t (e ∷ (f ∷ fs)) (f ∷ placed p e fs))
      by ih true k =
          more
          (λ g m.
          ⊎_elim
          (λ same. subst (λ x. comes_before p e x ≡ true) (sym same) k)
          (λ o. before_trans e f g k (low g o))
          (Memᴰ.cases_cons m))
          (more low rest)
      by ih false k =
          more
          (λ g m.
          ⊎_elim
          (λ same. subst (λ x. comes_before p f x ≡ true) (sym same) late)
          (λ o. low g o)
          (placed_cases e fs g m))
          ih
        where
          late : comes_before p f e ≡ true
          late =
              ⊎_elim (λ h. true_not_false (comes_before p e f) h k) (λ h. h)
              (before_or_after e f (λ same. fresh (Memᴰ.head same)))

  -- ---- all edges

  -- The list holds no other edges than the usable ones,
  pub in_order_only : (m f : ℕ) → Memᴰ f (in_order_law p m) → (f < m) × (p.usable f ≡ true)
  unfolding in_order_law
  in_order_only zero f h = absurd (Memᴰ.not-nil h)
  in_order_only (suc e) f h = by (in_order_only e f) (p.usable e) refl h
    where
      wider : (f < e) × (p.usable f ≡ true) → (f < suc e) × (p.usable f ≡ true)
      wider k = (omega (arith, k.0), k.1)

      by : (Memᴰ f (in_order_law p e) → (f < e) × (p.usable f ≡ true)) → (t : Bool) → p.usable e ≡ t →
          Memᴰ f (cond t (placed p e (in_order_law p e)) (in_order_law p e)) → (f < suc e) × (p.usable f ≡ true)
      by ih true u h =
          ⊎_elim
          (λ same. (omega (arith, same), ap p.usable same ∙ u))
          (λ o. wider (ih o))
          (placed_cases e (in_order_law p e) f h)
      by ih false u h = wider (ih h)

  -- all of them,
  pub in_order_all : (m f : ℕ) → f < m → p.usable f ≡ true → Memᴰ f (in_order_law p m)
  unfolding in_order_law
  in_order_all zero f b u = absurd (omega arith)
  in_order_all (suc e) f b u = by (λ l. in_order_all e f l u) (p.usable e) refl (below_suc f e b)
    where
      by : (f < e → Memᴰ f (in_order_law p e)) → (t : Bool) → p.usable e ≡ t → (f < e) ⊎ (f ≡ e) →
          Memᴰ f (cond t (placed p e (in_order_law p e)) (in_order_law p e))
      by ih true k (inl l) = placed_old e (in_order_law p e) f (ih l)
      by ih true k (inr same) = placed_new e (in_order_law p e) f same
      by ih false k (inl l) = ih l
      by ih false k (inr same) = true_not_false (p.usable e) (ap p.usable (sym same) ∙ u) k

  -- and each comes before all that follow it.
  pub in_order_rising : (m : ℕ) → Rising p (in_order_law p m)
  unfolding in_order_law
  in_order_rising zero = none
  in_order_rising (suc e) = by (in_order_rising e) (p.usable e)
    where
      by : Rising p (in_order_law p e) → (t : Bool) → Rising p (cond t (placed p e (in_order_law p e)) (in_order_law p e))
      by ih true = placed_rising e (in_order_law p e) ih (λ m. let k = (in_order_only e e m).0 in omega arith)
      by ih false = ih
