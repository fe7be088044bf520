-- In a forest, the side of an edge is crossed by that edge and by no other; so it decides whether the edge is needed (`needed_by_cut`).
use Rattle.std.specs.Prelude.{◌≡◌, ℕ, zero, suc, ◌<◌, Bool, true, false, cond, ◌&&◌, ◌⊎◌, ◌==◌, ◌≢◌, nat_lt}
use Rattle.std.proofs.Math.Path.{refl}
use Rattle.std.proofs.Common.{ap, sym, ◌∙◌, subst, inl, inr, arith}
use Rattle.std.proofs.Math.Bool.{xor}
use Rattle.std.proofs.lemmas.Bool.{false≢true}
use borrow.Author.Tests.{eq-eqb, ne_eqb, lt-ltb}
use Rattle.base_finite.specs.Laws.Test.{either, and_both}
use Rattle.base_finite.specs.Laws.Below.{below_suc}
use Rattle.theory_graph.specs.Path.{crosses, Forest}
use Rattle.theory_graph.specs.Component.{components}
use Rattle.theory_graph.proofs.Laws.Component.{components_right}
use Rattle.survey_components.specs.Laws.Forest.{forest_apart}
use Rattle.plan_drop.specs.Side.{side_step, sides}

-- ---- exclusive or

xor_self : (s : Bool) → xor s s ≡ false
unfolding xor
xor_self true = refl
xor_self false = refl

-- Both ends turned, or neither.
xor_turned : (s t d : Bool) → xor (xor s d) (xor t d) ≡ xor s t
unfolding xor
xor_turned true true true = refl
xor_turned true true false = refl
xor_turned true false true = refl
xor_turned true false false = refl
xor_turned false true true = refl
xor_turned false true false = refl
xor_turned false false true = refl
xor_turned false false false = refl

-- One end turned to the other's side.
xor_levelled : (s t : Bool) → xor (xor s false) (xor t (xor s t)) ≡ false
unfolding xor
xor_levelled true true = refl
xor_levelled true false = refl
xor_levelled false true = refl
xor_levelled false false = refl

-- ---- one more edge

module _ (a b : ℕ → ℕ) (label : ℕ → ℕ) (e : ℕ) (apart : label (a e) ≡ label (b e) → ⊥) where
  -- an edge inside a component, against an older edge's side
  step_inside : (f g : ℕ) (side : ℕ → Bool) → (f ≢ e) → label (a g) ≡ label (b g) →
      crosses a b (side_step a b label e f side) g ≡ crosses a b side g
  unfolding crosses side_step
  step_inside f g side other same =
      rw (ne_eqb f e other, same) (xor_turned (side (a g)) (side (b g)) (label (b g) == label (b e) && xor (side (a e)) (side (b e))))

  -- the new edge, against an older edge's side
  step_new : (f : ℕ) (side : ℕ → Bool) → (f ≢ e) → crosses a b (side_step a b label e f side) e ≡ false
  unfolding crosses side_step
  step_new f side other =
      rw (ne_eqb f e other, ne_eqb (label (a e)) (label (b e)) apart, eq-eqb (label (b e)) (label (b e)) refl) (xor_levelled (side (a e)) (side (b e)))

  -- an edge inside a component, against the new edge's side
  step_own_inside : (g : ℕ) (side : ℕ → Bool) → label (a g) ≡ label (b g) → crosses a b (side_step a b label e e side) g ≡ false
  unfolding crosses side_step
  step_own_inside g side same = rw (eq-eqb e e refl, same) (xor_self (label (b g) == label (a e)))

  -- the new edge, against its own side
  step_own : (side : ℕ → Bool) → crosses a b (side_step a b label e e side) e ≡ true
  unfolding crosses side_step xor
  step_own side = rw (eq-eqb e e refl, eq-eqb (label (a e)) (label (a e)) refl, ne_eqb (label (b e)) (label (a e)) (λ k. apart (sym k)))

-- ---- all edges

-- Edges of F below m: f's side is crossed by g exactly if g is f.
pub sides_cross : (n : ℕ) (a b : ℕ → ℕ) (F : ℕ → Bool) → Forest a b F → (m f g : ℕ) → f < m → g < m → F f ≡ true → F g ≡ true →
    crosses a b (sides n a b F m f) g ≡ (f == g)
unfolding sides
sides_cross n a b F forest zero f g bf bg hf hg = absurd (omega arith)
sides_cross n a b F forest (suc e) f g bf bg hf hg = by (λ x y. sides_cross n a b F forest e f g x y hf hg) (either (F e)) (below_suc f e bf) (below_suc g e bg)
  where
    L : ℕ → ℕ
    L = components n a b F e

    side : ℕ → Bool
    side = sides n a b F e f

    Old : Type 0
    Old = f < e → g < e → crosses a b (sides n a b F e f) g ≡ (f == g)

    inner : g < e → components n a b F e (a g) ≡ components n a b F e (b g)
    inner l = (components_right n a b F e).ends g (and_both (nat_lt g e) (F g) (lt-ltb g e l) hg)

    by : Old → (F e ≡ true) ⊎ (F e ≡ false) → (f < e) ⊎ (f ≡ e) → (g < e) ⊎ (g ≡ e) →
        crosses a b (cond (F e) (side_step a b (components n a b F e) e f (sides n a b F e f)) (sides n a b F e f)) g ≡ (f == g)
    by old (inl h) (inl x) (inl y) =
        rw h (step_inside a b L e (forest_apart n a b F forest e h) f g side (λ k. omega arith) (inner y) ∙ old x y)
    by old (inl h) (inl x) (inr y) =
        rw h
        (subst (λ k. crosses a b (side_step a b L e f side) k ≡ (f == k)) (sym y)
        (step_new a b L e (forest_apart n a b F forest e h) f side (λ k. omega arith) ∙ sym (ne_eqb f e (λ k. omega arith))))
    by old (inl h) (inr x) (inl y) =
        rw h
        (subst (λ k. crosses a b (side_step a b L e k side) g ≡ (k == g)) (sym x)
        (step_own_inside a b L e (forest_apart n a b F forest e h) g side (inner y) ∙ sym (ne_eqb e g (λ k. omega arith))))
    by old (inl h) (inr x) (inr y) =
        rw h
        (subst (λ k. crosses a b (side_step a b L e k side) g ≡ (k == g)) (sym x)
        (subst (λ k. crosses a b (side_step a b L e e side) k ≡ (e == k)) (sym y)
        (step_own a b L e (forest_apart n a b F forest e h) side ∙ sym (eq-eqb e e refl))))
    by old (inr h) (inl x) (inl y) = rw h (old x y)
    by old (inr h) (inr x) y = absurd (false≢true (sym h ∙ ap F (sym x) ∙ hf))
    by old (inr h) (inl x) (inr y) = absurd (false≢true (sym h ∙ ap F (sym y) ∙ hg))
