-- `lower` meets its contract: it stores at rising places, from k up.
use Prim.Native.Nat.{ℕ, zero, suc, ◌≤◌, ◌<◌}
use native.Mathlib.Omega.{arith}
use mathlib.Core.Path.{◌≡◌, refl, ap, ◌∙◌}
use mathlib.Core.List.{List, [], ◌∷◌}
use Rattle.std.proofs.Common.{◌⊎◌, inl, inr, cond, get_or, ltb, min}
use Rattle.base_finite.specs.Laws.Below.{lt_or_ge}
use Rattle.base_buffer.specs.Store.{remade}
use Rattle.base_buffer.proofs.Laws.Store.{remade_more}
use Rattle.floor_rule.specs.Ascent.{lesser}
use Rattle.floor_core.specs.Laws.Shares.{share_below, share_less, share_whole, share_kept, lowered_end}
use Rattle.floor_core.proofs.shares.lower.Goals as goal

-- what stands below place i stays
front : (f : ℕ → ℕ → ℕ) (i : ℕ) (l : List ℕ) → ((j x : ℕ) → j < i → x ≡ f j x) → l ≡ remade f i l
unfolding remade
front f zero l h = refl
front f (suc i) [] h = refl
front f (suc i) (x ∷ l) h = ap (λ y. y ∷ l) (h 0 x (omega arith)) ∙ ap (λ t. f 0 x ∷ t) (front (λ k. f (suc k)) i l (λ j y b. h (suc j) y (omega arith)))

module _ (got : List ℕ) (k l whole : ℕ) (from_k : k ≤ l) {part r : ℕ} (part_is : part ≡ get_or got l 0) (r_is : r ≡ min whole part) where
  kept : r ≡ cond (ltb l k) whole (lesser whole (get_or got l 0))
  kept = by (lt_or_ge part whole)
    where
      by : (part < whole) ⊎ (whole ≤ part) → r ≡ cond (ltb l k) whole (lesser whole (get_or got l 0))
      by (inl h) = let e : r ≡ part = omega arith in e ∙ share_less got k whole l from_k part_is h
      by (inr h) = let e : r ≡ whole = omega arith in e ∙ share_whole got k whole l from_k part_is h

pub loop-l-init : goal.loop-l-init
loop-l-init c = front _ _ _ (λ j x b. share_below c.args.got.now c.args.k x j b)

pub loop-l-preserved : goal.loop-l-preserved
loop-l-preserved c =
    let from_k = c.loop-l.auto.l in
    c.put.ensures ∙ remade_more _ _ _ _ _ c.loop-l.invariant (share_kept c.args.got.now c.args.k c.loop-l.l c.at.ensures (kept c.args.got.now c.args.k c.loop-l.l _ from_k c.at-in-loop-l.ensures c.min-kept.ensures))

pub returns : goal.returns
returns c = lowered_end _ _ _ _ (c.loop-l.auto.l-end (omega arith)) c.loop-l-test.false c.loop-l.invariant
