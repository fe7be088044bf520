-- Trees of component numbers: the root above a number is the component that it is in (`climb_rising`), and stays so when one more component arises
-- (`one_more_law`). The replay's laws use them.
use Prim.Native.Nat.{ℕ, zero, suc, ◌+◌, ◌<◌, ◌≤◌}
use Rattle.std.proofs.Common.{arith, ap, sym, ◌∙◌, inl, ⊎_elim, length-set, get_or-set_same, get_or-set_other, eqb-true}
use Rattle.std.proofs.Math.Decide.{ℕ_discrete}
use Rattle.std.specs.Prelude.{◌≡◌, refl, ◌⊎◌, true, false, cond, length, eqb}
use Rattle.std.proofs.Math.Logic.{inr}
use mathlib.Core.List.{List}
use Rattle.std.proofs.Math.ListN.{get_or, set}
use Rattle.std.proofs.lemmas.Bool.{eqb-false}
use Rattle.base_finite.specs.Laws.Test.{either}
use Rattle.survey_components.specs.Roots.{Climbed, climbed_to, climbed}
use Rattle.plan_draw.specs.Trace.{hung_on}

by_number : {A : Type 0} (u v : ℕ) → (u ≡ v → A) → ((u ≡ v → ⊥) → A) → A
by_number {A} u v f g = by (ℕ_discrete u v)
  where
    by : Dec (u ≡ v) → A
    by (yes q) = f q
    by (no n) = g n

set_here : (l : List ℕ) (v w u : ℕ) → v < length l → u ≡ v → get_or (set l v w) u 0 ≡ w
set_here l v w u b q = ap (λ t. get_or (set l v w) t 0) q ∙ get_or-set_same l v w 0 b

-- Each of the first m numbers is a root and its own label, or hangs on a higher one with the same label.
pub record Ascending (m : ℕ) (label : ℕ → ℕ) (ups : List ℕ) : Type 0 where
  pub fits : m ≤ length ups
  pub below : (v : ℕ) → v < m → get_or ups v 0 < m
  pub rises : (v : ℕ) → v < m → v ≤ get_or ups v 0
  pub same : (v : ℕ) → v < m → label (get_or ups v 0) ≡ label v
  pub root : (v : ℕ) → v < m → get_or ups v 0 ≡ v → label v ≡ v

-- What a climb from x comes to.
pub record RootAbove (m : ℕ) (label : ℕ → ℕ) (x : ℕ) (before : List ℕ) (c : Climbed) : Type 0 where
  pub is : c.root ≡ label x
  pub root_below : c.root < m
  pub own : label c.root ≡ c.root
  pub rising : Ascending m label c.parents
  pub long : length c.parents ≡ length before

module _ (m : ℕ) (label : ℕ → ℕ) where
  -- A number may hang on any higher one with the same label.
  rehung : (p : List ℕ) → Ascending m label p → (v w : ℕ) → v < w → w < m → label w ≡ label v → Ascending m label (set p v w)
  rehung p h v w up bw is =
      record {
        fits = let l = length-set p v w in let f = h.fits in omega arith;
        below = λ u b. by_number u v (λ q. rw (here u q) bw) (λ n. rw (there u n) (h.below u b));
        rises = λ u b. by_number u v (λ q. rw (here u q) (omega arith)) (λ n. rw (there u n) (h.rises u b));
        same = λ u b. by_number u v (λ q. ap label (here u q) ∙ is ∙ ap label (sym q)) (λ n. ap label (there u n) ∙ h.same u b);
        root = λ u b t. by_number u v (λ q. absurd (moved u q t)) (λ n. h.root u b (sym (there u n) ∙ t));
      }
    where
      here : (u : ℕ) → u ≡ v → get_or (set p v w) u 0 ≡ w
      here u q = set_here p v w u (let f = h.fits in omega arith) q

      there : (u : ℕ) → (u ≡ v → ⊥) → get_or (set p v w) u 0 ≡ get_or p u 0
      there u n = get_or-set_other p v u w 0 n

      moved : (u : ℕ) → u ≡ v → get_or (set p v w) u 0 ≡ u → ⊥
      moved u q t = let e : w ≡ u = sym (here u q) ∙ t in omega arith

  pub climb_rising : (k : ℕ) (p : List ℕ) → Ascending m label p → (x : ℕ) → x < m → m ≤ x + k → RootAbove m label x p (climbed k p x)
  unfolding climbed
  climb_rising zero p h x b t = absurd (omega arith)
  climb_rising (suc k) p h x b t = by (λ hh bb tt. climb_rising k (set p x (get_or p (get_or p x 0) 0)) hh (get_or p (get_or p x 0) 0) bb tt) (either (eqb (get_or p x 0) x))
    where
      up : ℕ
      up = get_or p x 0

      above : ℕ
      above = get_or p up 0

      stays : get_or p x 0 ≡ x → RootAbove m label x p (climbed_to x p)
      stays q = let own = h.root x b q in record { is = sym own; root_below = b; own = own; rising = h; long = refl }

      higher : (get_or p x 0 ≡ x → ⊥) → x < above
      higher n = let one = h.rises x b in let two = h.rises up (h.below x b) in omega (arith, n)

      goes : RootAbove m label above (set p x above) (climbed k (set p x above) above) → RootAbove m label x p (climbed k (set p x above) above)
      goes f =
          record {
            is = f.is ∙ h.same up (h.below x b) ∙ h.same x b;
            root_below = f.root_below;
            own = f.own;
            rising = f.rising;
            long = f.long ∙ length-set p x above;
          }

      by : (Ascending m label (set p x above) → above < m → m ≤ above + k → RootAbove m label above (set p x above) (climbed k (set p x above) above))
          → (eqb (get_or p x 0) x ≡ true) ⊎ (eqb (get_or p x 0) x ≡ false)
          → RootAbove m label x p (cond (eqb (get_or p x 0) x) (climbed_to x p) (climbed k (set p x above) above))
      by rec (inl e) = rw e (stays (eqb-true (get_or p x 0) x e))
      by rec (inr e) =
          let l : x < above = higher (eqb-false (get_or p x 0) x e) in
          let b2 : above < m = h.below up (h.below x b) in
          rw e (goes (rec (rehung p h x above l b2 (h.same up (h.below x b) ∙ h.same x b)) b2 (omega arith)))

pub length_hung : (x y c : ℕ) (p : List ℕ) → length (hung_on x y c p) ≡ length p
unfolding hung_on
length_hung x y c p = length-set (set (set p x c) y c) c c ∙ length-set (set p x c) y c ∙ length-set p x c

-- Number c hangs on itself, and x and y on it; `next` is the label then.
module _ (c x y : ℕ) (label next : ℕ → ℕ) (p : List ℕ) (h : Ascending c label p) (room : c < length p) (bx : x ≤ c) (by : y ≤ c)
    (next_x : next x ≡ c) (next_y : next y ≡ c) (next_c : next c ≡ c) where
  -- A number that hangs on c.
  record Top (v : ℕ) : Type 0 where
    at : get_or (hung_on x y c p) v 0 ≡ c
    is : next v ≡ c
    few : v ≤ c

  -- Any other.
  record Still (v : ℕ) : Type 0 where
    at : get_or (hung_on x y c p) v 0 ≡ get_or p v 0
    not_x : v ≡ x → ⊥
    not_y : v ≡ y → ⊥
    not_c : v ≡ c → ⊥

  place : (v : ℕ) → Top v ⊎ Still v
  unfolding hung_on
  place v = by_number v c at_c (λ nc. by_number v y (at_y nc) (λ ny. by_number v x (at_x nc ny) (λ nx. inr (record { at = past_c nc ∙ past_y ny ∙ past_x nx; not_x = nx; not_y = ny; not_c = nc }))))
    where
      one : List ℕ
      one = set p x c

      two : List ℕ
      two = set one y c

      long_one : length one ≡ length p
      long_one = length-set p x c

      long_two : length two ≡ length p
      long_two = length-set one y c ∙ long_one

      past_c : (v ≡ c → ⊥) → get_or (set two c c) v 0 ≡ get_or two v 0
      past_c n = get_or-set_other two c v c 0 n

      past_y : (v ≡ y → ⊥) → get_or two v 0 ≡ get_or one v 0
      past_y n = get_or-set_other one y v c 0 n

      past_x : (v ≡ x → ⊥) → get_or one v 0 ≡ get_or p v 0
      past_x n = get_or-set_other p x v c 0 n

      at_c : v ≡ c → Top v ⊎ Still v
      at_c q = inl (record { at = set_here two c c v (omega (arith, long_two)) q; is = ap next q ∙ next_c; few = omega arith })

      at_y : (v ≡ c → ⊥) → v ≡ y → Top v ⊎ Still v
      at_y nc q = inl (record { at = past_c nc ∙ set_here one y c v (omega (arith, long_one)) q; is = ap next q ∙ next_y; few = omega arith })

      at_x : (v ≡ c → ⊥) → (v ≡ y → ⊥) → v ≡ x → Top v ⊎ Still v
      at_x nc ny q = inl (record { at = past_c nc ∙ past_y ny ∙ set_here p x c v (omega arith) q; is = ap next q ∙ next_x; few = omega arith })

  pub one_more_law : ((u v : ℕ) → label u ≡ label v → next u ≡ next v) → ((v : ℕ) → (v ≡ x → ⊥) → (v ≡ y → ⊥) → label v ≡ v → next v ≡ v)
      → Ascending (c + 1) next (hung_on x y c p)
  one_more_law joined kept =
      record {
        fits = omega (arith, length_hung x y c p);
        below = λ v b. ⊎_elim (λ t. rw t.at (omega arith)) (λ s. rw s.at (let d = h.below v (old v b s) in omega arith)) (place v);
        rises = λ v b. ⊎_elim (λ t. rw t.at t.few) (λ s. rw s.at (h.rises v (old v b s))) (place v);
        same = λ v b. ⊎_elim (λ t. ap next t.at ∙ next_c ∙ sym t.is) (λ s. ap next s.at ∙ joined (get_or p v 0) v (h.same v (old v b s))) (place v);
        root = λ v b e. ⊎_elim (λ t. t.is ∙ sym t.at ∙ e) (λ s. kept v s.not_x s.not_y (h.root v (old v b s) (sym s.at ∙ e))) (place v);
      }
    where
      old : (v : ℕ) → v < c + 1 → Still v → v < c
      old v b s = let n = s.not_c in omega (arith, n)
