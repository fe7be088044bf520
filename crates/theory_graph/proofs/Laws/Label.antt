-- Component labels as numbers: they are labels of vertices, so they stay below a bound of these, and a vertex that no edge touches keeps its own.
use Prim.Native.Nat.{ℕ, zero, suc, ◌<◌}
use Rattle.std.proofs.Common.{arith, sym, ◌∙◌, ⊎_elim, ltb-true}
use Rattle.std.specs.Prelude.{◌≡◌, Bool, true, false, ltb}
use Rattle.std.proofs.Math.Path.{refl}
use Rattle.base_finite.specs.Laws.Below.{memo_is}
use Rattle.base_finite.specs.Laws.Test.{and_left}
use Rattle.theory_graph.specs.Path.{forth, back, Linked, here, step}
use Rattle.theory_graph.specs.Component.{merged, components}
use Rattle.theory_graph.proofs.Laws.Component.{below, components_iff, Merging, inside, outside, merging}

module _ (n : ℕ) (a b : ℕ → ℕ) (F : ℕ → Bool) where
  abbrev L : ℕ → ℕ → ℕ
  L m = components n a b F m

  -- The label of v after one more edge, by whether it is in the set.
  label_left : (e v : ℕ) → F e ≡ false → L (suc e) v ≡ L e v
  unfolding components
  label_left e v f = rw f

  label_merged : (e v : ℕ) → F e ≡ true → L (suc e) v ≡ merged (L e (a e)) (L e (b e)) (L e (a e)) (L e) v
  unfolding components
  label_merged e v f = rw f (memo_is n (merged (L e (a e)) (L e (b e)) (L e (a e)) (L e)) v)

  -- ---- a bound

  pub label_below_law : (N m : ℕ) → ((e : ℕ) → e < m → a e < N) → (v : ℕ) → v < N → L m v < N
  unfolding components
  label_below_law N zero ends v h = h
  label_below_law N (suc e) ends v h = by (F e) refl (label_below_law N e (λ f c. ends f (omega arith)))
    where
      met : ((w : ℕ) → w < N → L e w < N) → Merging (L e (a e)) (L e (b e)) (L e (a e)) (L e) v → merged (L e (a e)) (L e (b e)) (L e (a e)) (L e) v < N
      met ih (inside p i) = rw i (ih (a e) (ends e (omega arith)))
      met ih (outside p p' i) = rw i (ih v h)

      by : (t : Bool) → F e ≡ t → ((w : ℕ) → w < N → L e w < N) → L (suc e) v < N
      by true f ih = rw (label_merged e v f) (met ih (merging (L e (a e)) (L e (b e)) (L e (a e)) (L e) v))
      by false f ih = rw (label_left e v f) (ih v h)

  -- ---- a vertex that no edge touches

  -- Of the edges below m none has an end at x.
  abbrev Untouched : (m x : ℕ) → Type 0
  Untouched m x = (e : ℕ) → e < m → ((a e ≡ x → ⊥) × (b e ≡ x → ⊥))

  stays_alone : (m x : ℕ) → Untouched m x → {w : ℕ} → Linked a b (below F m) x w → x ≡ w
  stays_alone m x alone here = refl
  stays_alone m x alone (step e f (forth p q) r) = absurd ((alone e (ltb-true e m (and_left (ltb e m) (F e) f))).0 p)
  stays_alone m x alone (step e f (back p q) r) = absurd ((alone e (ltb-true e m (and_left (ltb e m) (F e) f))).1 p)

  pub untouched_label : (m x : ℕ) → Untouched m x → L m x ≡ x
  unfolding components
  untouched_label zero x alone = refl
  untouched_label (suc e) x alone = by (F e) refl (untouched_label e x before)
    where
      before : Untouched e x
      before f c = alone f (omega arith)

      apart : (w : ℕ) → (w ≡ x → ⊥) → L e x ≡ L e w → ⊥
      apart w other same = other (sym (stays_alone e x before ((components_iff n a b F e x w).0 same)))

      met : L e x ≡ x → Merging (L e (a e)) (L e (b e)) (L e (a e)) (L e) x → merged (L e (a e)) (L e (b e)) (L e (a e)) (L e) x ≡ x
      met ih (inside p i) = absurd (⊎_elim (apart (a e) (alone e (omega arith)).0) (apart (b e) (alone e (omega arith)).1) p)
      met ih (outside p p' i) = i ∙ ih

      by : (t : Bool) → F e ≡ t → L e x ≡ x → L (suc e) x ≡ x
      by true f ih = label_merged e x f ∙ met ih (merging (L e (a e)) (L e (b e)) (L e (a e)) (L e) x)
      by false f ih = label_left e x f ∙ ih
