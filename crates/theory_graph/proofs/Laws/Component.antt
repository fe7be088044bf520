-- Component labels mean what they should: two vertices have the same label exactly if they are linked by the edges of the set.
-- Merging two components by one more edge keeps it so.
use Rattle.std.specs.Prelude.{ℕ, zero, suc, ◌<◌, ◌≡◌, refl, ◌⊎◌, ◌↔◌, Bool, true, false, ◌&&◌, cond, eqb, ltb}
use Rattle.std.proofs.Common.{ap, sym, ◌∙◌, subst, inl, inr, ⊎_elim, arith, eqb-true, eq-eqb, ne_eqb, lt-ltb, ltb-true}
use Rattle.std.proofs.lemmas.Bool.{false≢true, eqb-false}
use Rattle.base_finite.specs.Below.{memo}
use Rattle.base_finite.specs.Laws.Below.{memo_is, below_suc}
use Rattle.base_finite.specs.Laws.Test.{and_left, and_right, and_both, or_right}
use Rattle.theory_graph.specs.Path.{forth, back, Linked, here, step}
use Rattle.theory_graph.specs.Component.{merged, components}
use Rattle.theory_graph.proofs.Laws.Linked.{linked_trans, linked_sym, linked_mono, linked_ends}

-- Labels that are right for the edges of F, on the vertices of D.
pub record Labels (a b : ℕ → ℕ) (F : ℕ → Bool) (D : ℕ → Type 0) (label : ℕ → ℕ) : Type 0 where
  pub ends : (e : ℕ) → F e ≡ true → label (a e) ≡ label (b e)
  pub sound : (u v : ℕ) → D u → D v → label u ≡ label v → Linked a b F u v

pub linked_same_label : {a b : ℕ → ℕ} {F : ℕ → Bool} (label : ℕ → ℕ) → ((e : ℕ) → F e ≡ true → label (a e) ≡ label (b e)) →
    {u v : ℕ} → Linked a b F u v → label u ≡ label v
linked_same_label label h here = refl
linked_same_label label h (step e f (forth p q) r) = ap label (sym p) ∙ h e f ∙ ap label q ∙ linked_same_label label h r
linked_same_label label h (step e f (back p q) r) = ap label (sym p) ∙ sym (h e f) ∙ ap label q ∙ linked_same_label label h r

-- Equal labels exactly if linked.
pub labels_iff : {a b : ℕ → ℕ} {F : ℕ → Bool} {D : ℕ → Type 0} {label : ℕ → ℕ} → Labels a b F D label →
    (u v : ℕ) → D u → D v → (label u ≡ label v) ↔ Linked a b F u v
labels_iff {label = label} h u v du dv = (h.sound u v du dv, linked_same_label label h.ends)

-- ---- what merging does to a label

pub merged_in : (x y z : ℕ) (label : ℕ → ℕ) (v : ℕ) → (label v ≡ x) ⊎ (label v ≡ y) → merged x y z label v ≡ z
unfolding merged
merged_in x y z label v (inl e) = rw (eq-eqb (label v) x e)
merged_in x y z label v (inr e) = rw (or_right (eqb (label v) x) (eqb (label v) y) (eq-eqb (label v) y e))

pub merged_out : (x y z : ℕ) (label : ℕ → ℕ) (v : ℕ) → (label v ≡ x → ⊥) → (label v ≡ y → ⊥) → merged x y z label v ≡ label v
unfolding merged
merged_out x y z label v h k = rw (ne_eqb (label v) x h, ne_eqb (label v) y k)

-- Either of the two ways.
pub data Merging (x y z : ℕ) (label : ℕ → ℕ) (v : ℕ) : Type 0 where
  inside : (label v ≡ x) ⊎ (label v ≡ y) → merged x y z label v ≡ z → Merging x y z label v
  outside : (label v ≡ x → ⊥) → (label v ≡ y → ⊥) → merged x y z label v ≡ label v → Merging x y z label v

pub merging : (x y z : ℕ) (label : ℕ → ℕ) (v : ℕ) → Merging x y z label v
merging x y z label v = by (eqb (label v) x) (eqb (label v) y) refl refl
  where
    by : (s t : Bool) → eqb (label v) x ≡ s → eqb (label v) y ≡ t → Merging x y z label v
    by true t p q = let h : (label v ≡ x) ⊎ (label v ≡ y) = inl (eqb-true (label v) x p) in inside h (merged_in x y z label v h)
    by false true p q = let h : (label v ≡ x) ⊎ (label v ≡ y) = inr (eqb-true (label v) y q) in inside h (merged_in x y z label v h)
    by false false p q =
        outside (eqb-false (label v) x p) (eqb-false (label v) y q) (merged_out x y z label v (eqb-false (label v) x p) (eqb-false (label v) y q))

pub merged_cong : (x y z : ℕ) (label : ℕ → ℕ) (u v : ℕ) → label u ≡ label v → merged x y z label u ≡ merged x y z label v
unfolding merged
merged_cong x y z label u v h = rw h

-- ---- one more edge

module _ (a b : ℕ → ℕ) (F G : ℕ → Bool) (D : ℕ → Type 0) (label : ℕ → ℕ) (h : Labels a b F D label) (e z : ℕ)
    (more : (f : ℕ) → F f ≡ true → G f ≡ true) (new : G e ≡ true) (only : (f : ℕ) → G f ≡ true → (F f ≡ true) ⊎ (f ≡ e))
    (da : D (a e)) (db : D (b e))
    (fresh : (v : ℕ) → D v → label v ≡ z → (label v ≡ label (a e)) ⊎ (label v ≡ label (b e))) where
  to_end : (v : ℕ) → D v → (label v ≡ label (a e)) ⊎ (label v ≡ label (b e)) → Linked a b G v (a e)
  to_end v dv (inl p) = linked_mono more (h.sound v (a e) dv da p)
  to_end v dv (inr p) = linked_trans (linked_mono more (h.sound v (b e) dv db p)) (linked_sym (linked_ends e new))

  merged_sound : (u v : ℕ) → D u → D v →
      Merging (label (a e)) (label (b e)) z label u → Merging (label (a e)) (label (b e)) z label v →
      merged (label (a e)) (label (b e)) z label u ≡ merged (label (a e)) (label (b e)) z label v → Linked a b G u v
  merged_sound u v du dv (inside p i) (inside q j) k = linked_trans (to_end u du p) (linked_sym (to_end v dv q))
  merged_sound u v du dv (outside p p' i) (outside q q' j) k = linked_mono more (h.sound u v du dv (sym i ∙ k ∙ j))
  merged_sound u v du dv (inside p i) (outside q q' j) k = absurd (⊎_elim q q' (fresh v dv (sym j ∙ sym k ∙ i)))
  merged_sound u v du dv (outside p p' i) (inside q j) k = absurd (⊎_elim p p' (fresh u du (sym i ∙ k ∙ j)))

  pub labels_merged : Labels a b G D (merged (label (a e)) (label (b e)) z label)
  labels_merged =
      record {
        ends = λ f g.
            ⊎_elim
            (λ old. merged_cong (label (a e)) (label (b e)) z label (a f) (b f) (h.ends f old))
            (λ same.
            let l : ℕ → ℕ = merged (label (a e)) (label (b e)) z label in
            ap (λ k. l (a k)) same ∙ merged_in (label (a e)) (label (b e)) z label (a e) (inl refl)
            ∙ sym (merged_in (label (a e)) (label (b e)) z label (b e) (inr refl)) ∙ ap (λ k. l (b k)) (sym same))
            (only f g);
        sound = λ u v du dv k.
            merged_sound u v du dv (merging (label (a e)) (label (b e)) z label u) (merging (label (a e)) (label (b e)) z label v) k;
      }

-- Labels that agree everywhere are as right.
pub labels_cong : {a b : ℕ → ℕ} {F G : ℕ → Bool} {D : ℕ → Type 0} {label other : ℕ → ℕ} →
    ((e : ℕ) → F e ≡ G e) → ((v : ℕ) → other v ≡ label v) → Labels a b F D label → Labels a b G D other
labels_cong {a} {b} same is h =
    record {
      ends = λ e g. is (a e) ∙ h.ends e (same e ∙ g) ∙ sym (is (b e));
      sound = λ u v du dv k. linked_mono (λ e f. sym (same e) ∙ f) (h.sound u v du dv (sym (is u) ∙ k ∙ is v));
    }

-- ---- the labels that `components` computes

-- The edges of F below m.
abbrev pub below : (ℕ → Bool) → ℕ → ℕ → Bool
below F m e = ltb e m && F e

abbrev pub Everywhere : ℕ → Type 0
Everywhere v = Unit {0}

below_more : (F : ℕ → Bool) (m f : ℕ) → below F m f ≡ true → below F (suc m) f ≡ true
below_more F m f h =
    let b : f < m = ltb-true f m (and_left (ltb f m) (F f) h) in
    and_both (ltb f (suc m)) (F f) (lt-ltb f (suc m) (omega arith)) (and_right (ltb f m) (F f) h)

below_only : (F : ℕ → Bool) (m f : ℕ) → below F (suc m) f ≡ true → (below F m f ≡ true) ⊎ (f ≡ m)
below_only F m f h =
    ⊎_elim
    (λ b. inl (and_both (ltb f m) (F f) (lt-ltb f m b) (and_right (ltb f (suc m)) (F f) h)))
    inr
    (below_suc f m (ltb-true f (suc m) (and_left (ltb f (suc m)) (F f) h)))

pub components_right : (n : ℕ) (a b : ℕ → ℕ) (F : ℕ → Bool) (m : ℕ) → Labels a b (below F m) Everywhere (components n a b F m)
unfolding components
components_right n a b F zero =
    record {
      ends = λ e h. absurd (let k : e < 0 = ltb-true e 0 (and_left (ltb e 0) (F e) h) in omega arith);
      sound = λ u v du dv h. subst (λ w. Linked a b (below F 0) u w) h here;
    }
components_right n a b F (suc m) = by (components_right n a b F m) (F m) refl
  where
    L : ℕ → ℕ
    L = components n a b F m

    by : Labels a b (below F m) Everywhere (components n a b F m) → (t : Bool) → F m ≡ t →
        Labels a b (below F (suc m)) Everywhere
        (cond (F m) (memo n (merged (components n a b F m (a m)) (components n a b F m (b m)) (components n a b F m (a m)) (components n a b F m)))
        (components n a b F m))
    by h true p =
        rw p
        (labels_cong (λ e. refl) (memo_is n (merged (L (a m)) (L (b m)) (L (a m)) L))
        (labels_merged a b (below F m) (below F (suc m)) Everywhere L h m (L (a m)) (below_more F m)
        (and_both (ltb m (suc m)) (F m) (lt-ltb m (suc m) (omega arith)) p) (below_only F m) tt tt (λ v d k. inl k)))
    by h false p =
        rw p
        (record {
          ends = λ e k. ⊎_elim (h.ends e) (λ same. absurd (false≢true (sym p ∙ ap F (sym same) ∙ and_right (ltb e (suc m)) (F e) k))) (below_only F m e k);
          sound = λ u v du dv k. linked_mono (below_more F m) (h.sound u v du dv k);
        })

-- Two vertices have the same label exactly if the edges of F below m link them.
pub components_iff : (n : ℕ) (a b : ℕ → ℕ) (F : ℕ → Bool) (m u v : ℕ) →
    (components n a b F m u ≡ components n a b F m v) ↔ Linked a b (below F m) u v
components_iff n a b F m u v = labels_iff (components_right n a b F m) u v tt tt

-- Only the edges below m matter.
pub components_cong : (n : ℕ) (a b : ℕ → ℕ) (F G : ℕ → Bool) (m : ℕ) → ((e : ℕ) → e < m → F e ≡ G e) → components n a b F m ≡ components n a b G m
unfolding components
components_cong n a b F G zero h = refl
components_cong n a b F G (suc m) h = rw (h m (omega arith), components_cong n a b F G m (λ e k. h e (omega arith)))
