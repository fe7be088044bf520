-- Labels in a buffer are the component labels of the definition: relabelling the buffer is `merged`, and joining edge by edge is
-- `components`. Whatever labels components uses it: refusals, pouring, growth, cuts.
use Prim.Native.Nat.{ℕ, zero, suc, ◌+◌, ◌<◌, ◌≤◌}
use Rattle.std.proofs.Common.{arith, add-one, ap, sym, ◌∙◌, inl, inr, eqb-true}
use Rattle.std.specs.Prelude.{◌≡◌, ◌⊎◌, Bool, true, false, ◌||◌, cond, List, length, get_or, eqb}
use Rattle.std.proofs.Math.Path.{refl}
use Rattle.base_finite.specs.Below.{tabulate, memo}
use Rattle.base_finite.specs.Laws.Below.{memo_is, length_tabulate, get_d_tabulate}
use Rattle.base_finite.specs.Laws.Test.{either}
use Rattle.theory_graph.specs.Component.{merged, components}
use Rattle.survey_components.specs.Buffer.{relabelled, ends_joined}
use Rattle.base_buffer.proofs.Laws.Store.{remade_table, tabulate_cong}

-- Relabelling a table of labels.
pub relabelled_table : (x y z n : ℕ) (label : ℕ → ℕ) {labels : List ℕ} → labels ≡ tabulate n label → relabelled x y z labels ≡ tabulate n (merged x y z label)
unfolding relabelled merged
relabelled_table x y z n label {labels} h =
    let long : length labels ≡ n = ap length h ∙ length_tabulate n label in
    rw
    long
    (remade_table
    (λ v. merged x y z (λ l. l))
    n
    labels
    (merged x y z label)
    long
    (λ v b. ap (merged x y z (λ l. l)) (ap (λ t. get_or t v 0) h ∙ get_d_tabulate n label v 0 b)))

pub merged_one : (x v : ℕ) → merged x x x (λ l. l) v ≡ v
unfolding merged
merged_one x v = by (eqb v x) refl
  where
    by : (t : Bool) → eqb v x ≡ t → cond (t || t) x v ≡ v
    by true h = sym (eqb-true v x h)
    by false h = refl

merged_same : (x y z : ℕ) (f g : ℕ → ℕ) (v : ℕ) → f v ≡ g v → merged x y z f v ≡ merged x y z g v
unfolding merged
merged_same x y z f g v h = rw h

module _ (n : ℕ) (a b : ℕ → ℕ) (F : ℕ → Bool) where
  pub components_suc : (e v : ℕ) → components n a b F (suc e) v
      ≡ cond (F e) (merged (components n a b F e (a e)) (components n a b F e (b e)) (components n a b F e (a e)) (components n a b F e) v) (components n a b F e v)
  unfolding components
  components_suc e v = by (either (F e))
    where
      label : ℕ → ℕ
      label = components n a b F e

      new : ℕ → ℕ
      new = merged (label (a e)) (label (b e)) (label (a e)) label

      by : (F e ≡ true) ⊎ (F e ≡ false) → (cond (F e) (memo n new) label) v ≡ cond (F e) (new v) (label v)
      by (inl h) = rw h (memo_is n new v)
      by (inr h) = rw h

  -- One more edge.
  pub components_more : (N e : ℕ) {labels after : List ℕ} → a e < N → b e < N → labels ≡ tabulate N (components n a b F e)
      → after ≡ cond (F e) (ends_joined (a e) (b e) labels) labels → after ≡ tabulate N (components n a b F (e + 1))
  unfolding ends_joined
  components_more N e {labels} {after} ab bb h k =
      k ∙ rw (add-one e) (by (either (F e)))
    where
      label : ℕ → ℕ
      label = components n a b F e

      at : (v : ℕ) → v < N → get_or labels v 0 ≡ label v
      at v c = ap (λ t. get_or t v 0) h ∙ get_d_tabulate N label v 0 c

      by : (F e ≡ true) ⊎ (F e ≡ false)
          → cond (F e) (relabelled (get_or labels (a e) 0) (get_or labels (b e) 0) (get_or labels (a e) 0) labels) labels ≡ tabulate N (components n a b F (suc e))
      by (inl f) =
          rw
          (f, at (a e) ab, at (b e) bb)
          (relabelled_table (label (a e)) (label (b e)) (label (a e)) N label h
          ∙ tabulate_cong
          N
          (merged (label (a e)) (label (b e)) (label (a e)) label)
          (components n a b F (suc e))
          (λ v c. sym (components_suc e v ∙ rw f)))
      by (inr f) = rw f (h ∙ tabulate_cong N label (components n a b F (suc e)) (λ v c. sym (components_suc e v ∙ rw f)))

  pub components_none : (N : ℕ) → tabulate N (λ v. v) ≡ tabulate N (components n a b F 0)
  unfolding components
  components_none N = refl

  pub components_end : (N m e : ℕ) → e ≤ m → m ≤ e → tabulate N (components n a b F e) ≡ tabulate N (components n a b F m)
  components_end N m e h k = let q : e ≡ m = omega arith in rw q

-- How many labels are stored does not matter.
pub components_stored : (n k : ℕ) (a b : ℕ → ℕ) (F : ℕ → Bool) (m v : ℕ) → components n a b F m v ≡ components k a b F m v
unfolding components
components_stored n k a b F zero v = refl
components_stored n k a b F (suc e) v =
    components_suc n a b F e v
    ∙ same (components_stored n k a b F e (a e)) (components_stored n k a b F e (b e)) (components_stored n k a b F e v)
    ∙ sym (components_suc k a b F e v)
  where
    old : ℕ → ℕ
    old = components n a b F e

    new : ℕ → ℕ
    new = components k a b F e

    same : old (a e) ≡ new (a e) → old (b e) ≡ new (b e) → old v ≡ new v
        → cond (F e) (merged (old (a e)) (old (b e)) (old (a e)) old v) (old v) ≡ cond (F e) (merged (new (a e)) (new (b e)) (new (a e)) new v) (new v)
    same p q r = rw (p, q, r) (ap (λ t. cond (F e) t (new v)) (merged_same (new (a e)) (new (b e)) (new (a e)) old new v r))
