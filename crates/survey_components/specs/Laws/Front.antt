-- Edges with ends below n leave the vertices from n on as they are, so a buffer is labelled by labelling its first n places. Labels of all
-- vertices that a survey can have use it.
use Prim.Native.Nat.{ℕ, zero, suc, ◌+◌, ◌-◌, ◌<◌, ◌≤◌}
use Rattle.std.proofs.Common.{arith, ap, sym, ◌∙◌, take-append-drop, length-drop, ext_get_or, length-take-le, get_or-take, get_or-drop}
use Rattle.std.proofs.Math.Nat.{sub-zero}
use Rattle.std.specs.Prelude.{◌≡◌, Bool, true, false, ◌||◌, cond, List, ◌++◌, length, take, drop, eqb}
use Rattle.std.proofs.Math.Path.{refl, subst}
use Rattle.base_finite.specs.Below.{tabulate}
use Rattle.base_finite.specs.Laws.Below.{length_tabulate, get_d_tabulate}
use Rattle.theory_graph.specs.Component.{merged, components}
use Rattle.theory_graph.proofs.Laws.Component.{merged_out}
use Rattle.survey_components.specs.Buffer.{EndsWithin}
use Rattle.survey_components.specs.Laws.Buffer.{components_suc}

cond_below : (t : Bool) {n x y : ℕ} → x < n → y < n → cond t x y < n
cond_below true h k = h
cond_below false h k = k

cond_same : (t : Bool) {x y z : ℕ} → x ≡ z → y ≡ z → cond t x y ≡ z
cond_same true h k = h
cond_same false h k = k

merged_below : (x y z n : ℕ) (label : ℕ → ℕ) (v : ℕ) → z < n → label v < n → merged x y z label v < n
unfolding merged
merged_below x y z n label v h k = cond_below (eqb (label v) x || eqb (label v) y) h k

fewer : {n m : ℕ} {a b : ℕ → ℕ} → EndsWithin n (suc m) a b → EndsWithin n m a b
fewer h = record { first_within = λ e l. h.first_within e (omega arith); second_within = λ e l. h.second_within e (omega arith) }

module _ (k n : ℕ) (a b : ℕ → ℕ) (F : ℕ → Bool) where
  -- A vertex below n has a label below n.
  components_inside : (m : ℕ) → EndsWithin n m a b → (v : ℕ) → v < n → components k a b F m v < n
  unfolding components
  components_inside zero h v l = l
  components_inside (suc e) h v l =
      let old : ℕ → ℕ = components k a b F e in
      let first : old (a e) < n = components_inside e (fewer h) (a e) (h.first_within e (omega arith)) in
      let own : old v < n = components_inside e (fewer h) v l in
      subst (λ t. t < n) (sym (components_suc k a b F e v))
      (cond_below (F e) (merged_below (old (a e)) (old (b e)) (old (a e)) n old v first own) own)

  -- One from n on has its own.
  pub components_outside : (m : ℕ) → EndsWithin n m a b → (v : ℕ) → n ≤ v → components k a b F m v ≡ v
  unfolding components
  components_outside zero h v l = refl
  components_outside (suc e) h v l =
      let old : ℕ → ℕ = components k a b F e in
      let first : old (a e) < n = components_inside e (fewer h) (a e) (h.first_within e (omega arith)) in
      let second : old (b e) < n = components_inside e (fewer h) (b e) (h.second_within e (omega arith)) in
      let own : old v ≡ v = components_outside e (fewer h) v l in
      components_suc k a b F e v
      ∙ cond_same (F e) (merged_out (old (a e)) (old (b e)) (old (a e)) old v (λ q. omega arith) (λ q. omega arith) ∙ own) own

-- The first n places of a table.
pub table_front : (n N : ℕ) (f : ℕ → ℕ) {l : List ℕ} → n ≤ N → l ≡ tabulate N f → take (n - 0) l ≡ tabulate n f
table_front n N f {l} fits h =
    let long : length (take n (tabulate N f)) ≡ n = length-take-le n (tabulate N f) (rw (length_tabulate N f) fits) in
    rw (sub-zero n, h)
    (ext_get_or 0 (take n (tabulate N f)) (tabulate n f) (long ∙ sym (length_tabulate n f))
    (λ v b.
    let c : v < n = omega arith in
    get_or-take n (tabulate N f) v 0 c ∙ get_d_tabulate N f v 0 (omega arith) ∙ sym (get_d_tabulate n f v 0 c)))

-- The places behind them.
table_rest : (n N : ℕ) (f g : ℕ → ℕ) → ((v : ℕ) → n ≤ v → f v ≡ g v) → drop n (tabulate N f) ≡ drop n (tabulate N g)
table_rest n N f g same =
    let long : length (drop n (tabulate N f)) ≡ N - n = length-drop n (tabulate N f) ∙ ap (λ t. t - n) (length_tabulate N f) in
    ext_get_or 0 (drop n (tabulate N f)) (drop n (tabulate N g))
    (long ∙ sym (length-drop n (tabulate N g) ∙ ap (λ t. t - n) (length_tabulate N g)))
    (λ v b.
    get_or-drop n (tabulate N f) v 0
    ∙ get_d_tabulate N f (n + v) 0 (omega arith)
    ∙ same (n + v) (omega arith)
    ∙ sym (get_or-drop n (tabulate N g) v 0 ∙ get_d_tabulate N g (n + v) 0 (omega arith)))

-- A table whose first n places get other numbers.
pub table_front_changed : (n N : ℕ) (f g : ℕ → ℕ) {l front : List ℕ} → n ≤ N → l ≡ tabulate N f → ((v : ℕ) → n ≤ v → f v ≡ g v)
    → front ≡ tabulate n g → front ++ drop (n - 0) l ≡ tabulate N g
table_front_changed n N f g {l} {front} fits h same k =
    rw (sub-zero n, h, k, table_rest n N f g same)
    (ap (λ t. t ++ drop n (tabulate N g)) (sym (table_front n N g fits refl) ∙ ap (λ i. take i (tabulate N g)) (sub-zero n))
    ∙ take-append-drop n (tabulate N g))
