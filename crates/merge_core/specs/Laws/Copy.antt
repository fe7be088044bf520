-- Entries of a list that is stored with each entry changed, as they are read one by one. The loops that write cite it.
use Rattle.std.specs.Prelude.{ℕ, ◌≤◌, ◌<◌, ◌≡◌, List, map, length, get_or, take}
use Rattle.std.proofs.Common.{arith, ap, sym, ◌∙◌, length-take-le, get_or-take}
use Rattle.std.proofs.lemmas.List.{length-map}
use Rattle.base_finite.specs.Below.{tabulate}
use Rattle.base_finite.specs.Laws.Below.{length_tabulate, get_d_tabulate}
use Rattle.merge_rule.proofs.Laws.Those.{get_d_map_below}

module _ (f : ℕ → ℕ) (list : List ℕ) {i : ℕ} where
  pub mapped_below : i < length list → i < length (map f list)
  mapped_below b = omega (arith, length-map list f)

  pub mapped_end : length list ≤ i → length (map f list) ≤ i
  mapped_end b = omega (arith, length-map list f)

-- The place of entry i.
pub mapped_read : (places list : List ℕ) {i x y z : ℕ} → i < length list → x ≡ get_or list i 0 → y ≡ x → z ≡ get_or places y 0
    → z ≡ get_or (map (λ v. get_or places v 0) list) i 0
mapped_read places list {i} b x_is y_is z_is =
    z_is ∙ ap (λ (k : ℕ). get_or places k 0) (y_is ∙ x_is) ∙ sym (get_d_map_below (λ v. get_or places v 0) list i b)

-- The same of the first `count` entries.
module _ (f : ℕ → ℕ) (list : List ℕ) {count : ℕ} (few : count ≤ length list) where
  part_long : length (map f (take count list)) ≡ count
  part_long = length-map (take count list) f ∙ length-take-le count list few

  pub part_below : {i : ℕ} → i < count → i < length (map f (take count list))
  part_below b = omega (arith, part_long)

  pub part_end_law : {i : ℕ} → count ≤ i → length (map f (take count list)) ≤ i
  part_end_law b = omega (arith, part_long)

  pub part_read : {i : ℕ} → i < count → {x y : ℕ} → x ≡ get_or list i 0 → y ≡ x → f y ≡ get_or (map f (take count list)) i 0
  part_read {i} b {x} {y} x_is y_is =
      ap f (y_is ∙ x_is ∙ sym (get_or-take count list i 0 b))
      ∙ sym (get_d_map_below f (take count list) i (omega (arith, length-take-le count list few)))

-- And of a table.
module _ (n : ℕ) (f : ℕ → ℕ) where
  pub table_below : {i : ℕ} → i < n → i < length (tabulate n f)
  table_below b = omega (arith, length_tabulate n f)

  pub table_end : {i : ℕ} → n ≤ i → length (tabulate n f) ≤ i
  table_end b = omega (arith, length_tabulate n f)

  pub table_read : {i : ℕ} → i < n → {x : ℕ} → x ≡ f i → x ≡ get_or (tabulate n f) i 0
  table_read {i} b x_is = x_is ∙ sym (get_d_tabulate n f i 0 b)
