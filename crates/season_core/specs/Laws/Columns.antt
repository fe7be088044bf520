-- Products by halves of 32 bits: the columns make the product, their sums have 64 bits, and two products are compared
-- word by word.
use Rattle.std.specs.Prelude.{ℕ, ◌+◌, ◌*◌, ◌/◌, ◌%◌, ◌^◌, ◌≤◌, ◌<◌, ◌≡◌, refl, Bool, true, false, ltb}
use Rattle.std.proofs.Common.{arith, mul-le-mul, ap₂, sym, ◌∙◌, lt-ltb, le-ltb, ltb-true, ltb-false}

abbrev half : ℕ
half = 4294967296

pub product_le : (x y : ℕ) → x < half → y < half → x * y ≤ 4294967295 * 4294967295
product_le x y h k = mul-le-mul {n₁ = x} {m₁ = y} {n₂ = 4294967295} {m₂ = 4294967295} (omega arith) (omega arith)

module _ (x₁ x₀ y₁ y₀ : ℕ) where
  abbrev pub w₀ : ℕ
  w₀ = x₀ * y₀

  abbrev pub t : ℕ
  t = x₁ * y₀ + x₀ * y₀ / half

  abbrev pub w₁ : ℕ
  w₁ = x₀ * y₁ + (x₁ * y₀ + x₀ * y₀ / half) % half

  pub columns : (x₁ * y₁ + t / half + w₁ / half) * 2 ^ 64 + (w₁ % half * half + w₀ % half) ≡ (half * x₁ + x₀) * (half * y₁ + y₀)
  columns = omega arith

-- And of whole numbers.
pub whole : (a b : ℕ) → (half * (a / half) + a % half) * (half * (b / half) + b % half) ≡ a * b
whole a b =
    let p : half * (a / half) + a % half ≡ a = omega arith in
    let q : half * (b / half) + b % half ≡ b = omega arith in
    ap₂ (λ x y. x * y) p q

-- Compared column by column.
module _ (x₁ x₀ y₁ y₀ : ℕ) (p : x₀ < 2 ^ 64) (q : y₀ < 2 ^ 64) {x y : ℕ} (xs : x₁ * 2 ^ 64 + x₀ ≡ x) (ys : y₁ * 2 ^ 64 + y₀ ≡ y) where
  pub high_above : y₁ < x₁ → true ≡ ltb y x
  high_above h = sym (lt-ltb y x (omega arith))

  pub high_below : x₁ < y₁ → false ≡ ltb y x
  high_below h = sym (le-ltb y x (omega arith))

  pub same_high : x₁ ≤ y₁ → y₁ ≤ x₁ → ltb y₀ x₀ ≡ ltb y x
  same_high h k = by (ltb y₀ x₀) refl
    where
      by : (b : Bool) → ltb y₀ x₀ ≡ b → ltb y₀ x₀ ≡ ltb y x
      by true e = let l = ltb-true y₀ x₀ e in e ∙ sym (lt-ltb y x (omega arith))
      by false e = let l = ltb-false y₀ x₀ e in e ∙ sym (le-ltb y x (omega arith))

-- The sums of the columns have 64 bits.
module _ (a b : ℕ) (h : a < 2 ^ 64) (k : b < 2 ^ 64) where
  abbrev pub top : ℕ
  top = a / half * (b / half) + t (a / half) (a % half) (b / half) (b % half) / half

  pub high_fits : top + w₁ (a / half) (a % half) (b / half) (b % half) / half < 2 ^ 64
  high_fits =
      omega (
        arith,
        product_le (a / half) (b / half) (omega arith) (omega arith),
        product_le (a / half) (b % half) (omega arith) (omega arith),
        product_le (a % half) (b % half) (omega arith) (omega arith),
        product_le (a % half) (b / half) (omega arith) (omega arith),
      )

  pub top_fits : top < 2 ^ 64
  top_fits =
      omega (
        arith,
        product_le (a / half) (b / half) (omega arith) (omega arith),
        product_le (a / half) (b % half) (omega arith) (omega arith),
        product_le (a % half) (b % half) (omega arith) (omega arith),
      )

  pub t_fits : t (a / half) (a % half) (b / half) (b % half) < 2 ^ 64
  t_fits = omega (arith, product_le (a / half) (b % half) (omega arith) (omega arith), product_le (a % half) (b % half) (omega arith) (omega arith))

  pub w_fits : w₁ (a / half) (a % half) (b / half) (b % half) < 2 ^ 64
  w_fits = omega (arith, product_le (a % half) (b / half) (omega arith) (omega arith))
