-- What is free, and one turn of the loop over the digits of a number.
use Rattle.std.specs.Prelude.{ℕ, zero, suc, ◌-◌, ◌/◌, ◌≤◌, ◌<◌, Bool, true, false, List, ◌≡◌, eqb, get_or}
use Rattle.std.proofs.Common.{arith}
use Rattle.std.proofs.Math.Path.{refl}
use borrow.Author.Tests.{eq-eqb, ne_eqb, le-leb, lt-leb}
use Rattle.format_stp.specs.StpNumber.{is_free, leads_to, reaches}

-- ---- what is free

module _ (groups : List ℕ) (low high x : ℕ) where
  pub free_low : x < low → is_free groups low high x ≡ false
  unfolding is_free
  free_low h = rw (lt-leb low x h) refl

  pub free_high : low ≤ x → high < x → is_free groups low high x ≡ false
  unfolding is_free
  free_high h k = rw (le-leb low x h, lt-leb x high k) refl

  pub free_within : low ≤ x → x ≤ high → is_free groups low high x ≡ eqb (get_or groups (x - 1) 0) 0
  unfolding is_free
  free_within h k = rw (le-leb low x h, le-leb x high k) refl

-- ---- the digits that lead to a number

pub leads_there : (more x v : ℕ) → 0 < more → x ≡ v → leads_to more x v ≡ true
unfolding leads_to
leads_there zero x v h e = absurd (omega arith)
leads_there (suc more) x v h e = rw (eq-eqb x v e) refl

pub leads_on_law : (more x v : ℕ) → 0 < more → (x ≡ v → ⊥) → leads_to more x v ≡ leads_to (more - 1) x (v / 10)
unfolding leads_to
leads_on_law zero x v h n = absurd (omega arith)
leads_on_law (suc more) x v h n = let z : suc more - 1 ≡ more = omega arith in rw (ne_eqb x v n, z) refl

pub leads_last : (more x v : ℕ) → more ≤ 0 → leads_to more x v ≡ eqb x v
unfolding leads_to
leads_last zero x v h = refl
leads_last (suc more) x v h = absurd (omega arith)

module _ (free : ℕ → Bool) (more x v : ℕ) where
  pub reach_free : free v ≡ true → reaches free more x v ≡ leads_to more x v
  unfolding reaches
  reach_free f = rw f refl

  pub reach_none : free v ≡ false → reaches free more x v ≡ false
  unfolding reaches
  reach_none f = rw f refl
