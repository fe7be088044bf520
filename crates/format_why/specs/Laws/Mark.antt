-- What stands behind the mark, by cases.
use Rattle.std.specs.Prelude.{ℕ, ◌≡◌, List, []}
use borrow.Author.Tests.{eq-eqb, ne_eqb}
use Rattle.std.proofs.Common.{arith}
use Rattle.format_write.specs.Key.{round_key}
use Rattle.format_write.specs.Text.{line_of}
use Rattle.format_why.specs.ReasonText.{kept_text, mark_text}

module _ (mark group low high round : ℕ) (route : List ℕ) where
  pub mark_kept : mark ≡ 2 → kept_text group low high route ≡ mark_text mark group low high round route
  unfolding mark_text
  mark_kept h = rw (eq-eqb mark 2 h)

  pub mark_unpicked : mark ≡ 0 → line_of round_key round ≡ mark_text mark group low high round route
  unfolding mark_text
  mark_unpicked h = rw (ne_eqb mark 2 (λ k. omega arith), eq-eqb mark 0 h)

  pub mark_other : (mark ≡ 2 → ⊥) → (mark ≡ 0 → ⊥) → [] ≡ mark_text mark group low high round route
  unfolding mark_text
  mark_other h k = rw (ne_eqb mark 2 h, ne_eqb mark 0 k)
