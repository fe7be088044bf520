-- The line of a track by cases, and by the numbers that are read.
use Rattle.std.specs.Prelude.{ℕ, ◌+◌, ◌*◌, ◌<◌, ◌≡◌, get_or}
use Rattle.std.proofs.Math.Path.{ap}
use Rattle.std.proofs.Common.{sym, ◌∙◌, arith, eq-eqb, ne_eqb}
use Rattle.std.proofs.Math.Bool.{cond}
use mathlib.Core.List.{List, ◌++◌, append_assoc}
use Rattle.format_write.specs.Key.{comma}
use Rattle.format_read.specs.Number.{number_text}
use Rattle.format_print.specs.RowText.{closed_key, refused_word, pair_text, row_text, row_line}

module _ (track number place cost bound : ℕ) where
  pub row_planned : number ≡ 0 → (closed_key ++ number_text comma track) ++ pair_text cost bound ≡ row_text track number place cost bound
  unfolding row_text
  row_planned h =
      ap (λ t. (closed_key ++ number_text comma track) ++ cond t (pair_text cost bound) (refused_word ++ pair_text number place)) (sym (eq-eqb number 0 h))

  pub row_refused : 0 < number
      → ((closed_key ++ number_text comma track) ++ refused_word) ++ pair_text number place ≡ row_text track number place cost bound
  unfolding row_text
  row_refused h =
      append_assoc (closed_key ++ number_text comma track) refused_word (pair_text number place)
      ∙ ap (λ t. (closed_key ++ number_text comma track) ++ cond t (pair_text cost bound) (refused_word ++ pair_text number place))
      (sym (ne_eqb number 0 (λ e. omega arith)))

-- By what was read of the list and the result.
pub row_read : (tracks result : List ℕ) (i : ℕ) {t n p x b : ℕ} → t ≡ get_or tracks i 0 → n ≡ get_or result (4 * i) 0 → p ≡ get_or result (4 * i + 1) 0
    → x ≡ get_or result (4 * i + 2) 0 → b ≡ get_or result (4 * i + 3) 0 → row_text t n p x b ≡ row_line tracks result i
unfolding row_line
row_read tracks result i h j k l m = rw (h, j, k, l, m)
