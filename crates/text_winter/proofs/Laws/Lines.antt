-- Copies as they are printed, line by line.
use Rattle.std.specs.Prelude.{ℕ, ◌≤◌, ◌<◌, ◌≡◌, List, [], ◌∷◌, ◌++◌, get_or}
use Rattle.std.proofs.Common.{arith, ap, ◌∙◌, append_assoc, lt-ltb, le-ltb}
use Rattle.format_write.specs.Decimal.{decimal}
use Rattle.format_write.specs.Key.{comma, newline}
use Rattle.format_write.specs.Text.{listed}
use Rattle.text_winter.specs.Output.{copies_key, copies_line}

pub copied_line : (copies track : ℕ) → 1 ≤ copies
    → copies_key ++ decimal track ++ (comma ∷ []) ++ decimal copies ++ (newline ∷ []) ≡ copies_line copies track
unfolding copies_line listed
copied_line copies track h = let some : 0 < copies = omega arith in rw (lt-ltb 0 copies some) (simp append_assoc)

pub uncopied_line : (copies track : ℕ) → copies < 1 → [] ≡ copies_line copies track
unfolding copies_line
uncopied_line copies track h = let none : copies ≤ 0 = omega arith in rw (le-ltb 0 copies none)

-- The line of a track by the numbers that were read.
pub line_read : (copies : List ℕ) {x y e k : ℕ} → y ≡ x → x ≡ get_or copies e 0 → k ≡ e → copies_line y k ≡ copies_line (get_or copies e 0) e
line_read copies {x} {y} {e} {k} wide at same = ap (λ (n : ℕ). copies_line n k) (wide ∙ at) ∙ ap (λ (n : ℕ). copies_line (get_or copies e 0) n) same
