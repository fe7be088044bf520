-- Lines as they are written, piece by piece.
use Rattle.std.specs.Prelude.{ℕ, ◌≤◌, ◌<◌, ◌≡◌, List, [], ◌∷◌, ◌++◌}
use Rattle.std.proofs.Common.{append_assoc, lt-ltb, le-ltb}
use Rattle.format_write.specs.Key.{refused_key, comma, newline}
use Rattle.format_write.specs.Decimal.{decimal}
use Rattle.format_write.specs.Text.{listed}
use Rattle.season_rule.specs.Text.{list_line, refused_line}

pub pair_line : (key : List ℕ) (x y : ℕ) → key ++ decimal x ++ (comma ∷ []) ++ decimal y ++ (newline ∷ []) ≡ list_line key (x ∷ y ∷ [])
unfolding list_line listed
pair_line key x y = simp append_assoc

pub triple_line : (key : List ℕ) (x y z : ℕ)
    → key ++ decimal x ++ (comma ∷ []) ++ decimal y ++ (comma ∷ []) ++ decimal z ++ (newline ∷ []) ≡ list_line key (x ∷ y ∷ z ∷ [])
unfolding list_line listed
triple_line key x y z = simp append_assoc

pub met_line : (count number : ℕ) → 0 < count → list_line refused_key (number ∷ count ∷ []) ≡ refused_line count number
unfolding refused_line
met_line count number h = rw (lt-ltb 0 count h)

pub no_line_law : (count number : ℕ) → count ≤ 0 → [] ≡ refused_line count number
unfolding refused_line
no_line_law count number h = rw (le-ltb 0 count h)
