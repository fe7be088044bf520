-- Rows in a result: each stands at its place, and one more track adds one more row.
use Rattle.std.specs.Prelude.{ℕ, zero, suc, ◌+◌, ◌*◌, ◌<◌, ◌≡◌, refl, List, [], ◌∷◌, ◌++◌, length, get_or, take, drop}
use Rattle.std.proofs.Common.{ap, sym, ◌∙◌, append_assoc, arith, length-append, take_at}
use Rattle.std.proofs.Math.Seq.{drop-append-add}
use Rattle.base_limits.specs.Verdict.{Outcome, refusal, answer}
use Rattle.survey_core.specs.Survey.{Survey}
use Rattle.closed_rule.specs.Closed.{ClosedCounts, row_figures, closed_entry, row_of, rows_of}

pub length_row : (o : Outcome ClosedCounts) → length (row_of o) ≡ row_figures
unfolding row_of
length_row (refusal number place) = refl
length_row (answer f) = refl

pub length_rows : (s : Survey) (tracks : List ℕ) → length (rows_of s tracks) ≡ row_figures * length tracks
unfolding rows_of
length_rows s [] = refl
length_rows s (c ∷ tracks) =
    omega (arith, length-append (row_of (closed_entry s c)) (rows_of s tracks), length_row (closed_entry s c), length_rows s tracks)

-- Tracks behind others have their rows behind theirs.
pub rows_append : (s : Survey) (some more : List ℕ) → rows_of s (some ++ more) ≡ rows_of s some ++ rows_of s more
unfolding rows_of
rows_append s [] more = refl
rows_append s (c ∷ some) more =
    ap (λ (l : List ℕ). row_of (closed_entry s c) ++ l) (rows_append s some more) ∙ sym (append_assoc (row_of (closed_entry s c)) (rows_of s some) (rows_of s more))

-- The row at i is that of track i, whatever stands behind.
pub row_at_law : (s : Survey) (tracks rest : List ℕ) (i : ℕ) → i < length tracks
    → take row_figures (drop (row_figures * i) (rows_of s tracks ++ rest)) ≡ row_of (closed_entry s (get_or tracks i 0))
unfolding rows_of
row_at_law s [] rest i b = absurd (omega arith)
row_at_law s (c ∷ tracks) rest zero b =
    ap (take row_figures) (append_assoc (row_of (closed_entry s c)) (rows_of s tracks) rest)
    ∙ take_at (row_of (closed_entry s c)) (rows_of s tracks ++ rest) row_figures (length_row (closed_entry s c))
row_at_law s (c ∷ tracks) rest (suc i) b =
    ap (λ (l : List ℕ). take row_figures (drop (row_figures * suc i) l)) (append_assoc (row_of (closed_entry s c)) (rows_of s tracks) rest)
    ∙ ap (λ (n : ℕ). take row_figures (drop n (row_of (closed_entry s c) ++ (rows_of s tracks ++ rest)))) next
    ∙ ap (take row_figures) (drop-append-add (row_of (closed_entry s c)) (rows_of s tracks ++ rest) (row_figures * i))
    ∙ row_at_law s tracks rest i (omega arith)
  where
    next : row_figures * suc i ≡ length (row_of (closed_entry s c)) + row_figures * i
    next = omega (arith, length_row (closed_entry s c))
