-- A result that is filled row by row. `store_rows` cites it.
use Prim.Native.Nat.{ℕ, ◌+◌, ◌*◌, ◌≤◌, ◌<◌}
use Rattle.std.proofs.Common.{add-one, ◌∙◌, take_at, take-suc, length-take-le, drop-drop}
use native.Mathlib.Omega.{arith}
use Rattle.std.specs.Prelude.{◌≡◌, get_or, take}
use Rattle.std.proofs.Math.Path.{refl, ap, sym}
use mathlib.Core.List.{List, [], ◌∷◌, ◌++◌, append-nil}
use Rattle.std.proofs.Math.ListN.{length, drop, length-append, length-drop}
use Rattle.std.proofs.lemmas.List.Edits.{sets}
use Rattle.std.proofs.Math.Seq.{sets-eq, drop-append-add, take-length}
use Rattle.base_limits.specs.Verdict.{Outcome}
use Rattle.survey_core.specs.Survey.{Survey}
use Rattle.closed_rule.specs.Closed.{ClosedCounts, row_figures, closed_entry, row_of, rows_of}
use Rattle.closed_rule.proofs.Laws.Rows.{length_row, length_rows, rows_append}
use Rattle.closed_core.specs.LeftOut.{rows_over}

-- The row of the number that stands in the list.
pub row_asked : (s : Survey) {o : Outcome ClosedCounts} {x track : ℕ} → x ≡ track → o ≡ closed_entry s x → row_of o ≡ row_of (closed_entry s track)
row_asked s same h = ap row_of (h ∙ ap (closed_entry s) same)

module _ (s : Survey) (tracks result : List ℕ) (room : row_figures * length tracks ≤ length result) where
  pub rows_none : result ≡ rows_over s tracks result 0
  unfolding rows_over rows_of
  rows_none = refl

  rows_long : (i : ℕ) → i ≤ length tracks → length (rows_of s (take i tracks)) ≡ row_figures * i
  rows_long i b = length_rows s (take i tracks) ∙ ap (λ (n : ℕ). row_figures * n) (length-take-le i tracks b)

  pub length_over : (i : ℕ) → i ≤ length tracks → length (rows_over s tracks result i) ≡ length result
  unfolding rows_over
  length_over i b =
      omega (arith, length-append (rows_of s (take i tracks)) (drop (row_figures * i) result), rows_long i b, length-drop (row_figures * i) result)

  one_more_law : (i : ℕ) → i < length tracks → rows_of s (take i tracks) ++ row_of (closed_entry s (get_or tracks i 0)) ≡ rows_of s (take (i + 1) tracks)
  unfolding rows_of
  one_more_law i b =
      ap (λ (l : List ℕ). rows_of s (take i tracks) ++ l) (sym (append-nil (row_of (closed_entry s (get_or tracks i 0)))))
      ∙ sym (rows_append s (take i tracks) (get_or tracks i 0 ∷ []))
      ∙ ap (rows_of s) (sym (take-suc tracks i 0 b))
      ∙ ap (λ (n : ℕ). rows_of s (take n tracks)) (sym (add-one i))

  -- The row of track i, stored at its place.
  pub rows_more : (i : ℕ) {now row : List ℕ} → i < length tracks → now ≡ rows_over s tracks result i → row ≡ row_of (closed_entry s (get_or tracks i 0))
      → sets now (row_figures * i) row ≡ rows_over s tracks result (i + 1)
  unfolding rows_over
  rows_more i {now} {row} b now_is row_is =
      ap (sets now (row_figures * i)) row_is
      ∙ sets-eq new now (row_figures * i) fits
      ∙ ap (λ (l : List ℕ). (l ++ new) ++ drop (row_figures * i + length new) now) front
      ∙ ap (λ (l : List ℕ). (old ++ new) ++ l) behind
      ∙ ap (λ (l : List ℕ). l ++ drop (row_figures * (i + 1)) result) (one_more_law i b)
    where
      new : List ℕ
      new = row_of (closed_entry s (get_or tracks i 0))

      old : List ℕ
      old = rows_of s (take i tracks)

      long : length old ≡ row_figures * i
      long = rows_long i (omega arith)

      four : length new ≡ row_figures
      four = length_row (closed_entry s (get_or tracks i 0))

      fits : row_figures * i + length new ≤ length now
      fits = omega (arith, four, ap length now_is, length_over i (omega arith))

      front : take (row_figures * i) now ≡ old
      front = ap (take (row_figures * i)) now_is ∙ take_at old (drop (row_figures * i) result) (row_figures * i) long

      step : row_figures * i + length new ≡ length old + row_figures
      step = omega (arith, four, long)

      next : row_figures * i + row_figures ≡ row_figures * (i + 1)
      next = omega arith

      behind : drop (row_figures * i + length new) now ≡ drop (row_figures * (i + 1)) result
      behind =
          ap (λ (n : ℕ). drop n now) step
          ∙ ap (drop (length old + row_figures)) now_is
          ∙ drop-append-add old (drop (row_figures * i) result) row_figures
          ∙ drop-drop row_figures (row_figures * i) result
          ∙ ap (λ (n : ℕ). drop n result) next

  pub rows_all : (i : ℕ) → i ≤ length tracks → length tracks ≤ i → rows_over s tracks result i ≡ rows_of s tracks ++ drop (row_figures * length tracks) result
  unfolding rows_over
  rows_all i b e =
      let all : i ≡ length tracks = omega arith in
      ap (λ (n : ℕ). rows_of s (take n tracks) ++ drop (row_figures * n) result) all
      ∙ ap (λ (l : List ℕ). rows_of s l ++ drop (row_figures * length tracks) result) (take-length tracks)
