-- The words that the lines of the subset read: a track, the number of terminals, terminals one after another.
use Prim.Native.Nat.{ℕ, zero, suc, ◌+◌, ◌-◌, ◌≤◌, ◌<◌}
use native.Mathlib.Omega.{arith}
use Rattle.std.specs.Prelude.{Bool, true, false, ◌&&◌, ◌≡◌, set, replicate}
use mathlib.Core.List.{List, [], ◌∷◌, ◌++◌, append-nil}
use Rattle.std.proofs.Math.Path.{refl, ap, sym, subst}
use Rattle.std.proofs.Common.{◌∙◌, get_or-set_other}
use Rattle.std.proofs.Math.Dec.{eqb, leb}
use Rattle.std.proofs.Math.ListN.{get_or}
use borrow.Author.Tests.{eqb-true, eqb-false, eq-eqb, le-leb, leb-true}
use Rattle.base_finite.specs.Below.{count_below, counted}
use Rattle.base_finite.specs.Laws.Below.{count_elim, count_all, sum_at, counted_le}
use Rattle.base_finite.specs.Laws.Test.{and_left, and_right, and_both}
use Rattle.base_limits.specs.Limits.{max_vertices, count_digits, endpoint_digits, weight_digits}
use Rattle.format_write.specs.Key.{newline}
use Rattle.format_read.specs.Bytes.{fixed_at}
use Rattle.format_read.specs.Language.{Reads, Seq, Empty, Fixed, Text}
use Rattle.format_read.proofs.Laws.Bytes.{reads_fixed}
use Rattle.format_read.proofs.Laws.Language.{reads_then, reads_as, reads_value}
use Rattle.format_read.proofs.Laws.Step.{then_value}
use Rattle.format_read.specs.Step.{found, ◌then◌}
use Rattle.format_read.proofs.Laws.Keyed.{newline_no_digit}
use Rattle.format_read.proofs.Laws.NumberWord.{NumberWord, reads_number}
use Rattle.format_read.specs.Number.{class_of, is_digit, OfDigits, number_text}
use Rattle.format_write.specs.Text.{line_of}
use Rattle.format_survey.specs.Line.{Edge}
use Rattle.format_stp.proofs.Laws.EmptyLines.{StartsOther, reads_after_empty}
use Rattle.format_stp.proofs.Laws.Joined.{reads_then_where}
use Rattle.format_stp.proofs.Laws.Number.{FreeNumber, reads_free, free_tells}
use Rattle.format_stp.specs.StpKey.{edge_word, terminals_word, terminal_word, space}
use Rattle.format_stp.specs.StpNumber.{is_free, free_to}
use Rattle.format_stp.specs.StpReading.{stp_end, stp_edge, terminal_count, terminal_line, terminal_lines}
use Rattle.format_stp.specs.StpWord.{after_empty, AfterEmpty}
use Rattle.format_stp.specs.Subset.{StpEdgeIn, stp_edge_text, TerminalsIn, terminal_text, TerminalLines, none, one}

-- ---- the numbers that are free

pub record FreeFacts (groups : List ℕ) (low high x : ℕ) : Type 0 where
  pub from : low ≤ x
  pub upto : x ≤ high
  pub fresh : get_or groups (x - 1) 0 ≡ 0

module _ (groups : List ℕ) (low high x : ℕ) where
  pub free_elim : is_free groups low high x ≡ true → FreeFacts groups low high x
  unfolding is_free
  free_elim e =
      let a = leb low x in
      let b = leb x high in
      let c = eqb (get_or groups (x - 1) 0) 0 in
      record {
        from = leb-true low x (and_left a b (and_left (a && b) c e));
        upto = leb-true x high (and_right a b (and_left (a && b) c e));
        fresh = eqb-true (get_or groups (x - 1) 0) 0 (and_right (a && b) c e);
      }

  pub free_intro : FreeFacts groups low high x → is_free groups low high x ≡ true
  unfolding is_free
  free_intro f = and_both (leb low x && leb x high) (eqb (get_or groups (x - 1) 0) 0) (and_both (leb low x) (leb x high) (le-leb low x f.from) (le-leb x high f.upto)) (eq-eqb (get_or groups (x - 1) 0) 0 f.fresh)

none_fresh : (i : ℕ) → ◌≡◌ {A = ℕ} (get_or [] i 0) 0
none_fresh i = refl

pub free_plain : (low high x : ℕ) → low ≤ x → x ≤ high → is_free [] low high x ≡ true
free_plain low high x l h = free_intro [] low high x (record { from = l; upto = h; fresh = none_fresh (x - 1) })

space_no_digit : is_digit (class_of space) ≡ false
unfolding is_digit class_of
space_no_digit = refl

-- ---- a track

module _ (n : ℕ) (some : 0 < n) where
  abbrev EndWord : ℕ → List ℕ → Type 0
  EndWord = Text (FreeNumber (is_free [] 1 n) endpoint_digits) (number_text space)

  reads_end : Reads (stp_end n) EndWord EndWord
  unfolding stp_end
  reads_end =
      reads_free (is_free [] 1 n) n space space_no_digit (λ v e. (free_elim [] 1 n v e).upto) endpoint_digits (omega arith) 1
      (record { is = free_plain 1 n 1 (omega arith) (omega arith); digits = omega arith })

  abbrev Parts : Edge → List ℕ → Type 0
  Parts = Seq (Fixed edge_word) λ z. Seq EndWord λ u. Seq EndWord λ v. Seq (NumberWord weight_digits newline) λ w. Empty (record { first = u - 1; second = v - 1; weight = w })

  -- An end counts from 1 in the text.
  back : (x : ℕ) → FreeNumber (is_free [] 1 n) endpoint_digits x → (x - 1 + 1 ≡ x) × (x - 1 < n)
  back x f = let y = free_elim [] 1 n x f.is in let a = y.from in let b = y.upto in (omega arith, omega arith)

  edge_to : (x : Edge) (w : List ℕ) → Parts x w → Text (StpEdgeIn n) stp_edge_text x w
  unfolding stp_edge_text
  edge_to x w m =
      let a = m.second in
      let b = a.second in
      let c = b.second in
      let d = c.second in
      let e : record { first = a.value - 1; second = b.value - 1; weight = c.value } ≡ x = sym d.value in
      let u = back a.value a.first.holds in
      let v = back b.value b.first.holds in
      subst (λ (y : Edge). Text (StpEdgeIn n) stp_edge_text y w) e
      record {
        holds =
            record {
              first = u.1;
              second = v.1;
              first_digits = subst (OfDigits endpoint_digits) (sym u.0) a.first.holds.digits;
              second_digits = subst (OfDigits endpoint_digits) (sym v.0) b.first.holds.digits;
              weight = c.first.below;
            };
        word =
            m.whole ∙ ap (λ (z : List ℕ). z ++ m.right) m.first.word ∙ ap (λ (z : List ℕ). edge_word ++ z)
            (a.whole ∙ ap (λ (z : List ℕ). z ++ a.right) (a.first.word ∙ ap (number_text space) (sym u.0)) ∙ ap (λ (z : List ℕ). number_text space (a.value - 1 + 1) ++ z)
            (b.whole ∙ ap (λ (z : List ℕ). z ++ b.right) (b.first.word ∙ ap (number_text space) (sym v.0)) ∙ ap (λ (z : List ℕ). number_text space (b.value - 1 + 1) ++ z)
            (c.whole ∙ ap (λ (z : List ℕ). c.left ++ z) d.word ∙ append-nil c.left ∙ c.first.word)));
      }

  edge_from : (x : Edge) (w : List ℕ) → Text (StpEdgeIn n) stp_edge_text x w → Parts x w
  unfolding stp_edge_text
  edge_from x w m =
      let u : x.first ≡ x.first + 1 - 1 = omega arith in
      let v : x.second ≡ x.second + 1 - 1 = omega arith in
      let e : x ≡ record { first = x.first + 1 - 1; second = x.second + 1 - 1; weight = x.weight } = λ i. record { first = u i; second = v i; weight = x.weight } in
      let h = m.holds in
      let p = h.first in
      let q = h.second in
      record {
        value = 0;
        left = edge_word;
        right = number_text space (x.first + 1) ++ (number_text space (x.second + 1) ++ number_text newline x.weight);
        first = record { value = refl; word = refl };
        whole = m.word;
        second = record {
          value = x.first + 1;
          left = number_text space (x.first + 1);
          right = number_text space (x.second + 1) ++ number_text newline x.weight;
          first = record { holds = record { is = free_plain 1 n (x.first + 1) (omega arith) (omega arith); digits = h.first_digits }; word = refl };
          whole = refl;
          second = record {
            value = x.second + 1;
            left = number_text space (x.second + 1);
            right = number_text newline x.weight;
            first = record { holds = record { is = free_plain 1 n (x.second + 1) (omega arith) (omega arith); digits = h.second_digits }; word = refl };
            whole = refl;
            second = record {
              value = x.weight;
              left = number_text newline x.weight;
              right = [];
              first = record { below = h.weight; word = refl };
              whole = sym (append-nil (number_text newline x.weight));
              second = record { value = e; word = refl };
            };
          };
        };
      }

  edge_starts : (x : Edge) (w : List ℕ) → Text (StpEdgeIn n) stp_edge_text x w → StartsOther w
  unfolding stp_edge_text
  edge_starts x w m = subst StartsOther (sym m.word) (record { some = omega arith; other = eqb-false 69 newline refl })

  pub reads_stp_edge : Reads (after_empty (stp_edge n)) (AfterEmpty (Text (StpEdgeIn n) stp_edge_text)) (AfterEmpty (Text (StpEdgeIn n) stp_edge_text))
  unfolding stp_edge
  reads_stp_edge =
      reads_after_empty
      (reads_as (λ t at. refl) edge_to edge_from edge_to edge_from
      (reads_then (reads_fixed edge_word) λ z. reads_then reads_end λ u. reads_then reads_end λ v. reads_then (reads_number weight_digits newline (omega arith) newline_no_digit) λ w.
      reads_value (record { first = u - 1; second = v - 1; weight = w })))
      edge_starts

-- ---- the number of terminals

-- A word, and a free number behind it to the end of the line.
module _ (word : List ℕ) (free : ℕ → Bool) (high limit : ℕ) (positive : 1 ≤ limit) (below : (v : ℕ) → free v ≡ true → v ≤ high) (v₀ : ℕ) (f₀ : FreeNumber free limit v₀) where
  abbrev FreeLine : ℕ → List ℕ → Type 0
  FreeLine = Text (FreeNumber free limit) (λ x. word ++ number_text newline x)

  line_to : (x : ℕ) (w : List ℕ) → Seq (Fixed word) (λ z. Text (FreeNumber free limit) (number_text newline)) x w → FreeLine x w
  line_to x w m = record { holds = m.second.holds; word = m.whole ∙ ap (λ (z : List ℕ). z ++ m.right) m.first.word ∙ ap (λ (z : List ℕ). word ++ z) m.second.word }

  line_from : (x : ℕ) (w : List ℕ) → FreeLine x w → Seq (Fixed word) (λ z. Text (FreeNumber free limit) (number_text newline)) x w
  line_from x w m =
      record { value = 0; left = word; right = number_text newline x; first = record { value = refl; word = refl }; second = record { holds = m.holds; word = refl }; whole = m.word }

  reads_free_line : Reads (λ t at. fixed_at word t at then λ z a. free_to free high newline limit t a) FreeLine FreeLine
  reads_free_line =
      reads_as (λ t at. refl) line_to line_from line_to line_from
      (reads_then (reads_fixed word) λ z. reads_free free high newline newline_no_digit below limit positive v₀ f₀)

line_starts : (b : ℕ) (word : List ℕ) (P : ℕ → Type 0) (text : ℕ → List ℕ) → eqb b newline ≡ false → (x : ℕ) (w : List ℕ) → Text P (λ x. (b ∷ word) ++ text x) x w → StartsOther w
line_starts b word P text e x w m = subst StartsOther (sym m.word) (record { some = omega arith; other = eqb-false b newline e })

module _ (n : ℕ) where
  count_to : (x : ℕ) (w : List ℕ) → Text (FreeNumber (is_free [] 0 n) count_digits) (λ x. terminals_word ++ number_text newline x) x w → Text (TerminalsIn n) (line_of terminals_word) x w
  unfolding line_of number_text
  count_to x w m =
      record { holds = record { most = (free_elim [] 0 n x m.holds.is).upto; digits = m.holds.digits }; word = m.word }

  count_from : (x : ℕ) (w : List ℕ) → Text (TerminalsIn n) (line_of terminals_word) x w → Text (FreeNumber (is_free [] 0 n) count_digits) (λ x. terminals_word ++ number_text newline x) x w
  unfolding line_of number_text
  count_from x w m = record { holds = record { is = free_plain 0 n x (omega arith) m.holds.most; digits = m.holds.digits }; word = m.word }

  count_starts : (x : ℕ) (w : List ℕ) → Text (TerminalsIn n) (line_of terminals_word) x w → StartsOther w
  unfolding line_of
  count_starts x w m = subst StartsOther (sym m.word) (record { some = omega arith; other = eqb-false 84 newline refl })

  pub reads_terminal_count : Reads (after_empty (terminal_count n)) (AfterEmpty (Text (TerminalsIn n) (line_of terminals_word))) (AfterEmpty (Text (TerminalsIn n) (line_of terminals_word)))
  unfolding terminal_count
  reads_terminal_count =
      reads_after_empty
      (reads_as (λ t at. refl) count_to count_from count_to count_from
      (reads_free_line terminals_word (is_free [] 0 n) n count_digits (omega arith) (λ v e. (free_elim [] 0 n v e).upto) 0
      (record { is = free_plain 0 n 0 (omega arith) (omega arith); digits = omega arith })))
      count_starts

  pub count_tells : (t : List ℕ) (at k p : ℕ) → after_empty (terminal_count n) t at ≡ found k p → is_free [] 0 n k ≡ true
  unfolding after_empty terminal_count
  count_tells t at k p e = let v = then_value (fixed_at terminals_word t _) _ e in free_tells (is_free [] 0 n) n newline count_digits t v.1 k p v.3

-- ---- terminals

-- Junctions that are no terminal yet.
pub free_count : (n : ℕ) → List ℕ → ℕ
free_count n groups = count_below n (λ v. eqb (get_or groups v 0) 0)

-- At the start all are.
pub all_free : (n : ℕ) → free_count n (replicate n 0) ≡ n
unfolding free_count
all_free n = count_all n (λ v. eqb (get_or (replicate n 0) v 0) 0) (λ i h. eq-eqb (get_or (replicate n 0) i 0) 0 (zeros n i))
  where
    zeros : (n i : ℕ) → ◌≡◌ {A = ℕ} (get_or (replicate n 0) i 0) 0
    zeros zero i = none_fresh i
    zeros (suc n) zero = refl
    zeros (suc n) (suc i) = zeros n i

-- One terminal takes one of them.
free_less : (n : ℕ) (groups : List ℕ) (v : ℕ) → v < n → get_or groups v 0 ≡ 0 → free_count n groups ≤ free_count n (set groups v 1) + 1
unfolding free_count count_below
free_less n groups v h e =
    let f : ℕ → ℕ = λ i. counted (eqb (get_or groups i 0) 0) 1 in
    let g : ℕ → ℕ = λ i. counted (eqb (get_or (set groups v 1) i 0) 0) 1 in
    let s = sum_at n f g v h (λ i b d. ap (λ (x : ℕ). counted (eqb x 0) 1) (sym (get_or-set_other groups v i 1 0 d))) in
    let a : f v ≤ 1 = counted_le (eqb (get_or groups v 0) 0) 1 in
    omega arith

module _ (n : ℕ) (most : n ≤ max_vertices) where
  abbrev Line : List ℕ → ℕ → List ℕ → Type 0
  Line groups = Text (FreeNumber (is_free groups 1 n) endpoint_digits) (λ x. terminal_word ++ number_text newline x)

  reads_line : (groups : List ℕ) → 1 ≤ free_count n groups → Reads (after_empty (terminal_line n groups)) (AfterEmpty (Line groups)) (AfterEmpty (Line groups))
  unfolding terminal_line free_count
  reads_line groups h =
      let f = count_elim n (λ v. eqb (get_or groups v 0) 0) h in
      let b = f.below in
      let z : f.at ≡ f.at + 1 - 1 = omega arith in
      let fresh : get_or groups (f.at + 1 - 1) 0 ≡ 0 = ap (λ (i : ℕ). get_or groups i 0) (sym z) ∙ eqb-true (get_or groups f.at 0) 0 f.passes in
      reads_after_empty
      (reads_free_line terminal_word (is_free groups 1 n) n endpoint_digits (omega arith) (λ v e. (free_elim groups 1 n v e).upto) (f.at + 1)
      (record { is = free_intro groups 1 n (f.at + 1) (record { from = omega arith; upto = omega arith; fresh = fresh }); digits = omega arith }))
      (line_starts 84 (32 ∷ []) (FreeNumber (is_free groups 1 n) endpoint_digits) (number_text newline) refl)

  line_tells : (groups : List ℕ) (t : List ℕ) (at x p : ℕ) → after_empty (terminal_line n groups) t at ≡ found x p → is_free groups 1 n x ≡ true
  unfolding after_empty terminal_line
  line_tells groups t at x p e = let v = then_value (fixed_at terminal_word t _) _ e in free_tells (is_free groups 1 n) n newline endpoint_digits t v.1 x p v.3

  lines_to : (k : ℕ) (groups after : List ℕ) (w : List ℕ) → Seq (AfterEmpty (Line groups)) (λ x. TerminalLines n k (set groups (x - 1) 1)) after w → TerminalLines n (suc k) groups after w
  unfolding terminal_text
  lines_to k groups after w m =
      let x = m.first in
      let f = free_elim groups 1 n m.value x.member.holds.is in
      let a = f.from in
      let b = f.upto in
      let z : m.value ≡ m.value - 1 + 1 = omega arith in
      subst (TerminalLines n (suc k) groups after) (sym m.whole)
      (one
      (record {
        empty = x.empty;
        word = x.word;
        member = record {
          holds = record { below = omega arith; fresh = f.fresh; digits = subst (OfDigits endpoint_digits) z x.member.holds.digits };
          word = x.member.word ∙ ap (λ (y : ℕ). terminal_word ++ number_text newline y) z;
        };
        whole = x.whole;
      })
      m.second)

  lines_from : (k : ℕ) (groups after : List ℕ) (w : List ℕ) → TerminalLines n (suc k) groups after w → Seq (AfterEmpty (Line groups)) (λ x. TerminalLines n k (set groups (x - 1) 1)) after w
  unfolding terminal_text
  lines_from k groups after _ (one {v = v} {x = x} {w = w} m r) =
      let h = m.member.holds in
      let b = h.below in
      let z : v ≡ v + 1 - 1 = omega arith in
      record {
        value = v + 1;
        left = x;
        right = w;
        first = record {
          empty = m.empty;
          word = m.word;
          member = record {
            holds = record { is = free_intro groups 1 n (v + 1) (record { from = omega arith; upto = omega arith; fresh = ap (λ (i : ℕ). get_or groups i 0) (sym z) ∙ h.fresh }); digits = h.digits };
            word = m.member.word;
          };
          whole = m.whole;
        };
        second = subst (λ (i : ℕ). TerminalLines n k (set groups i 1) after w) z r;
        whole = refl;
      }

  pub reads_terminals : (count : ℕ) (groups : List ℕ) → count ≤ free_count n groups → Reads (terminal_lines n count groups) (TerminalLines n count groups) (TerminalLines n count groups)
  unfolding terminal_lines
  reads_terminals zero groups h = reads_as (λ t at. refl) to from to from (reads_value groups)
    where
      to : (after w : List ℕ) → Empty groups after w → TerminalLines n 0 groups after w
      to after w m = subst (λ (g : List ℕ). TerminalLines n 0 groups g w) (sym m.value) (subst (TerminalLines n 0 groups groups) (sym m.word) none)

      from : (after w : List ℕ) → TerminalLines n 0 groups after w → Empty groups after w
      from _ _ none = record { value = refl; word = refl }
  reads_terminals (suc count) groups h =
      reads_as (λ t at. refl) (lines_to count groups) (lines_from count groups) (lines_to count groups) (lines_from count groups)
      (reads_then_where (is_free groups 1 n) (reads_line groups (omega arith)) (λ x w m. m.member.holds.is) (line_tells groups) (λ x e. reads_terminals count (set groups (x - 1) 1) (left x e)))
    where
      left : (x : ℕ) → is_free groups 1 n x ≡ true → count ≤ free_count n (set groups (x - 1) 1)
      left x e =
          let f = free_elim groups 1 n x e in
          let a = f.from in
          let b = f.upto in
          let l = free_less n groups (x - 1) (omega arith) f.fresh in
          omega arith
