-- The words that an also line reads: the text of its pair. Lines one after another are the texts of their pairs.
use Rattle.std.specs.Prelude.{ℕ, ◌+◌, ◌≤◌, ◌<◌, ◌≡◌, refl, Bool, true, false, List, [], ◌++◌, length, take, leb}
use Rattle.std.proofs.Common.{arith, sym, ◌∙◌, subst, append_assoc, append-nil, length-append, leb-true, leb-false}
use Rattle.std.proofs.Math.Path.{ap}
use Rattle.std.proofs.Math.Bool.{not}
use Rattle.base_limits.specs.Limits.{max_pairs, also_digits}
use Rattle.base_limits.specs.Verdict.{refuse_if, ◌before◌}
use Rattle.base_limits.specs.declared.Verdict.{Verdict}
use Rattle.base_limits.specs.declared.Verdict.TheVariants.{Fine, Refused}
use Rattle.format_write.specs.Key.{also_key, comma, newline}
use Rattle.format_read.specs.Number.{also_letter, number_text}
use Rattle.format_read.proofs.Laws.NumberWord.{NumberWord, reads_number, number_most}
use Rattle.format_read.proofs.Laws.Keyed.{newline_no_digit, comma_no_digit}
use Rattle.format_read.specs.Step.{Step, found, refused, ◌then◌, checked}
use Rattle.format_read.specs.Items.{ListsItems}
use Rattle.format_read.specs.Language.{Reads, Word, Extends, Seq, Empty, Fixed, Text}
use Rattle.format_read.proofs.Laws.Bytes.{reads_fixed, byte_alike}
use Rattle.format_read.proofs.Laws.Language.{reads_then, reads_as, reads_value, reads_checked, read_again}
use Rattle.format_also.specs.Pair.{Pair, pair_of, PairDigits, pair_at, also_test, also_line, also_reader}
use Rattle.format_also.specs.Render.{pair_text, pair_bytes}
use Rattle.format_also.specs.Laws.Tests.{line_past, line_read, line_passed}

-- ---- one line, before it is tested

append_three : (a b c : List ℕ) → a ++ (b ++ (c ++ [])) ≡ a ++ b ++ c
append_three a b c = simp (append_assoc, append-nil)

PairParts : Pair → List ℕ → Type 0
PairParts = Seq (Fixed also_key) λ z. Seq (NumberWord also_digits comma) λ v. Seq (NumberWord also_digits newline) λ g. Empty (pair_of v g)

pub reads_pair : Reads pair_at (Text PairDigits pair_text) (Text PairDigits pair_text)
unfolding pair_at PairParts pair_text
reads_pair =
    reads_as (λ t at. refl) to from to from
    (reads_then (reads_fixed also_key) λ z.
    reads_then (reads_number also_digits comma (omega arith) comma_no_digit) λ v.
    reads_then (reads_number also_digits newline (omega arith) newline_no_digit) λ g.
    reads_value (pair_of v g))
  where
    to : (x : Pair) (w : List ℕ) → PairParts x w → Text PairDigits pair_text x w
    to x w m =
        let a = m.second in
        let b = a.second in
        let d = b.second in
        let e : pair_of a.value b.value ≡ x = sym d.value in
        record {
          holds = subst PairDigits e record { owner = a.first.below; other = b.first.below };
          word =
              m.whole ∙ ap (λ (z : List ℕ). z ++ m.right) m.first.word ∙ ap (λ (z : List ℕ). also_key ++ z)
              (a.whole ∙ ap (λ (z : List ℕ). z ++ a.right) a.first.word ∙ ap (λ (z : List ℕ). number_text comma a.value ++ z)
              (b.whole ∙ ap (λ (z : List ℕ). z ++ b.right) b.first.word ∙ ap (λ (z : List ℕ). number_text newline b.value ++ z) d.word))
              ∙ append_three also_key (number_text comma a.value) (number_text newline b.value)
              ∙ ap pair_text e;
        }

    from : (x : Pair) (w : List ℕ) → Text PairDigits pair_text x w → PairParts x w
    from x w m =
        record {
          value = 0;
          left = also_key;
          right = number_text comma x.owner ++ (number_text newline x.other ++ []);
          first = record { value = refl; word = refl };
          whole = m.word ∙ sym (append_three also_key (number_text comma x.owner) (number_text newline x.other));
          second = record {
            value = x.owner;
            left = number_text comma x.owner;
            right = number_text newline x.other ++ [];
            first = record { below = m.holds.owner; word = refl };
            whole = refl;
            second = record {
              value = x.other;
              left = number_text newline x.other;
              right = [];
              first = record { below = m.holds.other; word = refl };
              whole = refl;
              second = record { value = refl; word = refl };
            };
          };
        }

-- A line has a byte, and at most 13.
pub pair_some : (x : Pair) → 0 < length (pair_text x)
unfolding pair_text
pair_some x =
    let a = length-append (also_key ++ number_text comma x.owner) (number_text newline x.other) in
    let b = length-append also_key (number_text comma x.owner) in
    omega arith

pub pair_length : (x : Pair) → PairDigits x → length (pair_text x) ≤ pair_bytes
unfolding pair_text
pair_length x h =
    let a = length-append (also_key ++ number_text comma x.owner) (number_text newline x.other) in
    let b = length-append also_key (number_text comma x.owner) in
    let v = number_most comma also_digits x.owner (omega arith) h.owner in
    let g = number_most newline also_digits x.other (omega arith) h.other in
    omega arith

pub pair_bytes_law : pair_bytes ≡ 13
pair_bytes_law = refl

-- ---- with its tests

-- No refusal of a verdict is 16.
record NotSixteen (v : Verdict) : Type 0 where
  never : (n p : ℕ) → v ≡ Refused n p → n ≡ 16 → ⊥

one_other : (x : Bool) (k u : ℕ) → (k ≡ 16 → ⊥) → NotSixteen (refuse_if x k u)
unfolding refuse_if
one_other true k u h = record { never = λ n p e z. h (same e z) }
  where
    same : {n p : ℕ} → Refused k u ≡ Refused n p → n ≡ 16 → k ≡ 16
    same {n} e z = let s : k ≡ n = cc in s ∙ z
one_other false k u h = record { never = λ n p e z. none e }
  where
    none : {n p : ℕ} → Fine ≡ Refused n p → ⊥
    none e = let s : ◌≡◌ {A = ℕ} 0 1 = cc in omega arith

both_other : (v w : Verdict) → NotSixteen v → NotSixteen w → NotSixteen (v before w)
unfolding ◌before◌
both_other Fine w a b = b
both_other (Refused n p) w a b = a

pub also_not_malformed : (groups : List ℕ) (room low i : ℕ) (x : Pair) (n p : ℕ) → also_test groups room low i x ≡ Refused n p → n ≡ 16 → ⊥
unfolding also_test
also_not_malformed groups room low i x =
    let seven = one_other (leb room i) 7 0 (λ z. omega arith) in
    (both_other _ _ (one_other _ 17 x.owner (λ z. omega arith))
    (both_other _ _ (one_other _ 18 i (λ z. omega arith))
    (both_other _ _ (one_other _ 18 i (λ z. omega arith))
    (both_other _ _ (one_other _ 18 i (λ z. omega arith))
    (both_other _ _ (one_other _ 18 i (λ z. omega arith)) seven))))
    ).never

pub record TestedPair (groups : List ℕ) (room low i : ℕ) (x : Pair) : Type 0 where
  pub digits : PairDigits x
  pub passes : also_test groups room low i x ≡ Fine

abbrev tested : (groups : List ℕ) (room low i : ℕ) → List ℕ → ℕ → Step Pair
tested groups room low i t at = pair_at t at then λ x p. checked (also_test groups room low i x) x p

module _ (groups : List ℕ) (room low i : ℕ) where
  pub reads_tested_pair : Reads (tested groups room low i) (Text (TestedPair groups room low i) pair_text) (Text PairDigits pair_text)
  reads_tested_pair =
      reads_as (λ t at. refl) to from to' from' (reads_then reads_pair (λ x. reads_checked (also_test groups room low i x) x (also_not_malformed groups room low i x)))
    where
      to : (a : Pair) (w : List ℕ) → Seq (Text PairDigits pair_text) (λ x c z. Empty x c z × (also_test groups room low i x ≡ Fine)) a w → Text (TestedPair groups room low i) pair_text a w
      to a w m =
          let e : m.value ≡ a = sym m.second.0.value in
          record {
            holds = subst (TestedPair groups room low i) e record { digits = m.first.holds; passes = m.second.1 };
            word = m.whole ∙ ap (λ (x : List ℕ). m.left ++ x) m.second.0.word ∙ append-nil m.left ∙ m.first.word ∙ ap pair_text e;
          }

      from : (a : Pair) (w : List ℕ) → Text (TestedPair groups room low i) pair_text a w → Seq (Text PairDigits pair_text) (λ x c z. Empty x c z × (also_test groups room low i x ≡ Fine)) a w
      from a w m =
          record {
            value = a;
            left = pair_text a;
            right = [];
            first = record { holds = m.holds.digits; word = refl };
            second = (record { value = refl; word = refl }, m.holds.passes);
            whole = m.word ∙ sym (append-nil (pair_text a));
          }

      to' : (a : Pair) (w : List ℕ) → Seq (Text PairDigits pair_text) (λ x. Empty x) a w → Text PairDigits pair_text a w
      to' a w m =
          let e : m.value ≡ a = sym m.second.value in
          record {
            holds = subst PairDigits e m.first.holds;
            word = m.whole ∙ ap (λ (x : List ℕ). m.left ++ x) m.second.word ∙ append-nil m.left ∙ m.first.word ∙ ap pair_text e;
          }

      from' : (a : Pair) (w : List ℕ) → Text PairDigits pair_text a w → Seq (Text PairDigits pair_text) (λ x. Empty x) a w
      from' a w m =
          record {
            value = a;
            left = pair_text a;
            right = [];
            first = record { holds = m.holds; word = refl };
            second = record { value = refl; word = refl };
            whole = m.word ∙ sym (append-nil (pair_text a));
          }

-- ---- lines one after another

-- How a line is refused: past the last that may be, at its first byte; or as any line.
pub data LineStops (t groups : List ℕ) (room low i at n p : ℕ) : Type 0 where
  past : max_pairs ≤ i → n ≡ 16 → p ≡ at → LineStops t groups room low i at n p
  other : i < max_pairs → tested groups room low i t at ≡ refused n p → LineStops t groups room low i at n p

pub line_stops : (t groups : List ℕ) (room low i at : ℕ) {n p : ℕ} → also_line t groups room low i at ≡ refused n p → LineStops t groups room low i at n p
line_stops t groups room low i at {n} {p} e = by_count (leb max_pairs i) refl
  where
    by_count : (b : Bool) → leb max_pairs i ≡ b → LineStops t groups room low i at n p
    by_count true h =
        let m = leb-true max_pairs i h in
        let s : ◌≡◌ {A = Step Pair} (refused 16 at) (refused n p) = sym (line_past t groups room low i at m) ∙ e in
        let a : 16 ≡ n = cc in
        let b : at ≡ p = cc in
        past m (sym a) (sym b)
    by_count false h = let m = leb-false max_pairs i h in other m (sym (line_read t groups room low i at m) ∙ e)

module _ (groups : List ℕ) (room : ℕ) where
  line_sound : (t : List ℕ) (low i at : ℕ) (x : Pair) (p : ℕ) → at ≤ length t → also_line t groups room low i at ≡ found x p → Word (Text PairDigits pair_text) t at x p
  line_sound t low i at x p h e = reads_pair.sound t at x p h (line_passed t groups room low i at e).read

  line_place : (t : List ℕ) (low i at p : ℕ) → at ≤ length t → also_line t groups room low i at ≡ refused 16 p → (at ≤ p) × (p ≤ length t)
  line_place t low i at p h e = by_case (line_stops t groups room low i at e)
    where
      by_case : LineStops t groups room low i at 16 p → (at ≤ p) × (p ≤ length t)
      by_case (past m n q) = (omega arith, omega arith)
      by_case (other m q) = (reads_tested_pair groups room low i).place t at p h q

  line_extends : (t : List ℕ) (low i at p : ℕ) → at ≤ length t → also_line t groups room low i at ≡ refused 16 p → Extends (Text PairDigits pair_text) t at p
  line_extends t low i at p h e = by_case (line_stops t groups room low i at e)
    where
      by_case : LineStops t groups room low i at 16 p → Extends (Text PairDigits pair_text) t at p
      by_case (past m n q) =
          record {
            value = pair_of 0 0;
            word = pair_text (pair_of 0 0);
            member = record { holds = record { owner = omega arith; other = omega arith }; word = refl };
            rest = pair_text (pair_of 0 0);
            whole = ap (λ (k : ℕ). take k t ++ pair_text (pair_of 0 0)) q;
          }
      by_case (other m q) = (reads_tested_pair groups room low i).extends t at p h q

  line_again : (t u : List ℕ) (low i at : ℕ) (x : Pair) (p q : ℕ) → at ≤ length t → p ≤ q → take (q + 1) t ≡ take (q + 1) u → also_line t groups room low i at ≡ found x p → also_line u groups room low i at ≡ found x p
  line_again t u low i at x p q h l k e =
      let m = (line_passed t groups room low i at e).few in
      line_read u groups room low i at m
      ∙ read_again (reads_tested_pair groups room low i) t u at x p (q + 1) h (omega arith) k (sym (line_read t groups room low i at m) ∙ e)

  line_same : (t u : List ℕ) (low i at p : ℕ) → at ≤ length t → also_line t groups room low i at ≡ refused 16 p → take (p + 1) t ≡ take (p + 1) u → also_line u groups room low i at ≡ refused 16 p
  line_same t u low i at p h e k = by_case (line_stops t groups room low i at e)
    where
      by_case : LineStops t groups room low i at 16 p → also_line u groups room low i at ≡ refused 16 p
      by_case (past m n q) = line_past u groups room low i at m ∙ ap (λ (z : ℕ). refused 16 z) (sym q)
      by_case (other m q) = line_read u groups room low i at m ∙ (reads_tested_pair groups room low i).same t u at p h q k

  -- Also lines are the texts of their pairs.
  pub lists_also : ListsItems (λ t. also_reader t groups room) PairDigits (λ i. pair_text)
  unfolding also_reader
  lists_also =
      record {
        some = λ i. pair_some;
        sound = line_sound;
        place = line_place;
        extends = line_extends;
        stops = λ t u at q h k. ap not (byte_alike t u at also_letter q h k);
        reads = line_again;
        after = λ t u low x. refl;
        same = line_same;
      }
