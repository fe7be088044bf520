-- Keep lines, members and moat lines as words: each reader reads the texts of its values.
use Prim.Native.Nat.{ℕ, ◌+◌, ◌≤◌, ◌<◌}
use Prim.Native.Char.{code}
use native.Mathlib.Omega.{arith}
use Rattle.std.specs.Prelude.{◌≡◌, refl, Bool, true, false, not, ◌||◌, get_or, ltb, leb}
use Rattle.std.proofs.Math.Path.{ap, sym, subst}
use Rattle.std.proofs.Common.{◌∙◌, leb-true, leb-false}
use mathlib.Core.List.{List, [], ◌∷◌, ◌++◌, append_assoc, append-nil}
use Rattle.std.proofs.Math.ListN.{length, take, length-append}
use Rattle.base_limits.specs.Limits.{kept_digits, value_digits, member_digits}
use Rattle.base_limits.specs.declared.Verdict.{Verdict}
use Rattle.base_limits.specs.declared.Verdict.TheVariants.{Fine, Refused}
use Rattle.format_write.specs.Key.{kept_key, dual_key, colon, newline}
use Rattle.format_write.specs.Decimal.{decimal}
use Rattle.format_write.specs.Text.{line_of, listed}
use Rattle.format_read.specs.Step.{Step, found, refused, ◌then◌, checked}
use Rattle.format_read.specs.Lines.{Lines}
use Rattle.format_read.specs.Number.{is_digit, class_of, number_at, number_to, OfDigits}
use Rattle.format_read.specs.Bytes.{fixed_at}
use Rattle.format_read.proofs.Laws.Bytes.{byte_inside, read_same, byte_alike, reads_fixed}
use Rattle.format_read.proofs.Laws.Decimal.{decimal_numeral}
use Rattle.format_read.proofs.Laws.Step.{then_found, then_refused, then_value, Stops, early, late, then_stops, checked_fine, checked_value, checked_next}
use Rattle.format_read.specs.Stands.{Stands}
use Rattle.format_read.proofs.Laws.Stands.{stands_append, stands_byte, stands_same, as_long}
use Rattle.format_read.specs.Language.{Reads, Word, Extends, Fixed, Text, none}
use Rattle.format_read.proofs.Laws.Language.{bound, read_again, text_stands}
use Rattle.format_read.proofs.Laws.NumberWord.{NumberOrNone, absent, present, number_or_none, number_is, no_digit_number, numeral_same}
use Rattle.format_read.proofs.Laws.Keyed.{Passes, reads_keyed, reads_tested}
use Rattle.format_survey.proofs.Laws.Tests.{one_not_malformed, two_not_malformed}
use Rattle.format_read.specs.Items.{Broken, ListsItems, text_from}
use Rattle.format_plan.specs.Lines.{kept_test, keep_line, keep_reader, separator, member_step, member_reader, members_at, PrintedDual, dual_test, dual_head, listed_dual, dual_line_at, dual_reader}
use Rattle.format_read.proofs.Laws.Items.{items_stop}
use Rattle.format_plan.specs.WellFormed.{DualDigits, dual_text}
use Rattle.format_plan.proofs.Laws.RoundTrip.{dual_some, line_some, colon_ends, member_words, later_text, listed_text}
use Rattle.format_read.proofs.Laws.Listing.{standing_words, standing_long, items_standing, items_broken, item_goes, broken_place, broken_extends, items_again, items_broken_again}

-- ---- bytes and ends that texts have in common

-- Texts that agree past an offset go on there, or both end before it.
end_alike : (t u : List ℕ) (at q : ℕ) → at ≤ q → take (q + 1) t ≡ take (q + 1) u → leb (length t) at ≡ leb (length u) at
end_alike t u at q h k = by_test (leb (length t) at) (leb (length u) at) refl refl
  where
    by_test : (x y : Bool) → leb (length t) at ≡ x → leb (length u) at ≡ y → x ≡ y
    by_test true true e f = refl
    by_test true false e f =
        let a = leb-true (length t) at e in
        let b = leb-false (length u) at f in
        let c = as_long u t q (sym k) (at + 1) (omega arith) (omega arith) in
        absurd (omega arith)
    by_test false true e f =
        let a = leb-false (length t) at e in
        let b = leb-true (length u) at f in
        let c = as_long t u q k (at + 1) (omega arith) (omega arith) in
        absurd (omega arith)
    by_test false false e f = refl

-- ---- keep lines

-- A kept track's test never gives 16.
pub kept_not_malformed : (m low i e n p : ℕ) → kept_test m low i e ≡ Refused n p → n ≡ 16 → ⊥
unfolding kept_test
kept_not_malformed m low i e n p = one_not_malformed (ltb e low || leb m e) 26 i n p (λ z. omega arith)

-- A keep line is read where its text stands, unless its test fails.
reads_keep : (m low i : ℕ) → Reads (λ t at. keep_line t m low i at) (Text (Passes kept_digits (kept_test m low i)) (line_of kept_key)) (Text (OfDigits kept_digits) (line_of kept_key))
unfolding keep_line
reads_keep m low i = reads_tested kept_key kept_digits (omega arith) (kept_test m low i) (kept_not_malformed m low i)

-- Keep lines are the texts of their tracks.
pub lists_kept : (m : ℕ) → ListsItems (λ t. keep_reader t m) (OfDigits kept_digits) (λ i. line_of kept_key)
unfolding keep_reader
lists_kept m =
    record {
      some = λ i e. line_some kept_key e;
      sound = λ t low i at e p h q.
          let w = (reads_keep m low i).sound t at e p h q in
          record { word = w.word; member = (reads_keep m low i).well e w.word w.member; ends = w.ends; stands = w.stands };
      place = λ t low i. (reads_keep m low i).place t;
      extends = λ t low i. (reads_keep m low i).extends t;
      stops = λ t u at q h k. ap not (byte_alike t u at (code "k") q h k);
      reads = λ t u low i at e p q h l k. read_again (reads_keep m low i) t u at e p (q + 1) h (omega arith) k;
      after = λ t u low e. refl;
      same = λ t u low i. (reads_keep m low i).same t u;
    }

-- ---- members

-- A number without the byte that ends it.
number_sound : (limit : ℕ) → 1 ≤ limit → (t : List ℕ) (at v p : ℕ) → number_at limit t at ≡ found v p → Word (Text (OfDigits limit) decimal) t at v p
number_sound limit positive t at v p e = by_case (number_or_none t limit at positive)
  where
    by_case : NumberOrNone t limit at → Word (Text (OfDigits limit) decimal) t at v p
    by_case (absent x) = let z : ◌≡◌ {A = ℕ} 0 1 = cc (no_digit_number t limit at x) in absurd (omega arith)
    by_case (present y k s x) =
        let f = number_is t limit at y x s in
        let same : y ≡ v = cc in
        let end : p ≡ at + length (decimal y) = cc in
        record { word = decimal y; member = record { holds = subst (OfDigits limit) same k; word = ap decimal same }; ends = end; stands = s }

-- A number is refused where no digit stands, and there.
number_refused : (limit : ℕ) → 1 ≤ limit → (t : List ℕ) (at n p : ℕ) → number_at limit t at ≡ refused n p → (is_digit (class_of (get_or t at 0)) ≡ false) × (p ≡ at)
number_refused limit positive t at n p e = by_case (number_or_none t limit at positive)
  where
    by_case : NumberOrNone t limit at → (is_digit (class_of (get_or t at 0)) ≡ false) × (p ≡ at)
    by_case (absent x) = (x, cc (no_digit_number t limit at x))
    by_case (present y k s x) = let z : ◌≡◌ {A = ℕ} 0 1 = cc (number_is t limit at y x s) in absurd (omega arith)

-- A number is read again from a text with the same bytes up to the one behind it.
number_again : (limit : ℕ) → 1 ≤ limit → (t u : List ℕ) (at v p q : ℕ) → p ≤ q → take (q + 1) t ≡ take (q + 1) u → number_at limit t at ≡ found v p → number_at limit u at ≡ found v p
number_again limit positive t u at v p q h k e = by_case (number_or_none t limit at positive)
  where
    by_case : NumberOrNone t limit at → number_at limit u at ≡ found v p
    by_case (absent x) = let z : ◌≡◌ {A = ℕ} 0 1 = cc (no_digit_number t limit at x) in absurd (omega arith)
    by_case (present y l s x) =
        let f = number_is t limit at y x s in
        let end : p ≡ at + length (decimal y) = cc in
        let s' : Stands u at (decimal y) = stands_same (q + 1) k (omega arith) s in
        number_is u limit at y (numeral_same t u limit at (q + 1) k (omega arith) (omega arith) ∙ x) s' ∙ sym f ∙ e

-- A number is refused again.
number_same : (limit : ℕ) → 1 ≤ limit → (t u : List ℕ) (at p : ℕ) → number_at limit t at ≡ refused 16 p → take (p + 1) t ≡ take (p + 1) u → number_at limit u at ≡ refused 16 p
number_same limit positive t u at p e k =
    let r = number_refused limit positive t at 16 p e in
    let q : p ≡ at = r.1 in
    let s : get_or t at 0 ≡ get_or u at 0 = read_same t u (p + 1) at k (omega arith) in
    no_digit_number u limit at (ap (λ (b : ℕ). is_digit (class_of b)) (sym s) ∙ r.0) ∙ ap (λ (n : ℕ). refused 16 n) (sym q)

-- Member i of its moat, as it is printed.
unfoldable pub member_part : (i v : ℕ) → List ℕ
member_part i v = separator i ++ decimal v

-- A member has a byte.
member_some : (i v : ℕ) → 0 < length (member_part i v)
unfolding member_part
member_some i v =
    let s = (decimal_numeral v).some in
    let n = length-append (separator i) (decimal v) in
    omega arith

module _ (t : List ℕ) (low i at : ℕ) (h : at ≤ length t) where
  -- Where the separator ends.
  after_separator : {z p : ℕ} → fixed_at (separator i) t at ≡ found z p → Word (Fixed (separator i)) t at z p
  after_separator {z} {p} e = (reads_fixed (separator i)).sound t at z p h e

  -- A member that is read stands there.
  member_sound : (v p : ℕ) → member_step t low i at ≡ found v p → Word (Text (OfDigits member_digits) (member_part i)) t at v p
  unfolding member_step member_part
  member_sound v p e =
      let s = then_value (fixed_at (separator i) t at) _ e in
      let x = after_separator s.2 in
      let y = number_sound member_digits (omega arith) t s.1 v p s.3 in
      let xe = x.ends in
      let ye = y.ends in
      let n = length-append x.word y.word in
      record {
        word = x.word ++ y.word;
        member = record { holds = y.member.holds; word = ap (λ (w : List ℕ). w ++ y.word) x.member.word ∙ ap (λ (w : List ℕ). separator i ++ w) y.member.word };
        ends = omega arith;
        stands = stands_append x.word y.word x.stands (subst (λ (k : ℕ). Stands t k y.word) xe y.stands);
      }

  -- A member is refused from its place on, inside the text.
  member_place : (p : ℕ) → member_step t low i at ≡ refused 16 p → (at ≤ p) × (p ≤ length t)
  unfolding member_step
  member_place p e = by_place (then_stops (fixed_at (separator i) t at) _ e)
    where
      by_place : Stops (fixed_at (separator i) t at) (λ z q. number_at member_digits t q) 16 p → (at ≤ p) × (p ≤ length t)
      by_place (early q) = (reads_fixed (separator i)).place t at p h q
      by_place (late z q x y) =
          let b = bound (after_separator x) in
          let a = b.0 in
          let c = b.1 in
          let s : p ≡ q = (number_refused member_digits (omega arith) t q 16 p y).1 in
          (omega arith, omega arith)

  -- The bytes before the refusal of a member go on to a member.
  member_extends : (p : ℕ) → member_step t low i at ≡ refused 16 p → Extends (Text (OfDigits member_digits) (member_part i)) t at p
  unfolding member_step member_part
  member_extends p e = by_place (then_stops (fixed_at (separator i) t at) _ e)
    where
      by_place : Stops (fixed_at (separator i) t at) (λ z q. number_at member_digits t q) 16 p → Extends (Text (OfDigits member_digits) (member_part i)) t at p
      by_place (early q) =
          let x = (reads_fixed (separator i)).extends t at p h q in
          record {
            value = 0;
            word = x.word ++ decimal 0;
            member = record { holds = omega arith; word = ap (λ (w : List ℕ). w ++ decimal 0) x.member.word };
            rest = x.rest ++ decimal 0;
            whole = sym (append_assoc (take p t) x.rest (decimal 0)) ∙ ap (λ (z : List ℕ). z ++ decimal 0) x.whole ∙ append_assoc (take at t) x.word (decimal 0);
          }
      by_place (late z q x y) =
          let w = after_separator x in
          let s : p ≡ at + length w.word = (number_refused member_digits (omega arith) t q 16 p y).1 ∙ w.ends in
          record {
            value = 0;
            word = w.word ++ decimal 0;
            member = record { holds = omega arith; word = ap (λ (w : List ℕ). w ++ decimal 0) w.member.word };
            rest = decimal 0;
            whole = ap (λ (k : ℕ). take k t ++ decimal 0) s ∙ ap (λ (l : List ℕ). l ++ decimal 0) w.stands.is ∙ append_assoc (take at t) w.word (decimal 0);
          }

  -- A member is read again from a text with the same bytes up to the one behind it.
  member_again : (u : List ℕ) (v p q : ℕ) → p ≤ q → take (q + 1) t ≡ take (q + 1) u → member_step t low i at ≡ found v p → member_step u low i at ≡ found v p
  unfolding member_step
  member_again u v p q l k e =
      let s = then_value (fixed_at (separator i) t at) _ e in
      let b = (bound (number_sound member_digits (omega arith) t s.1 v p s.3)).0 in
      then_found _ (read_again (reads_fixed (separator i)) t u at s.0 s.1 (q + 1) h (omega arith) k s.2) ∙ number_again member_digits (omega arith) t u s.1 v p q l k s.3

  -- A member is refused again.
  member_same : (u : List ℕ) (p : ℕ) → member_step t low i at ≡ refused 16 p → take (p + 1) t ≡ take (p + 1) u → member_step u low i at ≡ refused 16 p
  unfolding member_step
  member_same u p e k = by_place (then_stops (fixed_at (separator i) t at) _ e)
    where
      by_place : Stops (fixed_at (separator i) t at) (λ z q. number_at member_digits t q) 16 p → (fixed_at (separator i) u at then λ z q. number_at member_digits u q) ≡ refused 16 p
      by_place (early q) = then_refused _ ((reads_fixed (separator i)).same t u at p h q k)
      by_place (late z q x y) =
          let s : p ≡ q = (number_refused member_digits (omega arith) t q 16 p y).1 in
          then_found _ (read_again (reads_fixed (separator i)) t u at z q (p + 1) h (omega arith) k x) ∙ number_same member_digits (omega arith) t u q p y k

-- Members are their separators and numbers.
pub lists_members : ListsItems member_reader (OfDigits member_digits) member_part
unfolding member_reader
lists_members =
    record {
      some = member_some;
      sound = λ t low i at v p h. member_sound t low i at h v p;
      place = λ t low i at p h. member_place t low i at h p;
      extends = λ t low i at p h. member_extends t low i at h p;
      stops = λ t u at q h k. byte_alike t u at newline q h k;
      reads = λ t u low i at v p q h l k. member_again t low i at h u v p q l k;
      after = λ t u low v. refl;
      same = λ t u low i at p h. member_same t low i at h u p;
    }

-- Members from the i-th on are their parts one after another.
members_from : (i : ℕ) (vs : List ℕ) → member_words i vs ≡ text_from member_part i vs
unfolding member_words text_from member_part
members_from i [] = refl
members_from i (v ∷ vs) = ap (λ (w : List ℕ). separator i ++ decimal v ++ w) (sym (later_text i vs) ∙ members_from (i + 1) vs)

-- Printed members are their parts one after another.
pub listed_from : (vs : List ℕ) → listed vs ≡ text_from member_part 0 vs
listed_from vs = listed_text vs ∙ members_from 0 vs

-- ---- moat lines

-- What stands before a moat's members.
unfoldable pub head_text : (amount : ℕ) → List ℕ
head_text x = dual_key ++ decimal x ++ (colon ∷ [])

-- The amount is read exactly where it stands.
reads_head : Reads dual_head (Text (OfDigits value_digits) head_text) (Text (OfDigits value_digits) head_text)
unfolding dual_head number_to head_text
reads_head = reads_keyed dual_key value_digits colon (omega arith) colon_ends

-- What stands before the members has a byte.
head_some : (x : ℕ) → 0 < length (head_text x)
unfolding head_text
head_some x = let n = length-append (dual_key ++ decimal x) (colon ∷ []) in omega arith

-- A moat line is its amount, its members and its end.
dual_text_parts : (d : PrintedDual) → head_text d.value ++ text_from member_part 0 d.members ++ (newline ∷ []) ≡ dual_text d
unfolding head_text dual_text
dual_text_parts d = ap (λ (w : List ℕ). head_text d.value ++ w ++ (newline ∷ [])) (sym (listed_from d.members))

-- A refusal after a test is the refusal of the test.
checked_stops : {A : Type 0} {n q : ℕ} (w : Verdict) (a : A) (p : ℕ) → checked w a p ≡ refused n q → w ≡ Refused n q
unfolding checked
checked_stops Fine a p e = let z : ◌≡◌ {A = ℕ} 0 1 = cc in absurd (omega arith)
checked_stops {n = n} {q = q} (Refused i j) a p e = let x : i ≡ n = cc in let y : j ≡ q = cc in cc

-- A moat line that is read.
pub record DualParts (t : List ℕ) (i at : ℕ) (d : PrintedDual) (p : ℕ) : Type 0 where
  pub amount : ℕ
  pub from : ℕ
  pub last : ℕ
  pub end : ℕ
  pub head : dual_head t at ≡ found amount from
  pub list : (members_at t from).end ≡ found last end
  pub fine : dual_test i last ≡ Fine
  pub dual : listed_dual t amount from ≡ d
  pub next : end + 1 ≡ p

-- A moat line is read only by reading its amount and its members.
pub dual_parts_read : (t : List ℕ) (i at : ℕ) (d : PrintedDual) (p : ℕ) → dual_line_at t i at ≡ found d p → DualParts t i at d p
unfolding dual_line_at
dual_parts_read t i at d p e =
    let x = then_value (dual_head t at) _ e in
    let y = then_value (members_at t x.1).end _ x.3 in
    let w = dual_test i y.0 in
    let m = listed_dual t x.0 x.1 in
    let n = y.1 + 1 in
    record { amount = x.0; from = x.1; last = y.0; end = y.1; head = x.2; list = y.2; fine = checked_fine w m n y.3; dual = checked_value w m n y.3; next = checked_next w m n y.3 }

-- A moat line that is refused with 16: before its members, or among them.
data DualStops (t : List ℕ) (at p : ℕ) : Type 0 where
  before : dual_head t at ≡ refused 16 p → DualStops t at p
  among : (amount from : ℕ) → dual_head t at ≡ found amount from → (members_at t from).end ≡ refused 16 p → DualStops t at p

-- A moat's test never gives 16.
pub dual_not_malformed : (i low n p : ℕ) → dual_test i low ≡ Refused n p → n ≡ 16 → ⊥
unfolding dual_test
dual_not_malformed i low n p = two_not_malformed _ _ 27 28 i i n p (λ z. omega arith) (λ z. omega arith)

-- Nothing else refuses a moat line with 16.
dual_stops : (t : List ℕ) (i at p : ℕ) → dual_line_at t i at ≡ refused 16 p → DualStops t at p
unfolding dual_line_at
dual_stops t i at p e = by_head (then_stops (dual_head t at) _ e)
  where
    ends : ℕ → ℕ → ℕ → ℕ → Step PrintedDual
    ends amount c low d = checked (dual_test i low) (listed_dual t amount c) (d + 1)

    by_list : (amount c : ℕ) → dual_head t at ≡ found amount c → Stops (members_at t c).end (ends amount c) 16 p → DualStops t at p
    by_list amount c h (early q) = among amount c h q
    by_list amount c h (late low d x y) =
        absurd (dual_not_malformed i low 16 p (checked_stops (dual_test i low) (listed_dual t amount c) (d + 1) y) refl)

    by_head : Stops (dual_head t at) (λ amount c. (members_at t c).end then ends amount c) 16 p → DualStops t at p
    by_head (early q) = before q
    by_head (late amount c x y) = by_list amount c x (then_stops (members_at t c).end _ y)

module _ (t : List ℕ) (at : ℕ) (h : at ≤ length t) where
  -- Where the members begin.
  after_head : {x c : ℕ} → dual_head t at ≡ found x c → (at < c) × (c ≤ length t)
  after_head {x} {c} e =
      let w = reads_head.sound t at x c h e in
      let s = (text_stands w).1 in
      let n = head_some x in
      (omega arith, (bound w).1)

  -- The members that are refused.
  among_broken : {x c p : ℕ} → dual_head t at ≡ found x c → (members_at t c).end ≡ refused 16 p → Broken (member_reader t) 16 p 0 0 c (members_at t c).values
  unfolding members_at
  among_broken {x} {c} e f =
      let b = after_head e in
      let a = b.0 in
      let d = b.1 in
      items_broken (member_reader t) t (item_goes lists_members t) (length t) 0 0 c d (omega arith) f

  -- A moat line that is read stands there.
  dual_sound : (i : ℕ) (d : PrintedDual) (p : ℕ) → dual_line_at t i at ≡ found d p → Word (Text DualDigits dual_text) t at d p
  unfolding members_at member_reader
  dual_sound i d p e =
      let r = dual_parts_read t i at d p e in
      let H = head_text r.amount in
      let x = reads_head.sound t at r.amount r.from h r.head in
      let s = items_standing (member_reader t) (length t) 0 0 r.from r.list in
      let y = standing_words lists_members t (bound x).1 s in
      let M = text_from member_part 0 (members_at t r.from).values in
      let a = text_stands x in
      let b = text_stands y in
      let z = byte_inside t r.end newline (items_stop (member_reader t) (length t) 0 0 r.from r.list) in
      let c = stands_append H M a.0 (subst (λ (k : ℕ). Stands t k M) a.1 b.0) in
      let ae = a.1 in
      let be = b.1 in
      let ne = r.next in
      let n = length-append H M in
      let m = length-append (H ++ M) (newline ∷ []) in
      let end : r.end ≡ at + length (H ++ M) = omega arith in
      let whole : Stands t at (H ++ M ++ (newline ∷ [])) = stands_append (H ++ M) (newline ∷ []) c (subst (λ (k : ℕ). Stands t k (newline ∷ [])) end (stands_byte t r.end newline z.0 z.1)) in
      subst (λ (f : PrintedDual). Word (Text DualDigits dual_text) t at f p) r.dual
      record {
        word = H ++ M ++ (newline ∷ []);
        member = record { holds = record { value = x.member.holds; members = y.member.holds }; word = dual_text_parts (listed_dual t r.amount r.from) };
        ends = omega arith;
        stands = whole;
      }

  -- A moat line is refused from its place on, inside the text.
  dual_place : (i p : ℕ) → dual_line_at t i at ≡ refused 16 p → (at ≤ p) × (p ≤ length t)
  dual_place i p e = by_place (dual_stops t i at p e)
    where
      by_place : DualStops t at p → (at ≤ p) × (p ≤ length t)
      by_place (before q) = reads_head.place t at p h q
      by_place (among x c q r) =
          let a = after_head q in
          let b = broken_place lists_members t a.1 (among_broken q r) in
          let a0 = a.0 in
          let b0 = b.0 in
          (omega arith, b.1)

  -- The bytes before the refusal of a moat line go on to a moat line.
  dual_extends : (i p : ℕ) → dual_line_at t i at ≡ refused 16 p → Extends (Text DualDigits dual_text) t at p
  unfolding text_from
  dual_extends i p e = by_place (dual_stops t i at p e)
    where
      by_place : DualStops t at p → Extends (Text DualDigits dual_text) t at p
      by_place (before q) =
          let x = reads_head.extends t at p h q in
          let d : PrintedDual = record { value = x.value; members = [] } in
          record {
            value = d;
            word = x.word ++ [] ++ (newline ∷ []);
            member = record { holds = record { value = x.member.holds; members = none }; word = ap (λ (y : List ℕ). y ++ [] ++ (newline ∷ [])) x.member.word ∙ dual_text_parts d };
            rest = x.rest ++ (newline ∷ []);
            whole =
                sym (append_assoc (take p t) x.rest (newline ∷ []))
                ∙ ap (λ (y : List ℕ). y ++ (newline ∷ [])) x.whole
                ∙ append_assoc (take at t) x.word (newline ∷ [])
                ∙ ap (λ (y : List ℕ). take at t ++ (y ++ (newline ∷ []))) (sym (append-nil x.word));
          }
      by_place (among x c q r) =
          let w = reads_head.sound t at x c h q in
          let z = broken_extends lists_members t (after_head q).1 (among_broken q r) in
          let d : PrintedDual = record { value = x; members = z.value } in
          record {
            value = d;
            word = w.word ++ z.word ++ (newline ∷ []);
            member = record {
              holds = record { value = w.member.holds; members = z.member.holds };
              word = ap (λ (y : List ℕ). y ++ z.word ++ (newline ∷ [])) w.member.word ∙ ap (λ (y : List ℕ). head_text x ++ y ++ (newline ∷ [])) z.member.word ∙ dual_text_parts d;
            };
            rest = z.rest ++ (newline ∷ []);
            whole =
                sym (append_assoc (take p t) z.rest (newline ∷ []))
                ∙ ap (λ (y : List ℕ). y ++ (newline ∷ [])) (z.whole ∙ ap (λ (k : ℕ). take k t ++ z.word) w.ends ∙ ap (λ (y : List ℕ). y ++ z.word) w.stands.is ∙ append_assoc (take at t) w.word z.word)
                ∙ append_assoc (take at t) (w.word ++ z.word) (newline ∷ []);
          }

  -- A moat line is read again from a text with the same bytes up to the one behind it.
  dual_again : (u : List ℕ) (i : ℕ) (d : PrintedDual) (p q : ℕ) → p ≤ q → take (q + 1) t ≡ take (q + 1) u → dual_line_at t i at ≡ found d p → dual_line_at u i at ≡ found d p
  unfolding dual_line_at members_at ◌then◌ checked
  dual_again u i d p q l k e =
      let r = dual_parts_read t i at d p e in
      let a = after_head r.head in
      let a0 = a.0 in
      let s = items_standing (member_reader t) (length t) 0 0 r.from r.list in
      let b = (standing_long lists_members t a.1 s).0 in
      let n = r.next in
      then_found _ (read_again reads_head t u at r.amount r.from (q + 1) h (omega arith) k r.head)
      ∙ ap (λ (L : Lines ℕ ℕ). L.end then λ low y. checked (dual_test i low) (record { value = r.amount; members = L.values }) (y + 1)) (items_again lists_members t u 0 0 r.from q (omega arith) a.1 (omega arith) k r.list)
      ∙ ap (λ (v : Verdict). checked v (listed_dual t r.amount r.from) (r.end + 1)) r.fine
      ∙ ap (λ (y : PrintedDual). found y (r.end + 1)) r.dual
      ∙ ap (λ (y : ℕ). found d y) n

  -- A moat line is refused again.
  dual_same : (u : List ℕ) (i p : ℕ) → dual_line_at t i at ≡ refused 16 p → take (p + 1) t ≡ take (p + 1) u → dual_line_at u i at ≡ refused 16 p
  unfolding dual_line_at members_at ◌then◌
  dual_same u i p e k = by_place (dual_stops t i at p e)
    where
      by_place : DualStops t at p → dual_line_at u i at ≡ refused 16 p
      by_place (before q) = then_refused _ (reads_head.same t u at p h q k)
      by_place (among x c q r) =
          let a = after_head q in
          let a0 = a.0 in
          let b = (broken_place lists_members t a.1 (among_broken q r)).0 in
          then_found _ (read_again reads_head t u at x c (p + 1) h (omega arith) k q)
          ∙ ap (λ (L : Lines ℕ ℕ). L.end then λ low y. checked (dual_test i low) (record { value = x; members = L.values }) (y + 1)) (items_broken_again lists_members t u 0 0 c p (omega arith) a.1 k r)

-- Moat lines are the texts of their moats.
pub lists_duals : ListsItems dual_reader DualDigits (λ i. dual_text)
unfolding dual_reader
lists_duals =
    record {
      some = λ i. dual_some;
      sound = λ t low i at d p h. dual_sound t at h i d p;
      place = λ t low i at p h. dual_place t at h i p;
      extends = λ t low i at p h. dual_extends t at h i p;
      stops = λ t u at q h k. end_alike t u at q h k;
      reads = λ t u low i at d p q h l k. dual_again t at h u i d p q l k;
      after = λ t u low d. refl;
      same = λ t u low i at p h. dual_same t at h u i p;
    }
