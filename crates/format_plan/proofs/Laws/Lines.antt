-- Laws of the lines of a plan: what their numbers are, and what they store.
use Rattle.std.specs.Prelude.{ℕ, zero, suc, ◌+◌, ◌*◌, ◌-◌, ◌/◌, ◌≤◌, ◌<◌, Bool, true, false, ◌||◌, cond, List, [], ◌∷◌, ◌++◌, take, drop, eqb, ltb, leb}
use Rattle.std.proofs.Common.{arith, ap, sym, ◌∙◌, subst, append_assoc, drop-drop, ltb-true, ltb-false, leb-true, leb-false, lt-ltb, le-ltb}
use Rattle.std.proofs.Math.Path.{◌≡◌, refl}
use Rattle.std.proofs.Math.ListN.{length}
use Rattle.std.proofs.lemmas.List.Edits.{sets, sets-eq}
use Rattle.std.proofs.lemmas.Bool.{lt-leb}
use Rattle.base_limits.specs.Limits.{value_bytes, member_bytes, record_bytes}
use Rattle.base_limits.specs.Laws.Verdict.{no_refusal}
use Rattle.base_limits.specs.declared.Verdict.TheVariants.{Fine, Refused}
use Rattle.format_record.specs.Bits.{low_bytes}
use Rattle.format_record.proofs.Laws.Bits.{bytes_cong}
use Rattle.format_record.specs.Record.{record_of, started_as}
use Rattle.format_record.proofs.Laws.Record.{started_whole, member_added_record, length_record}
use Rattle.format_write.specs.Key.{newline}
use Rattle.format_plan.specs.Lines.{kept_test, keep_line, risen, member_reader, members_at, dual_test, dual_line_at, dual_head, listed_dual, PrintedDual, dual_record, dual_reader, put_member, put_dual, is_in, member_numbers}
use Rattle.format_plan.specs.LinesAnswer.{Members, forgotten, dual_stored, DualRead}
use Rattle.format_plan.proofs.Laws.Tests.{kept_low, kept_high, risen_low, risen_high}
use Rattle.format_plan.proofs.Laws.Puts.{dual_length}
use Rattle.format_read.specs.Items.{items_from, puts, Ends}
use Rattle.format_read.specs.Language.{none, more}
use Rattle.format_read.specs.Lines.{following, Lines}
use Rattle.format_read.proofs.Laws.Bytes.{byte_inside}
use Rattle.format_read.proofs.Laws.Items.{left_length, ItemsLeft, left_more, left_refused, items_stop}
use Rattle.format_read.proofs.Laws.Step.{then_value, checked_fine, checked_value}
use Rattle.format_read.specs.Step.{Step, found, refused, checked, ◌then◌}

-- A kept track that passes its test.
pub record Kept (m low e : ℕ) : Type 0 where
  pub rises : low ≤ e
  pub below : e < m

pub kept_passed : (m low i e : ℕ) → kept_test m low i e ≡ Fine → Kept m low e
kept_passed m low i e f = by_tests (ltb e low) (leb m e) refl refl
  where
    by_tests : (a b : Bool) → ltb e low ≡ a → leb m e ≡ b → Kept m low e
    by_tests true b p q = absurd (no_refusal (kept_low m low i e (ltb-true e low p)) f)
    by_tests false true p q = absurd (no_refusal (kept_high m low i e (ltb-false e low p) (leb-true m e q)) f)
    by_tests false false p q = record { rises = ltb-false e low p; below = leb-false m e q }

pub keep_passed : (t : List ℕ) (m low i at : ℕ) {e next : ℕ} → keep_line t m low i at ≡ found e next → Kept m low e
unfolding keep_line
keep_passed t m low i at {e} {next} q =
    let f = then_value _ (λ x p. checked (kept_test m low i x) x p) q in
    subst (λ x. Kept m low x) (checked_value _ _ _ f.3) (kept_passed m low i f.0 (checked_fine _ _ _ f.3))

-- Members that rise to their end are all members.
record Risen (low : ℕ) (vs : List ℕ) : Type 0 where
  start : low ≤ member_numbers
  all : Members vs

pub risen_rises : (low v : ℕ) → risen low v ≤ member_numbers → (low ≤ v) × (v < member_numbers)
risen_rises low v h = by_tests (ltb v low) (leb member_numbers v) refl refl
  where
    by_tests : (a b : Bool) → ltb v low ≡ a → leb member_numbers v ≡ b → (low ≤ v) × (v < member_numbers)
    by_tests true b p q = let z = risen_low low v (ltb-true v low p) in absurd (omega arith)
    by_tests false true p q = let z = risen_high low v (ltb-false v low p) (leb-true member_numbers v q) in absurd (omega arith)
    by_tests false false p q = (ltb-false v low p, leb-false member_numbers v q)

items_risen : (t : List ℕ) (fuel low i at : ℕ) {n p : ℕ} → (items_from (member_reader t) fuel low i at).end ≡ found n p → n ≤ member_numbers → Risen low (items_from (member_reader t) fuel low i at).values
unfolding items_from following member_reader
items_risen t zero low i at e h = let z : ◌≡◌ {A = ℕ} 0 1 = cc in absurd (omega arith)
items_risen t (suc fuel) low i at {n} {p} e h = by_stop ((member_reader t).stop at) ((member_reader t).item low i at) (λ l k e. items_risen t fuel l (i + 1) k e h) e
  where
    by_stop : (b : Bool) (s : Step ℕ) → ((l k : ℕ) → (items_from (member_reader t) fuel l (i + 1) k).end ≡ found n p → Risen l (items_from (member_reader t) fuel l (i + 1) k).values)
        → (cond b (record { values = []; end = found low at }) (following s (λ a next. items_from (member_reader t) fuel (risen low a) (i + 1) next))).end ≡ found n p
        → Risen low (cond b (record { values = []; end = found low at }) (following s (λ a next. items_from (member_reader t) fuel (risen low a) (i + 1) next))).values
    by_stop true s ih e = let same : low ≡ n = cc in record { start = omega arith; all = none }
    by_stop false (found a next) ih e =
        let r = ih (risen low a) next e in
        let k = risen_rises low a r.start in
        let k0 = k.0 in
        let k1 = k.1 in
        record { start = omega arith; all = more k1 r.all }
    by_stop false (refused x y) ih e = let z : ◌≡◌ {A = ℕ} 0 1 = cc in absurd (omega arith)

pub listed_below : (t : List ℕ) (at : ℕ) {low p : ℕ} → (members_at t at).end ≡ found low p → low ≤ member_numbers → Members (members_at t at).values
unfolding members_at
listed_below t at e h = (items_risen t (length t) 0 0 at e h).all

-- ---- records

or_assoc : (a b c : Bool) → ((a || b) || c) ≡ (a || (b || c))
or_assoc true b c = refl
or_assoc false b c = refl

record_cong : (a : ℕ) (S T : ℕ → Bool) → ((v : ℕ) → S v ≡ T v) → record_of a S ≡ record_of a T
unfolding record_of
record_cong a S T h = ap (λ l. low_bytes value_bytes a ++ l) (bytes_cong member_bytes S T (λ v b. h v))

or_false : (b : Bool) → (b || false) ≡ b
or_false true = refl
or_false false = refl

members_added : (a : ℕ) (S : ℕ → Bool) (i : ℕ) (vs : List ℕ) → Members vs → puts put_member (record_of a S) i vs ≡ record_of a (λ w. S w || is_in vs w)
unfolding puts is_in
members_added a S i [] none = record_cong a S (λ w. S w || false) (λ v. sym (or_false (S v)))
members_added a S i (v ∷ vs) (more h hs) =
    ap (λ l. puts put_member l (i + 1) vs) (member_added_record a S v h)
    ∙ members_added a (λ w. S w || eqb w v) (i + 1) vs hs
    ∙ record_cong a _ _ (λ w. or_assoc (S w) (eqb w v) (is_in vs w))

-- A record that is started, and to which members are added, is that of the moat.
pub record_filled : (part : List ℕ) (a : ℕ) (vs : List ℕ) → length part ≡ record_bytes → Members vs → puts put_member (started_as part a) 0 vs ≡ dual_record (record { value = a; members = vs })
unfolding dual_record
record_filled part a vs h each =
    ap (λ l. puts put_member l 0 vs) (started_whole part a h)
    ∙ members_added a (λ v. false) 0 vs each

pub length_dual_record : (d : PrintedDual) → length (dual_record d) ≡ record_bytes
unfolding dual_record
length_dual_record d = length_record d.value (is_in d.members)

pub dual_put_law : (records : List ℕ) (i : ℕ) (d : PrintedDual) → i < length records / record_bytes → put_dual records i d ≡ take (record_bytes * i) records ++ (dual_record d ++ drop (record_bytes * i + record_bytes) records)
unfolding put_dual
dual_put_law records i d h =
    let n = length_dual_record d in
    let at : sets records (record_bytes * i) (dual_record d) ≡ take (record_bytes * i) records ++ (dual_record d ++ drop (record_bytes * i + length (dual_record d)) records) = sets-eq (dual_record d) records (record_bytes * i) (omega arith) ∙ append_assoc (take (record_bytes * i) records) (dual_record d) _ in
    let all : take (record_bytes * i) records ++ (dual_record d ++ drop (record_bytes * i + length (dual_record d)) records) ≡ take (record_bytes * i) records ++ (dual_record d ++ drop (record_bytes * i + record_bytes) records) = ap (λ (k : ℕ). take (record_bytes * i) records ++ (dual_record d ++ drop (record_bytes * i + k) records)) n in
    rw (lt-ltb i (length records / record_bytes) h) (at ∙ all)

pub dual_left : (records : List ℕ) (i : ℕ) (d : PrintedDual) → length records / record_bytes ≤ i → put_dual records i d ≡ records
unfolding put_dual
dual_left records i d h = rw (le-ltb i (length records / record_bytes) h)

-- ---- moat lines

module _ (t : List ℕ) (i at : ℕ) {records records' : List ℕ} where
  pub dual_stops : {n p : ℕ} → dual_head t at ≡ refused n p → records' ≡ records → DualRead (dual_line_at t i at) (refused n p) i records records'
  unfolding dual_line_at ◌then◌ forgotten dual_stored
  dual_stops e r = rw e record { end = refl; stored = r }

  module _ {amount c : ℕ} (head : dual_head t at ≡ found amount c) where
    pub dual_unlisted : {n p : ℕ} → (members_at t c).end ≡ refused n p → records' ≡ records → DualRead (dual_line_at t i at) (refused n p) i records records'
    unfolding dual_line_at ◌then◌ forgotten dual_stored
    dual_unlisted e r = rw (head, e) record { end = refl; stored = r }

    pub dual_refused : {low d n p : ℕ} → (members_at t c).end ≡ found low d → dual_test i low ≡ Refused n p → records' ≡ records → DualRead (dual_line_at t i at) (refused n p) i records records'
    unfolding dual_line_at ◌then◌ checked forgotten dual_stored
    dual_refused e f r = rw (head, e, f) record { end = refl; stored = r }

    pub dual_read : {low d : ℕ} → (members_at t c).end ≡ found low d → dual_test i low ≡ Fine → records' ≡ put_dual records i (listed_dual t amount c) → DualRead (dual_line_at t i at) (found 0 (d + 1)) i records records'
    unfolding dual_line_at ◌then◌ checked forgotten dual_stored
    dual_read e f r = rw (head, e, f) record { end = refl; stored = r }

-- One turn of the loop over the moat lines.
module _ (t : List ℕ) (whole : Lines ℕ PrintedDual) (old : List ℕ) (i at : ℕ) (buffer buffer' : List ℕ) where
  pub duals_more : {z next : ℕ} → i < length t → at < length t → found z next ≡ forgotten (dual_line_at t i at) → buffer' ≡ dual_stored (dual_line_at t i at) buffer i
      → ItemsLeft (dual_reader t) put_dual whole old (length t) i i at buffer → ItemsLeft (dual_reader t) put_dual whole old (length t) (i + 1) (i + 1) next buffer'
  unfolding forgotten dual_stored dual_reader
  duals_more {z} {next} h k e s l = by_line (dual_line_at t i at) refl e s
    where
      by_line : (x : Step PrintedDual) → dual_line_at t i at ≡ x → found z next ≡ forgotten x → buffer' ≡ dual_stored x buffer i → ItemsLeft (dual_reader t) put_dual whole old (length t) (i + 1) (i + 1) next buffer'
      by_line (found d p) q e s =
          let same : p ≡ next = cc in
          rw s (subst (λ (x : ℕ). ItemsLeft (dual_reader t) put_dual whole old (length t) (i + 1) (i + 1) x (put_dual buffer i d)) same (left_more (dual_reader t) put_dual whole old (length t) i i at buffer h (lt-leb (length t) at k) q l))
      by_line (refused n p) q e s = let w : ◌≡◌ {A = ℕ} 0 1 = cc in absurd (omega arith)

  pub duals_refused : {n p : ℕ} → i < length t → at < length t → refused n p ≡ forgotten (dual_line_at t i at) → buffer' ≡ dual_stored (dual_line_at t i at) buffer i
      → ItemsLeft (dual_reader t) put_dual whole old (length t) i i at buffer → Ends put_dual whole old (refused n p) buffer' × (length buffer' ≡ length old)
  unfolding forgotten dual_stored dual_reader
  duals_refused {n} {p} h k e s l = by_line (dual_line_at t i at) refl e s
    where
      by_line : (x : Step PrintedDual) → dual_line_at t i at ≡ x → refused n p ≡ forgotten x → buffer' ≡ dual_stored x buffer i → Ends put_dual whole old (refused n p) buffer' × (length buffer' ≡ length old)
      by_line (found d y) q e s = let w : ◌≡◌ {A = ℕ} 0 1 = cc in absurd (omega arith)
      by_line (refused x y) q e s =
          let r : dual_line_at t i at ≡ refused n p = cc in
          rw s (left_refused (dual_reader t) put_dual whole old (length t) i i at buffer h (lt-leb (length t) at k) r l, left_length put_dual dual_length l)

pub members_end : (t : List ℕ) (at : ℕ) {low p : ℕ} → (members_at t at).end ≡ found low p → p < length t
unfolding members_at member_reader
members_end t at {low} {p} e = (byte_inside t p newline (items_stop (member_reader t) (length t) 0 0 at e)).0

-- The record in the part of the buffer that is lent for it.
pub dual_put_part : (records : List ℕ) (i : ℕ) (d : PrintedDual) → i < length records / record_bytes
    → take (record_bytes * i) records ++ (dual_record d ++ drop (record_bytes * i + record_bytes - record_bytes * i) (drop (record_bytes * i) records)) ≡ put_dual records i d
dual_put_part records i d h =
    let n : record_bytes * i + record_bytes - record_bytes * i ≡ record_bytes = omega arith in
    ap (λ (k : ℕ). take (record_bytes * i) records ++ (dual_record d ++ drop k (drop (record_bytes * i) records))) n
    ∙ ap (λ (l : List ℕ). take (record_bytes * i) records ++ (dual_record d ++ l)) (drop-drop record_bytes (record_bytes * i) records)
    ∙ sym (dual_put_law records i d h)
