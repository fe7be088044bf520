-- Members as bits: two records ored have the members of both (`ored_records`), and a component that a round makes has the members of its two parts
-- (`union_of_parts`). The replay's laws use them.
use Prim.Native.Nat.{ℕ, zero, suc, ◌+◌, ◌*◌, ◌-◌, ◌/◌, ◌%◌, ◌^◌, max, ◌≤◌, ◌<◌}
use native.Mathlib.Omega.{arith}
use Rattle.std.specs.Prelude.{◌≡◌, refl, Bool, true, false, ◌||◌, List, [], ◌∷◌, ◌++◌, length, get_or, take, drop, eqb}
use Rattle.std.proofs.Common.{ap, ap₂, ◌∙◌, subst, length-take, length-drop, length-append, ext_get_or, get_or-append-add, drop_at, drop-drop, eq-eqb, ne_eqb, lt-ltb, le-ltb, le-leb, eqb-true}
use Rattle.std.proofs.Math.Path.{sym, fun_ext}
use Rattle.std.proofs.Math.Logic.{⊎_elim}
use Rattle.std.specs.Int.Bits.{bit_or, or_step, or_zero_r}
use Rattle.std.proofs.lemmas.Nat.{or_shr, or_lt}
use Rattle.std.proofs.Math.Nat.{add-sub_cancel_left}
use Rattle.std.proofs.Math.Decide.{ℕ_discrete}
use Rattle.std.proofs.lemmas.List.{get_or-replicate}
use Rattle.std.proofs.Math.ListN.{get_or-append}
use Rattle.std.proofs.lemmas.Bool.{lt-leb}
use Rattle.base_finite.specs.Laws.Test.{either, true_not_false, not_true_false}
use Rattle.base_finite.specs.Laws.Below.{lt_or_ge, get_d_tabulate}
use Rattle.base_buffer.proofs.Laws.Store.{length_remade, remade_passed}
use Rattle.base_limits.specs.Limits.{value_bytes, member_bytes, record_bytes}
use Rattle.format_record.specs.Bits.{bit_at, byte_of, bytes_of, low_bytes}
use Rattle.format_record.specs.Record.{record_of, with_value}
use Rattle.format_record.proofs.Laws.Bits.{byte_lt, bit_of_byte, byte_of_bits, byte_cong}
use Rattle.format_record.proofs.Laws.Bytes.{length_low}
use Rattle.format_record.proofs.Laws.Record.{length_record, record_of_none, overwritten_fits}
use Rattle.theory_graph.specs.Component.{merged}
use Rattle.plan_draw.specs.Trace.{Trace, label_after, member_of}
use Rattle.plan_draw.specs.Drawing.{records_of, records_over, records_from, record_put, is_put, dual_put, count_put, dual_if, RecordsFit}
use Rattle.plan_draw.specs.Members.{no_member, ored, copied}
use Rattle.plan_draw.proofs.Laws.Drawing.{from_none, from_one, dual_none, dual_one}

-- ---- bits

test_max : (x y : ℕ) → x < 2 → y < 2 → eqb (max x y) 1 ≡ (eqb x 1 || eqb y 1)
test_max zero zero a b = refl
test_max zero (suc zero) a b = refl
test_max (suc zero) zero a b = refl
test_max (suc zero) (suc zero) a b = refl
test_max zero (suc (suc y)) a b = absurd (omega arith)
test_max (suc zero) (suc (suc y)) a b = absurd (omega arith)
test_max (suc (suc x)) y a b = absurd (omega arith)

max_lt : (x y : ℕ) → x < 2 → y < 2 → max x y < 2
max_lt x y a b = omega arith

-- A bit is set in one or the other.
bit_or_law : (a b k : ℕ) → bit_at (bit_or a b) k ≡ (bit_at a k || bit_at b k)
unfolding bit_at
bit_or_law a b k =
    let p = a / 2 ^ k in
    let q = b / 2 ^ k in
    let low : bit_or p q % 2 ≡ max (p % 2) (q % 2) = omega (arith, or_step p q, max_lt (p % 2) (q % 2) (omega arith) (omega arith)) in
    ap (λ x. eqb (x % 2) 1) (or_shr a b k) ∙ ap (λ x. eqb x 1) low ∙ test_max (p % 2) (q % 2) (omega arith) (omega arith)

byte_or : (S T : ℕ → Bool) → bit_or (byte_of S) (byte_of T) ≡ byte_of (λ k. S k || T k)
byte_or S T =
    let b = bit_or (byte_of S) (byte_of T) in
    sym (byte_of_bits b (or_lt 8 (byte_of S) (byte_of T) (byte_lt S) (byte_lt T)))
    ∙ byte_cong (bit_at b) (λ k. S k || T k) (λ k l. bit_or_law (byte_of S) (byte_of T) k ∙ ap₂ (λ x y. x || y) (bit_of_byte S k l) (bit_of_byte T k l))

-- ---- records

low_at_law : (x : ℕ) (S : ℕ → Bool) (i : ℕ) → i < value_bytes → get_or (record_of x S) i 0 ≡ get_or (low_bytes value_bytes x) i 0
unfolding record_of
low_at_law x S i b = get_or-append (low_bytes value_bytes x) (bytes_of member_bytes S) 0 i (omega (arith, length_low value_bytes x))

members_at_law : (x : ℕ) (S : ℕ → Bool) (j : ℕ) → j < member_bytes → get_or (record_of x S) (value_bytes + j) 0 ≡ byte_of (λ k. S (8 * j + k))
unfolding record_of bytes_of
members_at_law x S j b =
    ap (λ n. get_or (low_bytes value_bytes x ++ bytes_of member_bytes S) (n + j) 0) (sym (length_low value_bytes x))
    ∙ get_or-append-add (low_bytes value_bytes x) (bytes_of member_bytes S) j 0
    ∙ get_d_tabulate member_bytes (λ i. byte_of (λ k. S (8 * i + k))) j 0 b

low_of_zero : (i : ℕ) → i < value_bytes → get_or (low_bytes value_bytes 0) i 0 ≡ 0
unfolding low_bytes
low_of_zero i b = get_or-replicate value_bytes i 0 0 b

-- The members of both, and the first one's value.
pub ored_records : (x : ℕ) (S T : ℕ → Bool) → ored (record_of x S) (record_of 0 T) ≡ record_of x (λ v. S v || T v)
unfolding ored
ored_records x S T =
    let long : length (ored (record_of x S) (record_of 0 T)) ≡ record_bytes = length_remade or record_bytes (record_of x S) ∙ length_record x S in
    ext_get_or 0 (ored (record_of x S) (record_of 0 T)) (record_of x (λ v. S v || T v)) (long ∙ sym (length_record x (λ v. S v || T v)))
    (λ i b.
    remade_passed or record_bytes (record_of x S) i (omega (arith, long)) (omega (arith, long, length_record x S))
    ∙ ⊎_elim (low i) (high i (omega (arith, long))) (lt_or_ge i value_bytes))
  where
    or : ℕ → ℕ → ℕ
    or i b = bit_or b (get_or (record_of 0 T) i 0)

    low : (i : ℕ) → i < value_bytes → bit_or (get_or (record_of x S) i 0) (get_or (record_of 0 T) i 0) ≡ get_or (record_of x (λ v. S v || T v)) i 0
    low i b =
        ap₂ bit_or (low_at_law x S i b) (low_at_law 0 T i b ∙ low_of_zero i b)
        ∙ or_zero_r (get_or (low_bytes value_bytes x) i 0)
        ∙ sym (low_at_law x (λ v. S v || T v) i b)

    at : (j : ℕ) → j < member_bytes →
        bit_or (get_or (record_of x S) (value_bytes + j) 0) (get_or (record_of 0 T) (value_bytes + j) 0) ≡ get_or (record_of x (λ v. S v || T v)) (value_bytes + j) 0
    at j b =
        ap₂ bit_or (members_at_law x S j b) (members_at_law 0 T j b)
        ∙ byte_or (λ k. S (8 * j + k)) (λ k. T (8 * j + k))
        ∙ sym (members_at_law x (λ v. S v || T v) j b)

    high : (i : ℕ) → i < record_bytes → value_bytes ≤ i →
        bit_or (get_or (record_of x S) i 0) (get_or (record_of 0 T) i 0) ≡ get_or (record_of x (λ v. S v || T v)) i 0
    high i b c =
        let j : ℕ = i - value_bytes in
        let e : value_bytes + j ≡ i = omega arith in
        subst (λ k. bit_or (get_or (record_of x S) k 0) (get_or (record_of 0 T) k 0) ≡ get_or (record_of x (λ v. S v || T v)) k 0) e (at j (omega arith))

-- No member.
pub no_member_record : no_member ≡ record_of 0 (λ v. false)
unfolding low_bytes
no_member_record = sym (record_of_none 0 (omega arith) ∙ refl)

-- Which default is given does not matter at a place of the list.
pub at_any : (sets : List (List ℕ)) (k : ℕ) (d e : List ℕ) → k < length sets → get_or sets k d ≡ get_or sets k e
at_any [] k d e b = absurd (omega arith)
at_any (s ∷ sets) zero d e b = refl
at_any (s ∷ sets) (suc k) d e b = at_any sets k d e (omega arith)

-- A record in a part of its length.
pub copied_whole : (r part : List ℕ) → length r ≡ record_bytes → length part ≡ record_bytes → copied r part ≡ r
unfolding copied
copied_whole r part a b =
    let long : length (copied r part) ≡ record_bytes = length_remade (λ i x. get_or r i 0) record_bytes part ∙ b in
    ext_get_or 0 (copied r part) r (long ∙ sym a) (λ i l. remade_passed (λ i x. get_or r i 0) record_bytes part i (omega arith) (omega arith))

-- The part of a buffer that is lent for record k, put back with these bytes.
pub put_whole : (k : ℕ) (old : List ℕ) {r new : List ℕ} → new ≡ r →
    take (record_bytes * k) old ++ (new ++ drop (record_bytes * k + record_bytes - record_bytes * k) (drop (record_bytes * k) old)) ≡ record_put k r old
unfolding record_put
put_whole k old h = rw (h, add-sub_cancel_left (record_bytes * k) record_bytes, drop-drop record_bytes (record_bytes * k) old)

-- That part has a record's length.
pub place_long : (k : ℕ) (old : List ℕ) → record_bytes * (k + 1) ≤ length old →
    length (take (record_bytes * k + record_bytes - record_bytes * k) (drop (record_bytes * k) old)) ≡ record_bytes
place_long k old fits = simp (length-take, length-drop) (omega arith)

-- A value written over that of a record.
value_written : (x : ℕ) (S : ℕ → Bool) → with_value (record_of 0 S) x ≡ record_of x S
unfolding with_value record_of
value_written x S =
    let low = low_bytes value_bytes x in
    let rest = bytes_of member_bytes S in
    overwritten_fits (low_bytes value_bytes 0 ++ rest) low (omega (arith, length_low value_bytes x, length_low value_bytes 0, length-append (low_bytes value_bytes 0) rest))
    ∙ ap (λ l. low ++ l) (drop_at (low_bytes value_bytes 0) rest (length low) (length_low value_bytes 0 ∙ sym (length_low value_bytes x)))

-- Whether a dual is put, by its value and by the room.
pub put_none : (k x : ℕ) (old : List ℕ) → x ≡ 0 → is_put k x old ≡ false
unfolding is_put
put_none k x old e = rw e refl

pub put_no_room : (k x : ℕ) (old : List ℕ) → 0 < x → length old < record_bytes * (k + 1) → is_put k x old ≡ false
unfolding is_put
put_no_room k x old some h = rw (lt-ltb 0 x some, lt-leb (record_bytes * (k + 1)) (length old) h)

pub put_one : (k x : ℕ) (old : List ℕ) → 0 < x → record_bytes * (k + 1) ≤ length old → is_put k x old ≡ true
unfolding is_put
put_one k x old some h = rw (lt-ltb 0 x some, le-leb (record_bytes * (k + 1)) (length old) h)

-- What is put for a value and a record of members are the records of the dual.
pub put_dual_law : (k x : ℕ) (S : ℕ → Bool) (old : List ℕ) {set : List ℕ} → RecordsFit (k + 1) old → set ≡ record_of 0 S →
    (count_put k x old ≡ k + length (dual_if x S)) × (dual_put k x set old ≡ records_from k (dual_if x S) old)
unfolding dual_put count_put record_put records_from records_over records_of
put_dual_law k x S old {set} fits h = by (ℕ_discrete x 0)
  where
    by : Dec (x ≡ 0) → (count_put k x old ≡ k + length (dual_if x S)) × (dual_put k x set old ≡ records_from k (dual_if x S) old)
    by (yes e) =
        let none = dual_none x S e in
        let still : is_put k x old ≡ false = put_none k x old e in
        (rw (none, still) (omega arith), rw (none, still) (from_none k old))
    by (no d) =
        let one = dual_one x S d in
        let more : is_put k x old ≡ true = put_one k x old (omega (arith, d)) fits.room in (
          rw (one, more) refl,
          rw (one, more, h, value_written x S) (sym (put_whole k old {r = record_of x S} {new = record_of x S} refl) ∙ from_one k (record { value = x; holds = S }) old refl),
        )

-- ---- members of components

module _ (t : Trace) where
  -- One of the two components that round r merges has v.
  meets : (r v : ℕ) → Bool
  meets r v = eqb (label_after t r v) (label_after t r (t.first r)) || eqb (label_after t r v) (label_after t r (t.second r))

  label_new : (r v : ℕ) → meets r v ≡ true → label_after t (suc r) v ≡ t.vertices + r
  unfolding label_after merged meets
  label_new r v h = rw h

  label_old : (r v : ℕ) → meets r v ≡ false → label_after t (suc r) v ≡ label_after t r v
  unfolding label_after merged meets
  label_old r v h = rw h

  pub label_below_law : (r v : ℕ) → v < t.vertices → label_after t r v < t.vertices + r
  unfolding label_after
  label_below_law zero v b = omega arith
  label_below_law (suc r) v b =
      let ih = label_below_law r v b in
      ⊎_elim (λ h. omega (arith, label_new r v h)) (λ h. omega (arith, label_old r v h)) (either (meets r v))

  -- The members of the component that round r makes.
  made_members : (r v : ℕ) → v < t.vertices → member_of t (t.vertices + r) v ≡ eqb (label_after t (suc r) v) (t.vertices + r)
  unfolding member_of
  made_members r v b =
      let e : t.vertices + r + 1 - t.vertices ≡ suc r = omega arith in
      rw (lt-ltb v t.vertices b, e)

  meets_same : (r v w : ℕ) → label_after t r v ≡ label_after t r w → meets r v ≡ meets r w
  unfolding meets
  meets_same r v w e = rw e

  -- Only vertices are members.
  past : (c v : ℕ) → t.vertices ≤ v → member_of t c v ≡ false
  unfolding member_of
  past c v b = rw (le-ltb v t.vertices b)

  -- The members that a component had when it arose are those that have its number as long as one vertex has.
  part_members : (r a v : ℕ) → a < t.vertices → v < t.vertices → eqb (label_after t r v) (label_after t r a) ≡ member_of t (label_after t r a) v
  unfolding member_of label_after
  part_members zero a v b c =
      let e : a + 1 - t.vertices ≡ 0 = omega arith in
      rw (lt-ltb v t.vertices c, e)
  part_members (suc r) a v b c = ⊎_elim new (old (part_members r a v b c)) (either (meets r a))
    where
      x : ℕ
      x = label_after t r a

      new : meets r a ≡ true → eqb (label_after t (suc r) v) (label_after t (suc r) a) ≡ member_of t (label_after t (suc r) a) v
      new h = rw (label_new r a h) (sym (made_members r v c))

      passed : meets r a ≡ false → meets r v ≡ true → eqb (t.vertices + r) x ≡ eqb (label_after t r v) x
      passed h k =
          let apart : eqb (label_after t r v) x ≡ false = not_true_false (eqb (label_after t r v) x) (λ e. same_meets (eqb-true (label_after t r v) x e)) in
          ne_eqb (t.vertices + r) x (λ e. omega (arith, label_below_law r a b)) ∙ sym apart
        where
          same_meets : label_after t r v ≡ x → ⊥
          same_meets e = true_not_false (meets r v) k (meets_same r v a e ∙ h)

      old : eqb (label_after t r v) x ≡ member_of t x v → meets r a ≡ false → eqb (label_after t (suc r) v) (label_after t (suc r) a) ≡ member_of t (label_after t (suc r) a) v
      old ih h =
          rw (label_old r a h)
          (⊎_elim (λ k. ap (λ l. eqb l x) (label_new r v k) ∙ passed h k) (λ k. ap (λ l. eqb l x) (label_old r v k)) (either (meets r v))
          ∙ ih)

  -- A single vertex.
  pub single_members : (c : ℕ) → c < t.vertices → member_of t c ≡ (λ v. eqb v c)
  unfolding label_after
  single_members c b =
      fun_ext
      (λ v.
      ⊎_elim
      (λ l. sym (part_members 0 c v b l))
      (λ l. past c v l ∙ sym (ne_eqb v c (λ e. omega arith)))
      (lt_or_ge v t.vertices))

  -- What round r makes has the members of both components that it merges.
  pub union_of_parts : (r : ℕ) → t.first r < t.vertices → t.second r < t.vertices →
      member_of t (t.vertices + r) ≡ (λ v. member_of t (label_after t r (t.first r)) v || member_of t (label_after t r (t.second r)) v)
  unfolding meets
  union_of_parts r a b = fun_ext (λ v. ⊎_elim (inside v) (outside v) (lt_or_ge v t.vertices))
    where
      n : ℕ
      n = t.vertices

      made : (v : ℕ) → v < n → eqb (label_after t (suc r) v) (n + r) ≡ meets r v
      made v c =
          ⊎_elim
          (λ h. eq-eqb (label_after t (suc r) v) (n + r) (label_new r v h) ∙ sym h)
          (λ h. ne_eqb (label_after t (suc r) v) (n + r) (λ e. omega (arith, label_old r v h, label_below_law r v c)) ∙ sym h)
          (either (meets r v))

      inside : (v : ℕ) → v < n → member_of t (n + r) v ≡ (member_of t (label_after t r (t.first r)) v || member_of t (label_after t r (t.second r)) v)
      inside v c =
          made_members r v c ∙ made v c
          ∙ ap₂ (λ x y. x || y) (part_members r (t.first r) v a c) (part_members r (t.second r) v b c)

      outside : (v : ℕ) → n ≤ v → member_of t (n + r) v ≡ (member_of t (label_after t r (t.first r)) v || member_of t (label_after t r (t.second r)) v)
      outside v c = rw (past (n + r) v c, past (label_after t r (t.first r)) v c, past (label_after t r (t.second r)) v c)
