-- Laws of bits in a byte and of members in bytes, for any number of bytes (document 01, 'Note from the buyer': the membership-bit
-- facts). Records, the planner's writes and the checker's reads rest on them.
use Rattle.std.specs.Prelude.{ℕ, zero, suc, ◌+◌, ◌*◌, ◌-◌, ◌/◌, ◌%◌, ◌^◌, ◌≤◌, ◌<◌, ◌≡◌, refl, Bool, true, false, ◌||◌, List, eqb, length, get_or, set}
use Rattle.std.proofs.Common.{arith, pow-suc, mul_assoc, mul-one, one-mul, mod-eq_of_lt, one-add, pow_pos, pow_mono, pow-add, shr-shr, shl_exact, eq-eqb, ne_eqb, eqb-true, ap, sym, ◌∙◌, ⊎_elim, lit<, length-set, get_or-set_same, get_or-set_other, ext_get_or}
use Rattle.std.proofs.Math.Nat.{div-eq_of_lt, add-mul-div_left, add-mul-mod_self_left, div-add-mod, mod-one}
use Rattle.std.proofs.lemmas.Nat.{mod-pow-add, or_shr, or_mod}
use Rattle.std.proofs.lemmas.Bool.{eqb-false}
use Rattle.std.proofs.Math.Bool.{or-false}
use Rattle.std.proofs.Math.Decide.{ℕ_discrete}
use Rattle.std.specs.Int.Bits.{bit_or}
use Rattle.std.proofs.Math.ListN.{get_or-eq_default}
use Rattle.std.proofs.Math.Seq.{set_out}
use Rattle.base_finite.specs.Below.{counted, sum_below, those_below}
use Rattle.base_finite.specs.Laws.Below.{below_suc, lt_or_ge, sum_cong, sum_at, counted_true, counted_false, length_tabulate, get_d_tabulate}
use Rattle.base_finite.specs.Laws.Test.{either, or_right}
use Rattle.format_record.specs.Bits.{bit_at, with_bit, Bytes, byte_of, bytes_of, member_at, with_member}

-- By whether a question has an answer.
decide : {A P : Type 0} → Dec P → (P → A) → ((P → ⊥) → A) → A
decide (yes p) f g = f p
decide (no d) f g = g d

-- ---- one bit

-- 2 ^ j above bit k is an even number of 2 ^ k.
split_power : (k j : ℕ) → k < j → 2 ^ j ≡ 2 ^ k * (2 * 2 ^ (j - suc k))
split_power k j h =
    let e : suc k + (j - suc k) ≡ j = omega arith in
    ap (λ n. 2 ^ n) (sym e) ∙ pow-add 2 (suc k) (j - suc k) ∙ ap (λ n. n * 2 ^ (j - suc k)) (pow-suc 2 k)
    ∙ mul_assoc (2 ^ k) 2 (2 ^ (j - suc k))

-- A power above leaves the bit.
bit_add_above : (b k j : ℕ) → k < j → bit_at (b + 2 ^ j) k ≡ bit_at b k
unfolding bit_at
bit_add_above b k j h =
    let m = 2 ^ (j - suc k) in
    rw (split_power k j h, add-mul-div_left b (2 * m) (pow_pos k), add-mul-mod_self_left (b / 2 ^ k) 2 m)

div_add_power : (b k : ℕ) → (b + 2 ^ k) / 2 ^ k ≡ b / 2 ^ k + 1
div_add_power b k = ap (λ n. (b + n) / 2 ^ k) (sym (mul-one (2 ^ k))) ∙ add-mul-div_left b 1 (pow_pos k)

-- A power added where its bit is clear sets the bit.
bit_add_own : (b k : ℕ) → bit_at b k ≡ false → bit_at (b + 2 ^ k) k ≡ true
unfolding bit_at
bit_add_own b k h =
    let e : (b + 2 ^ k) / 2 ^ k ≡ b / 2 ^ k + 1 = div_add_power b k in
    let d : b / 2 ^ k % 2 ≡ 1 → ⊥ = eqb-false (b / 2 ^ k % 2) 1 h in
    eq-eqb ((b + 2 ^ k) / 2 ^ k % 2) 1 (omega arith)

-- There nothing is carried: the bits above stay.
bit_add_below : (b k j : ℕ) → bit_at b k ≡ false → k < j → bit_at (b + 2 ^ k) j ≡ bit_at b j
unfolding bit_at
bit_add_below b k j h l =
    let d : b / 2 ^ k % 2 ≡ 1 → ⊥ = eqb-false (b / 2 ^ k % 2) 1 h in
    let e : (b + 2 ^ k) / 2 ^ k ≡ b / 2 ^ k + 1 = div_add_power b k in
    let half : (b + 2 ^ k) / 2 ^ k / 2 ≡ b / 2 ^ k / 2 = omega arith in
    let up : (n : ℕ) → n / 2 ^ k / 2 / 2 ^ (j - (k + 1)) ≡ n / 2 ^ j =
    λ n. ap (λ x. x / 2 ^ (j - (k + 1))) (shr-shr n k 1) ∙ shr-shr n (k + 1) (j - (k + 1)) ∙ ap (λ x. n / 2 ^ x) (omega arith) in
    ap (λ x. eqb (x % 2) 1) (sym (up (b + 2 ^ k)) ∙ ap (λ x. x / 2 ^ (j - (k + 1))) half ∙ up b)

-- A byte with none of 2 ^ k in it.
bit_small : (b k : ℕ) → b < 2 ^ k → bit_at b k ≡ false
unfolding bit_at
bit_small b k h = rw (div-eq_of_lt h)

-- A byte has eight bits.
pub bit_past : (b k : ℕ) → b < 256 → 8 ≤ k → bit_at b k ≡ false
bit_past b k h l = let p : 2 ^ 8 ≤ 2 ^ k = pow_mono l in bit_small b k (omega arith)

pub bit_of_zero : (k : ℕ) → bit_at 0 k ≡ false
bit_of_zero k = bit_small 0 k (pow_pos k)

odd_or : (x y : ℕ) → x < 2 → y < 2 → eqb (bit_or x y) 1 ≡ (eqb x 1 || eqb y 1)
odd_or zero zero h k = refl
odd_or zero (suc zero) h k = refl
odd_or (suc zero) zero h k = refl
odd_or (suc zero) (suc zero) h k = refl
odd_or (suc (suc x)) y h k = absurd (omega arith)
odd_or zero (suc (suc y)) h k = absurd (omega arith)
odd_or (suc zero) (suc (suc y)) h k = absurd (omega arith)

pub bit_or_law : (x y k : ℕ) → bit_at (bit_or x y) k ≡ (bit_at x k || bit_at y k)
unfolding bit_at
bit_or_law x y k =
    let low : bit_or (x / 2 ^ k) (y / 2 ^ k) % 2 ≡ bit_or (x / 2 ^ k % 2) (y / 2 ^ k % 2) = or_mod (x / 2 ^ k) (y / 2 ^ k) 1 in
    ap (λ z. eqb (z % 2) 1) (or_shr x y k)
    ∙ ap (λ z. eqb z 1) low
    ∙ odd_or (x / 2 ^ k % 2) (y / 2 ^ k % 2) (omega arith) (omega arith)

pub bit_set : (b k : ℕ) → bit_at (with_bit b k) k ≡ true
unfolding with_bit
bit_set b k = ⊎_elim (λ h. rw h h) (λ h. rw h (bit_add_own b k h)) (either (bit_at b k))

pub bit_set_other : (b k j : ℕ) → (j ≡ k → ⊥) → bit_at (with_bit b k) j ≡ bit_at b j
unfolding with_bit
bit_set_other b k j d =
    ⊎_elim
    (λ h. rw h)
    (λ h. rw h (⊎_elim (bit_add_above b j k) (λ l. bit_add_below b k j h (omega arith)) (lt_or_ge j k)))
    (either (bit_at b k))

-- ---- numbers made of bits

abbrev bits : ℕ → (ℕ → Bool) → ℕ
bits n t = sum_below n (λ k. counted (t k) (2 ^ k))

bits_lt : (n : ℕ) (t : ℕ → Bool) → bits n t < 2 ^ n
unfolding sum_below
bits_lt zero t = omega arith
bits_lt (suc n) t =
    let ih : bits n t < 2 ^ n = bits_lt n t in
    let p : 2 ^ suc n ≡ 2 ^ n * 2 = pow-suc 2 n in
    ⊎_elim
    (λ h. let c : counted (t n) (2 ^ n) ≡ 2 ^ n = counted_true h (2 ^ n) in omega arith)
    (λ h. let c : counted (t n) (2 ^ n) ≡ 0 = counted_false h (2 ^ n) in omega arith)
    (either (t n))

bit_of_bits : (n : ℕ) (t : ℕ → Bool) (k : ℕ) → k < n → bit_at (bits n t) k ≡ t k
unfolding sum_below
bit_of_bits zero t k h = absurd (omega arith)
bit_of_bits (suc n) t k h =
    let s = bits n t in
    ⊎_elim
    (λ set.
    let c : s + counted (t n) (2 ^ n) ≡ s + 2 ^ n = ap (λ x. s + x) (counted_true set (2 ^ n)) in
    ap (λ x. bit_at x k) c
    ∙ ⊎_elim
    (λ l. bit_add_above s k n l ∙ bit_of_bits n t k l)
    (λ e. ap (bit_at (s + 2 ^ n)) e ∙ bit_add_own s n (bit_small s n (bits_lt n t)) ∙ sym set ∙ ap t (sym e))
    (below_suc k n h))
    (λ clear.
    let z : counted (t n) (2 ^ n) ≡ 0 = counted_false clear (2 ^ n) in
    let c : s + counted (t n) (2 ^ n) ≡ s = omega arith in
    ap (λ x. bit_at x k) c
    ∙ ⊎_elim
    (λ l. bit_of_bits n t k l)
    (λ e. ap (bit_at s) e ∙ bit_small s n (bits_lt n t) ∙ sym clear ∙ ap t (sym e))
    (below_suc k n h))
    (either (t n))

-- The lowest n bits of a number make its remainder.
bits_of_number : (n b : ℕ) → bits n (bit_at b) ≡ b % 2 ^ n
unfolding sum_below bit_at
bits_of_number zero b = sym (mod-one b)
bits_of_number (suc n) b =
    let ih : bits n (bit_at b) ≡ b % 2 ^ n = bits_of_number n b in
    let e : b % 2 ^ suc n ≡ (b / 2 ^ n % 2) * 2 ^ n + b % 2 ^ n = ap (λ x. b % 2 ^ x) (sym (one-add n)) ∙ mod-pow-add b 1 n in
    ⊎_elim
    (λ h.
    let c : counted (eqb (b / 2 ^ n % 2) 1) (2 ^ n) ≡ 2 ^ n = counted_true h (2 ^ n) in
    let d : b / 2 ^ n % 2 ≡ 1 = eqb-true (b / 2 ^ n % 2) 1 h in
    let m : (b / 2 ^ n % 2) * 2 ^ n ≡ 1 * 2 ^ n = ap (λ x. x * 2 ^ n) d in
    omega arith)
    (λ h.
    let c : counted (eqb (b / 2 ^ n % 2) 1) (2 ^ n) ≡ 0 = counted_false h (2 ^ n) in
    let d : b / 2 ^ n % 2 ≡ 1 → ⊥ = eqb-false (b / 2 ^ n % 2) 1 h in
    let z : b / 2 ^ n % 2 ≡ 0 = omega arith in
    let m : (b / 2 ^ n % 2) * 2 ^ n ≡ 0 * 2 ^ n = ap (λ x. x * 2 ^ n) z in
    omega arith)
    (either (eqb (b / 2 ^ n % 2) 1))

-- ---- bytes

pub byte_lt : (t : ℕ → Bool) → byte_of t < 256
unfolding byte_of
byte_lt t = bits_lt 8 t

pub bit_of_byte : (t : ℕ → Bool) (k : ℕ) → k < 8 → bit_at (byte_of t) k ≡ t k
unfolding byte_of
bit_of_byte t k h = bit_of_bits 8 t k h

pub byte_of_bits : (b : ℕ) → b < 256 → byte_of (bit_at b) ≡ b
unfolding byte_of
byte_of_bits b h = bits_of_number 8 b ∙ mod-eq_of_lt h

pub byte_cong : (s t : ℕ → Bool) → ((k : ℕ) → k < 8 → s k ≡ t k) → byte_of s ≡ byte_of t
unfolding byte_of
byte_cong s t h = sum_cong 8 _ _ (λ k b. ap (λ x. counted x (2 ^ k)) (h k b))

-- A test with one number added.
or_same : (t : ℕ → Bool) (v w : ℕ) → w ≡ v → (t w || eqb w v) ≡ true
or_same t v w e = or_right (t w) (eqb w v) (eq-eqb w v e)

or_other : (t : ℕ → Bool) (v w : ℕ) → (w ≡ v → ⊥) → (t w || eqb w v) ≡ t w
or_other t v w d = rw (ne_eqb w v d) (or-false (t w))

-- Setting a bit adds it to the byte's bits, and the sum stays a byte.
pub byte_with_bit : (b k : ℕ) → b < 256 → k < 8 → with_bit b k ≡ byte_of (λ j. bit_at b j || eqb j k)
unfolding with_bit byte_of
byte_with_bit b k hb hk =
    let more : ℕ → Bool = λ j. bit_at b j || eqb j k in
    let whole : bits 8 (bit_at b) ≡ b = bits_of_number 8 b ∙ mod-eq_of_lt hb in
    ⊎_elim
    (λ h.
    rw h
    (sym whole
    ∙ sum_cong 8 _ _
    (λ j l.
    ap (λ x. counted x (2 ^ j))
    (decide (ℕ_discrete j k) (λ e. ap (bit_at b) e ∙ h ∙ sym (or_same (bit_at b) k j e)) (λ d. sym (or_other (bit_at b) k j d))))))
    (λ h.
    let at : bits 8 (bit_at b) + counted (more k) (2 ^ k) ≡ bits 8 more + counted (bit_at b k) (2 ^ k) =
    sum_at 8 (λ j. counted (bit_at b j) (2 ^ j)) (λ j. counted (more j) (2 ^ j)) k hk
    (λ j l d. ap (λ x. counted x (2 ^ j)) (sym (or_other (bit_at b) k j d))) in
    let on : counted (more k) (2 ^ k) ≡ 2 ^ k = counted_true (or_same (bit_at b) k k refl) (2 ^ k) in
    let off : counted (bit_at b k) (2 ^ k) ≡ 0 = counted_false h (2 ^ k) in
    let sum : b + 2 ^ k ≡ bits 8 more = omega arith in
    rw h sum)
    (either (bit_at b k))

pub with_bit_set : (b k : ℕ) → bit_at b k ≡ true → with_bit b k ≡ b
unfolding with_bit
with_bit_set b k h = rw h

pub with_bit_clear : (b k : ℕ) → bit_at b k ≡ false → with_bit b k ≡ b + 2 ^ k
unfolding with_bit
with_bit_clear b k h = rw h

pub with_bit_lt : (b k : ℕ) → b < 256 → k < 8 → with_bit b k < 256
with_bit_lt b k hb hk = rw (byte_with_bit b k hb hk) (byte_lt _)

-- A power below 2 ^ 8 is a byte.
pub power_byte : (k : ℕ) → k < 8 → 1 * 2 ^ k % 2 ^ 8 ≡ 2 ^ k
power_byte k h = shl_exact 1 k 8 (lit< tt) (omega arith) ∙ one-mul (2 ^ k)

-- ---- members

pub length_bytes : (count : ℕ) (S : ℕ → Bool) → length (bytes_of count S) ≡ count
unfolding bytes_of
length_bytes count S = length_tabulate count (λ j. byte_of (λ k. S (8 * j + k)))

byte_at : (count : ℕ) (S : ℕ → Bool) (j : ℕ) → j < count → get_or (bytes_of count S) j 0 ≡ byte_of (λ k. S (8 * j + k))
unfolding bytes_of
byte_at count S j h = get_d_tabulate count (λ j. byte_of (λ k. S (8 * j + k))) j 0 h

pub bytes_bytes : (count : ℕ) (S : ℕ → Bool) → Bytes (bytes_of count S)
bytes_bytes count S j =
    ⊎_elim
    (λ h. rw (byte_at count S j h) (byte_lt (λ k. S (8 * j + k))))
    (λ h. let past : length (bytes_of count S) ≤ j = rw (length_bytes count S) h in rw (get_or-eq_default (bytes_of count S) 0 past) (omega arith))
    (lt_or_ge j count)

-- Reading back what was written.
pub member_of_bytes : (count : ℕ) (S : ℕ → Bool) (v : ℕ) → v < 8 * count → member_at (bytes_of count S) v ≡ S v
unfolding member_at
member_of_bytes count S v h =
    ap (λ b. bit_at b (v % 8)) (byte_at count S (v / 8) (omega arith))
    ∙ bit_of_byte (λ k. S (8 * (v / 8) + k)) (v % 8) (omega arith)
    ∙ ap S (div-add-mod v 8)

-- Adding v makes v a member and no other.
pub member_added : (bytes : List ℕ) (v : ℕ) → v < 8 * length bytes → member_at (with_member bytes v) v ≡ true
unfolding member_at with_member
member_added bytes v h =
    let b = get_or bytes (v / 8) 0 in
    ap (λ x. bit_at x (v % 8)) (get_or-set_same bytes (v / 8) (with_bit b (v % 8)) 0 (omega arith)) ∙ bit_set b (v % 8)

pub member_other : (bytes : List ℕ) (v w : ℕ) → (w ≡ v → ⊥) → member_at (with_member bytes v) w ≡ member_at bytes w
unfolding member_at with_member
member_other bytes v w d =
    let new = with_bit (get_or bytes (v / 8) 0) (v % 8) in
    decide
    (ℕ_discrete (w / 8) (v / 8))
    (λ e.
    ⊎_elim
    (λ h.
    ap (λ j. bit_at (get_or (set bytes (v / 8) new) j 0) (w % 8)) e
    ∙ ap (λ b. bit_at b (w % 8)) (get_or-set_same bytes (v / 8) new 0 h)
    ∙ bit_set_other (get_or bytes (v / 8) 0) (v % 8) (w % 8) (λ same. d (omega arith))
    ∙ ap (λ j. bit_at (get_or bytes j 0) (w % 8)) (sym e))
    (λ h. ap (λ l. bit_at (get_or l (w / 8) 0) (w % 8)) (set_out bytes (v / 8) new h))
    (lt_or_ge (v / 8) (length bytes)))
    (λ n. ap (λ b. bit_at b (w % 8)) (get_or-set_other bytes (v / 8) (w / 8) new 0 n))

pub bytes_with_member : (bytes : List ℕ) (v : ℕ) → Bytes bytes → Bytes (with_member bytes v)
unfolding with_member
bytes_with_member bytes v h i =
    let b = get_or bytes (v / 8) 0 in
    let lt : with_bit b (v % 8) < 256 = with_bit_lt b (v % 8) (h (v / 8)) (omega arith) in
    decide
    (ℕ_discrete i (v / 8))
    (λ e.
    ⊎_elim
    (λ l. rw (e, get_or-set_same bytes (v / 8) (with_bit b (v % 8)) 0 l) lt)
    (λ l. rw (set_out bytes (v / 8) (with_bit b (v % 8)) l) (h i))
    (lt_or_ge (v / 8) (length bytes)))
    (λ n. rw (get_or-set_other bytes (v / 8) i (with_bit b (v % 8)) 0 n) (h i))

pub length_with_member : (bytes : List ℕ) (v : ℕ) → length (with_member bytes v) ≡ length bytes
unfolding with_member
length_with_member bytes v = length-set bytes (v / 8) (with_bit (get_or bytes (v / 8) 0) (v % 8))

-- Sets with the same members below the bytes' reach have the same bytes.
pub bytes_cong : (count : ℕ) (S T : ℕ → Bool) → ((v : ℕ) → v < 8 * count → S v ≡ T v) → bytes_of count S ≡ bytes_of count T
bytes_cong count S T h =
    ext_get_or 0 (bytes_of count S) (bytes_of count T) (length_bytes count S ∙ sym (length_bytes count T))
    (λ j l.
    let b : j < count = rw (length_bytes count S) at l in
    byte_at count S j b ∙ byte_cong _ _ (λ k m. h (8 * j + k) (omega arith)) ∙ sym (byte_at count T j b))

-- Bytes are those of their members.
pub bytes_of_members : (bytes : List ℕ) → Bytes bytes → bytes_of (length bytes) (member_at bytes) ≡ bytes
unfolding member_at
bytes_of_members bytes h =
    ext_get_or 0 (bytes_of (length bytes) (member_at bytes)) bytes (length_bytes (length bytes) (member_at bytes))
    (λ j l.
    let b : j < length bytes = rw (length_bytes (length bytes) (member_at bytes)) at l in
    byte_at (length bytes) (member_at bytes) j b
    ∙ byte_cong _ (bit_at (get_or bytes j 0))
    (λ k m.
    let q : (8 * j + k) / 8 ≡ j = omega arith in
    let r : (8 * j + k) % 8 ≡ k = omega arith in
    ap (λ x. bit_at (get_or bytes x 0) ((8 * j + k) % 8)) q ∙ ap (bit_at (get_or bytes j 0)) r)
    ∙ byte_of_bits (get_or bytes j 0) (h j))

-- The bytes of a set, with v added, are those of the set with v.
pub bytes_add : (count : ℕ) (S : ℕ → Bool) (v : ℕ) → v < 8 * count → with_member (bytes_of count S) v ≡ bytes_of count (λ w. S w || eqb w v)
bytes_add count S v h =
    let old = bytes_of count S in
    let long : length (with_member old v) ≡ count = length_with_member old v ∙ length_bytes count S in
    let inside : v < 8 * length old = rw (length_bytes count S) h in
    sym (bytes_of_members (with_member old v) (bytes_with_member old v (bytes_bytes count S)))
    ∙ ap (λ n. bytes_of n (member_at (with_member old v))) long
    ∙ bytes_cong count _ _
    (λ w l.
    decide
    (ℕ_discrete w v)
    (λ e. ap (member_at (with_member old v)) e ∙ member_added old v inside ∙ sym (or_same S v w e))
    (λ d. member_other old v w d ∙ member_of_bytes count S w l ∙ sym (or_other S v w d)))

pub those_cong : (n : ℕ) (s t : ℕ → Bool) → ((i : ℕ) → i < n → s i ≡ t i) → those_below n s ≡ those_below n t
unfolding those_below
those_cong zero s t h = refl
those_cong (suc n) s t h = rw (those_cong n s t (λ i b. h i (omega arith)), h n (omega arith))

-- The rising list of members is the set's.
pub those_of_bytes : (count : ℕ) (S : ℕ → Bool) → those_below (8 * count) (member_at (bytes_of count S)) ≡ those_below (8 * count) S
those_of_bytes count S = those_cong (8 * count) _ _ (member_of_bytes count S)
