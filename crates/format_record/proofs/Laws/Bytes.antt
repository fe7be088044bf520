-- Laws of numbers as bytes, lowest byte first, for any number of bytes: reading back, lengths and bounds.
use Rattle.std.specs.Prelude.{ℕ, zero, suc, ◌+◌, ◌*◌, ◌-◌, ◌/◌, ◌%◌, ◌^◌, min, ◌≤◌, ◌<◌, ◌≡◌, refl, false, List, [], ◌∷◌, ◌++◌, length, get_or, take, drop, set}
use Rattle.std.proofs.Common.{arith, pow-suc, add-one, ap, ap₂, sym, ◌∙◌, ⊎_elim, length-take, get_or-take, get_or-drop, drop-drop, lit<}
use Rattle.std.proofs.Math.Nat.{pow-le-pow_right}
use Rattle.std.proofs.Math.ListN.{get_or-eq_default}
use Rattle.std.proofs.Math.Seq.{take-nil}
use Rattle.std.proofs.lemmas.List.Edits.{sets}
use Rattle.base_finite.specs.Laws.Below.{lt_or_ge}
use Rattle.format_record.specs.Bits.{Bytes, bit_at, bytes_of, member_at, low_bytes, number_of}
use Rattle.format_record.proofs.Laws.Bits.{bit_of_zero, bytes_cong, bytes_of_members}

pub length_low : (count x : ℕ) → length (low_bytes count x) ≡ count
unfolding low_bytes
length_low zero x = refl
length_low (suc count) x = ap suc (length_low count (x / 256))

pub low_bytes_law : (count x : ℕ) → Bytes (low_bytes count x)
unfolding low_bytes
low_bytes_law zero x i = omega arith
low_bytes_law (suc count) x zero = omega arith
low_bytes_law (suc count) x (suc i) = low_bytes_law count (x / 256) i

-- Reading back what was written.
pub number_of_low : (count x : ℕ) → x < 256 ^ count → number_of (low_bytes count x) ≡ x
unfolding low_bytes number_of
number_of_low zero x h = omega arith
number_of_low (suc count) x h =
    let p : 256 ^ suc count ≡ 256 ^ count * 256 = pow-suc 256 count in
    let ih : number_of (low_bytes count (x / 256)) ≡ x / 256 = number_of_low count (x / 256) (omega arith) in
    omega arith

pub number_lt : (bytes : List ℕ) → Bytes bytes → number_of bytes < 256 ^ length bytes
unfolding number_of
number_lt [] h = omega arith
number_lt (b ∷ bytes) h =
    let p : 256 ^ suc (length bytes) ≡ 256 ^ length bytes * 256 = pow-suc 256 (length bytes) in
    let first : b < 256 = h zero in
    let ih : number_of bytes < 256 ^ length bytes = number_lt bytes (λ i. h (suc i)) in
    omega arith

-- Bytes are those of the number that they spell.
pub low_of_number : (bytes : List ℕ) → Bytes bytes → low_bytes (length bytes) (number_of bytes) ≡ bytes
unfolding low_bytes number_of
low_of_number [] h = refl
low_of_number (b ∷ bytes) h =
    let first : b < 256 = h zero in
    let r : (b + 256 * number_of bytes) % 256 ≡ b = omega arith in
    let q : (b + 256 * number_of bytes) / 256 ≡ number_of bytes = omega arith in
    rw (r, q, low_of_number bytes (λ i. h (suc i)))

number_first : (n : ℕ) (bytes : List ℕ) → number_of (take (suc n) bytes) ≡ get_or bytes 0 0 + 256 * number_of (take n (drop 1 bytes))
unfolding number_of
number_first n [] = rw (take-nil n)
number_first n (b ∷ bytes) = refl

-- The byte at i counts once, the n after it 256 times; past the end all are 0.
number_at : (n i : ℕ) (bytes : List ℕ) → number_of (take (suc n) (drop i bytes)) ≡ get_or bytes i 0 + 256 * number_of (take n (drop (i + 1) bytes))
number_at n i bytes =
    let e : i + 0 ≡ i = omega arith in
    let at : get_or (drop i bytes) 0 0 ≡ get_or bytes i 0 = get_or-drop i bytes 0 0 ∙ ap (λ k. get_or bytes k 0) e in
    let rest : drop 1 (drop i bytes) ≡ drop (i + 1) bytes = drop-drop 1 i bytes in
    number_first n (drop i bytes) ∙ ap₂ (λ a l. a + 256 * number_of (take n l)) at rest

-- One byte more, from the highest down.
pub number_down : (n i : ℕ) (bytes : List ℕ) → 0 < i → i ≤ n
    → number_of (take (n - (i - 1)) (drop (i - 1) bytes)) ≡ get_or bytes (i - 1) 0 + 256 * number_of (take (n - i) (drop i bytes))
number_down n i bytes pos le =
    let more : n - (i - 1) ≡ suc (n - i) = omega arith in
    let next : i - 1 + 1 ≡ i = omega arith in
    ap (λ k. number_of (take k (drop (i - 1) bytes))) more
    ∙ number_at (n - i) (i - 1) bytes
    ∙ ap (λ k. get_or bytes (i - 1) 0 + 256 * number_of (take (n - i) (drop k bytes))) next

-- Bytes after bytes are bytes.
pub bytes_append : (xs ys : List ℕ) → Bytes xs → Bytes ys → Bytes (xs ++ ys)
bytes_append [] ys h k i = k i
bytes_append (x ∷ xs) ys h k zero = h 0
bytes_append (x ∷ xs) ys h k (suc i) = bytes_append xs ys (λ j. h (suc j)) k i

-- A part of bytes is bytes.
pub bytes_part : (n i : ℕ) (bytes : List ℕ) → Bytes bytes → Bytes (take n (drop i bytes))
bytes_part n i bytes h j =
    ⊎_elim
    (λ (l : j < n). rw (get_or-take n (drop i bytes) j 0 l, get_or-drop i bytes j 0) (h (i + j)))
    (λ (l : n ≤ j).
    let past : length (take n (drop i bytes)) ≤ j = rw (length-take n (drop i bytes)) (omega arith) in
    rw (get_or-eq_default (take n (drop i bytes)) 0 past) (omega arith))
    (lt_or_ge j n)

-- The number that n bytes of a list spell is below 256 to the n.
pub number_part_lt : (n i : ℕ) (bytes : List ℕ) → Bytes bytes → number_of (take n (drop i bytes)) < 256 ^ n
number_part_lt n i bytes h =
    let m : length (take n (drop i bytes)) ≡ min n (length (drop i bytes)) = length-take n (drop i bytes) in
    let few : length (take n (drop i bytes)) ≤ n = omega arith in
    let p : 256 ^ length (take n (drop i bytes)) ≤ 256 ^ n = pow-le-pow_right (lit< tt) few in
    let b : number_of (take n (drop i bytes)) < 256 ^ length (take n (drop i bytes)) = number_lt _ (bytes_part n i bytes h) in
    omega arith

-- Storing the lowest byte leaves the others to be stored after it.
pub store_low : (s : List ℕ) (i count rest : ℕ) → i < count
    → sets (set s i (rest % 256)) (i + 1) (low_bytes (count - (i + 1)) (rest / 256)) ≡ sets s i (low_bytes (count - i) rest)
unfolding low_bytes
store_low s i count rest h =
    let e : count - i ≡ suc (count - (i + 1)) = omega arith in
    rw (e, add-one)

-- The bytes past a number's own are 0.
pub low_append : (m n x : ℕ) → x < 256 ^ m → low_bytes (m + n) x ≡ low_bytes m x ++ low_bytes n 0
unfolding low_bytes
low_append zero n x h =
    let e : 0 + n ≡ n = omega arith in
    let z : x ≡ 0 = omega arith in
    rw (e, z)
low_append (suc m) n x h =
    let e : suc m + n ≡ suc (m + n) = omega arith in
    let p : 256 ^ suc m ≡ 256 ^ m * 256 = pow-suc 256 m in
    ap (λ k. low_bytes k x) e ∙ ap (λ l. x % 256 ∷ l) (low_append m n (x / 256) (omega arith))

low_zero : (count i : ℕ) → get_or (low_bytes count 0) i 0 ≡ 0
unfolding low_bytes
low_zero zero i = refl
low_zero (suc count) zero = refl
low_zero (suc count) (suc i) = low_zero count i

-- No member: all bytes are 0.
pub bytes_of_none : (count : ℕ) → bytes_of count (λ v. false) ≡ low_bytes count 0
unfolding member_at
bytes_of_none count =
    bytes_cong count _ _ (λ v h. sym (ap (λ b. bit_at b (v % 8)) (low_zero count (v / 8)) ∙ bit_of_zero (v % 8)))
    ∙ ap (λ n. bytes_of n (member_at (low_bytes count 0))) (sym (length_low count 0))
    ∙ bytes_of_members (low_bytes count 0) (low_bytes_law count 0)
