-- Laws of numbers that cross as bytes: four bytes read one by one, a table of numbers, and counts written one after the other.
use Rattle.std.specs.Prelude.{ℕ, suc, ◌+◌, ◌*◌, ◌-◌, ◌/◌, ◌≤◌, ◌<◌, ◌≡◌, List, [], ◌∷◌, ◌++◌, drop, set}
use native.Mathlib.Omega.{arith}
use Rattle.std.proofs.Math.Nat.{sub-zero}
use Rattle.std.proofs.Common.{add-one, ap₂, ◌∙◌, append_assoc, append-nil, length-set, length-drop, length-append, take_all, get_or-drop, get_or-take, ext_get_or, drop-drop, lt-ltb, le-ltb}
use Rattle.std.proofs.Math.Path.{refl, ap, sym}
use Rattle.std.proofs.Math.ListN.{length, get_or, take}
use Rattle.std.proofs.Math.Seq.{sets, length-sets, length-take-le, take-suc}
use Rattle.std.proofs.lemmas.List.Edits.{sets-eq}
use Rattle.base_finite.specs.Below.{tabulate}
use Rattle.base_finite.specs.Laws.Below.{length_tabulate, get_d_tabulate}
use Rattle.base_buffer.specs.Store.{remade}
use Rattle.base_buffer.proofs.Laws.Store.{remade_more, stored_table}
use Rattle.format_record.specs.Bits.{number_of, low_bytes}
use Rattle.format_record.specs.Record.{with_value}
use Rattle.format_record.proofs.Laws.Bytes.{number_down, length_low}
use Rattle.format_record.proofs.Laws.Record.{overwritten_whole}
use Rattle.api_handset.specs.Words.{word_bytes, figure_bytes, word_at, words_in, spelled_counts, with_spelled}

pub length_words : (bytes : List ℕ) → length (words_in bytes) ≡ length bytes / word_bytes
unfolding words_in
length_words bytes = length_tabulate (length bytes / word_bytes) (word_at bytes)

-- A number by its four bytes, from the highest down.
module _ (bytes : List ℕ) (at : ℕ) where
  byte : (j : ℕ) → get_or (drop at bytes) j 0 ≡ get_or bytes (at + j) 0
  byte j = get_or-drop at bytes j 0

  one_byte : number_of (take 1 (drop 3 (drop at bytes))) ≡ get_or bytes (at + 3) 0
  unfolding number_of
  one_byte = number_down 4 4 (drop at bytes) (omega arith) (omega arith) ∙ (let b = byte 3 in omega arith)

  two_bytes : number_of (take 2 (drop 2 (drop at bytes))) ≡ get_or bytes (at + 2) 0 + 256 * get_or bytes (at + 3) 0
  two_bytes = number_down 4 3 (drop at bytes) (omega arith) (omega arith) ∙ ap₂ (λ a b. a + 256 * b) (byte 2) one_byte

  three_bytes : number_of (take 3 (drop 1 (drop at bytes))) ≡ get_or bytes (at + 1) 0 + 256 * (get_or bytes (at + 2) 0 + 256 * get_or bytes (at + 3) 0)
  three_bytes = number_down 4 2 (drop at bytes) (omega arith) (omega arith) ∙ ap₂ (λ a b. a + 256 * b) (byte 1) two_bytes

  four_bytes : number_of (take 4 (drop at bytes))
      ≡ get_or bytes (at + 0) 0 + 256 * (get_or bytes (at + 1) 0 + 256 * (get_or bytes (at + 2) 0 + 256 * get_or bytes (at + 3) 0))
  four_bytes = number_down 4 1 (drop at bytes) (omega arith) (omega arith) ∙ ap₂ (λ a b. a + 256 * b) (byte 0) three_bytes

-- What was read, byte by byte, is the number.
pub word_read : (bytes : List ℕ) (i : ℕ) {a b c d : ℕ} → a ≡ get_or bytes (word_bytes * i) 0 → b ≡ get_or bytes (word_bytes * i + 1) 0
    → c ≡ get_or bytes (word_bytes * i + 2) 0 → d ≡ get_or bytes (word_bytes * i + 3) 0 → a + 256 * (b + 256 * (c + 256 * d)) ≡ word_at bytes i
unfolding word_at
word_read bytes i {a} {b} {c} {d} ha hb hc hd =
    let first : word_bytes * i + 0 ≡ word_bytes * i = omega arith in
    let rest = get_or bytes (word_bytes * i + 1) 0 + 256 * (get_or bytes (word_bytes * i + 2) 0 + 256 * get_or bytes (word_bytes * i + 3) 0) in
    rw (ha, hb, hc, hd) (sym (four_bytes bytes (word_bytes * i) ∙ ap (λ k. get_or bytes k 0 + 256 * rest) first))

-- A loop has stored the first i numbers.
pub record Spelling (bytes before : List ℕ) (i : ℕ) (words : List ℕ) : Type 0 where
  pub within : i ≤ length before
  pub long : length words ≡ length before
  pub made : words ≡ remade (λ k x. word_at bytes k) i before

module _ (bytes before : List ℕ) where
  pub spelling_start : Spelling bytes before 0 before
  unfolding remade
  spelling_start = record { within = omega arith; long = refl; made = refl }

  pub spelling_turn : {i x : ℕ} {words after : List ℕ} → Spelling bytes before i words → i < length words → x ≡ word_at bytes i → after ≡ set words i x
      → Spelling bytes before (i + 1) after
  spelling_turn {i} {x} {words} {after} h b is made =
      let l : length words ≡ length before = h.long in
      record {
        within = omega arith;
        long = ap length made ∙ length-set words i x ∙ l;
        made = made ∙ remade_more (λ k y. word_at bytes k) i before words x h.made is;
      }

  pub spelling_end : {i : ℕ} {words : List ℕ} → Spelling bytes before i words → length words ≤ i → words ≡ tabulate (length before) (word_at bytes)
  spelling_end {i} {words} h b =
      let l : length words ≡ length before = h.long in
      stored_table (λ k y. word_at bytes k) (length before) i before (word_at bytes) h.within (omega arith) refl (λ k c. refl) h.made

-- The first numbers of a table.
pub words_part : (bytes : List ℕ) (n N : ℕ) {table : List ℕ} → n ≤ N → table ≡ tabulate N (word_at bytes) → take (n - 0) table ≡ tabulate n (word_at bytes)
words_part bytes n N {table} fits h =
    let long : length (take n (tabulate N (word_at bytes))) ≡ n = length-take-le n (tabulate N (word_at bytes)) (rw (length_tabulate N (word_at bytes)) fits) in
    rw (h, sub-zero n)
    (ext_get_or 0 (take n (tabulate N (word_at bytes))) (tabulate n (word_at bytes)) (long ∙ sym (length_tabulate n (word_at bytes)))
    (λ k b.
    let below : k < n = rw long at b in
    get_or-take n (tabulate N (word_at bytes)) k 0 below
    ∙ get_d_tabulate N (word_at bytes) k 0 (omega arith)
    ∙ sym (get_d_tabulate n (word_at bytes) k 0 below)))

-- ---- counts

-- Stores of two runs, one behind the other.
pub sets_append : (l : List ℕ) (i : ℕ) (xs ys : List ℕ) → sets l i (xs ++ ys) ≡ sets (sets l i xs) (i + length xs) ys
sets_append l i [] ys = let e : i + 0 ≡ i = omega arith in ap (λ k. sets l k ys) (sym e)
sets_append l i (x ∷ xs) ys =
    let e : suc i + length xs ≡ i + suc (length xs) = omega arith in
    sets_append (set l i x) (suc i) xs ys ∙ ap (λ k. sets (sets (set l i x) (suc i) xs) k ys) e

pub spelled_append : (xs ys : List ℕ) → spelled_counts (xs ++ ys) ≡ spelled_counts xs ++ spelled_counts ys
unfolding spelled_counts
spelled_append [] ys = refl
spelled_append (x ∷ xs) ys = ap (λ l. low_bytes figure_bytes x ++ l) (spelled_append xs ys) ∙ sym (append_assoc (low_bytes figure_bytes x) (spelled_counts xs) (spelled_counts ys))

pub length_spelled : (xs : List ℕ) → length (spelled_counts xs) ≡ figure_bytes * length xs
unfolding spelled_counts
length_spelled [] = refl
length_spelled (x ∷ xs) =
    let a = length-append (low_bytes figure_bytes x) (spelled_counts xs) in
    let b : length (low_bytes figure_bytes x) ≡ figure_bytes = length_low figure_bytes x in
    let ih : length (spelled_counts xs) ≡ figure_bytes * length xs = length_spelled xs in
    omega arith

-- A count that is written into a part of eight bytes.
pub figure_written : (l : List ℕ) (at x : ℕ) {part : List ℕ} → at + figure_bytes ≤ length l
    → part ≡ with_value (take (at + figure_bytes - at) (drop at l)) x
    → take at l ++ (part ++ drop (at + figure_bytes - at) (drop at l)) ≡ sets l at (low_bytes figure_bytes x)
unfolding with_value
figure_written l at x {part} fits h =
    let e : at + figure_bytes - at ≡ figure_bytes = omega arith in
    let low = low_bytes figure_bytes x in
    let long : length low ≡ figure_bytes = length_low figure_bytes x in
    let rest : length (drop at l) ≡ length l - at = length-drop at l in
    let room : length (take figure_bytes (drop at l)) ≡ figure_bytes = length-take-le figure_bytes (drop at l) (omega arith) in
    let whole : part ≡ low = h ∙ ap (λ k. with_value (take k (drop at l)) x) e ∙ overwritten_whole (take figure_bytes (drop at l)) low (room ∙ sym long) in
    rw (whole, e, drop-drop figure_bytes at l)
    (sym (append_assoc (take at l) low (drop (at + figure_bytes) l))
    ∙ sym (sets-eq low l at (rw long fits) ∙ ap (λ k. take at l ++ low ++ drop (at + k) l) long))

-- A loop has written the first i counts into a slice that holds them all.
pub record Writing (counts before : List ℕ) (i : ℕ) (result : List ℕ) : Type 0 where
  pub within : i ≤ length counts
  pub holds : figure_bytes * length counts ≤ length before
  pub long : length result ≡ length before
  pub made : result ≡ sets before 0 (spelled_counts (take i counts))

module _ (counts before : List ℕ) where
  pub writing_start : length counts ≤ length before / figure_bytes → Writing counts before 0 before
  unfolding spelled_counts
  writing_start fits = record { within = omega arith; holds = omega arith; long = refl; made = refl }

  -- One count more.
  spelled_turn : (i : ℕ) → i < length counts
      → sets (sets before 0 (spelled_counts (take i counts))) (figure_bytes * i) (low_bytes figure_bytes (get_or counts i 0)) ≡ sets before 0 (spelled_counts (take (i + 1) counts))
  unfolding spelled_counts
  spelled_turn i b =
      let x = get_or counts i 0 in
      let size : length (take i counts) ≡ i = length-take-le i counts (omega arith) in
      let far = length_spelled (take i counts) in
      let at : 0 + length (spelled_counts (take i counts)) ≡ figure_bytes * i = omega arith in
      ap (λ k. sets (sets before 0 (spelled_counts (take i counts))) k (low_bytes figure_bytes x)) (sym at)
      ∙ sym (sets_append before 0 (spelled_counts (take i counts)) (low_bytes figure_bytes x))
      ∙ ap (λ l. sets before 0 (spelled_counts (take i counts) ++ l)) (sym (append-nil (low_bytes figure_bytes x)))
      ∙ ap (λ l. sets before 0 l) (sym (spelled_append (take i counts) (x ∷ [])))
      ∙ ap (λ l. sets before 0 (spelled_counts l)) (sym (ap (λ k. take k counts) (add-one i) ∙ take-suc counts i 0 b))

  pub writing_turn : {i x : ℕ} {result after : List ℕ} → Writing counts before i result → i < length counts → x ≡ get_or counts i 0
      → after ≡ sets result (figure_bytes * i) (low_bytes figure_bytes x) → Writing counts before (i + 1) after
  writing_turn {i} {x} {result} {after} h b is made =
      record {
        within = omega arith;
        holds = h.holds;
        long = ap length made ∙ length-sets result (figure_bytes * i) (low_bytes figure_bytes x) ∙ h.long;
        made = made ∙ ap (λ y. sets result (figure_bytes * i) (low_bytes figure_bytes y)) is
            ∙ ap (λ l. sets l (figure_bytes * i) (low_bytes figure_bytes (get_or counts i 0))) h.made
            ∙ spelled_turn i b;
      }

  pub writing_end : {i : ℕ} {result : List ℕ} → Writing counts before i result → length counts ≤ i → result ≡ with_spelled before counts
  unfolding with_spelled
  writing_end {i} {result} h b =
      let fits = h.holds in
      let few : length counts ≤ length before / figure_bytes = omega arith in
      rw (le-ltb (length before / figure_bytes) (length counts) few) (h.made ∙ ap (λ l. sets before 0 (spelled_counts l)) (take_all i counts b))

  pub unwritten : length before / figure_bytes < length counts → before ≡ with_spelled before counts
  unfolding with_spelled
  unwritten h = rw (lt-ltb (length before / figure_bytes) (length counts) h)
