-- Laws of the printed lines: how a writer that goes upwards makes them.
use Rattle.std.specs.Prelude.{ℕ, zero, suc, ◌+◌, ◌*◌, ◌/◌, ◌^◌, ◌<◌, ◌≡◌, refl, Bool, true, false, ◌&&◌, not, cond, List, [], ◌∷◌, ◌++◌, length, get_or, take, eqb}
use Rattle.std.proofs.Common.{add-zero, add-suc, arith, add-one, eq-eqb, ne_eqb, ap, ap₂, sym, ◌∙◌, append_assoc, append-nil, length-append, take-suc}
use Rattle.base_finite.specs.Below.{those_below}
use Rattle.base_limits.specs.Limits.{member_bytes, record_bytes}
use Rattle.format_record.specs.Record.{record_of, record_at}
use Rattle.format_record.proofs.Laws.Record.{value_of_record, members_of_record, record_at_first, record_at_right}
use Rattle.format_write.specs.Key.{kept_key, dual_key, colon, comma, newline}
use Rattle.format_write.specs.Decimal.{decimal}
use Rattle.format_write.specs.Text.{line_of, listed, members_of, dual_line, text_below, kept_line, dual_lines}
use Rattle.format_write.specs.Wrote.{is_none, item_of, member_text}

pub listed_snoc : (xs : List ℕ) (v : ℕ) → listed (xs ++ (v ∷ [])) ≡ listed xs ++ item_of (is_none xs) v
unfolding listed is_none item_of
listed_snoc [] v = refl
listed_snoc (x ∷ []) v = append_assoc (decimal x) (comma ∷ []) (decimal v)
listed_snoc (x ∷ y ∷ xs) v =
    let ih : listed (y ∷ (xs ++ (v ∷ []))) ≡ listed (y ∷ xs) ++ item_of false v = listed_snoc (y ∷ xs) v in
    ap (λ l. decimal x ++ (comma ∷ []) ++ l) ih ∙ sym (append_assoc (decimal x ++ (comma ∷ [])) (listed (y ∷ xs)) (item_of false v))

-- One number more of a list that is written from its beginning.
none_taken : (xs : List ℕ) (i : ℕ) → i < length xs → eqb i 0 ≡ is_none (take i xs)
unfolding is_none
none_taken [] i h = absurd (omega arith)
none_taken (x ∷ xs) zero h = eq-eqb 0 0 refl
none_taken (x ∷ xs) (suc i) h = ne_eqb (suc i) 0 (λ e. omega arith)

pub list_next : (xs : List ℕ) (i : ℕ) {v : ℕ} → i < length xs → v ≡ get_or xs i 0 → listed (take i xs) ++ item_of (eqb i 0) v ≡ listed (take (i + 1) xs)
list_next xs i h e =
    ap₂ (λ f x. listed (take i xs) ++ item_of f x) (none_taken xs i h) e
    ∙ sym (ap (λ n. listed (take n xs)) (add-one i) ∙ ap listed (take-suc xs i 0 h) ∙ listed_snoc (take i xs) (get_or xs i 0))

pub list_none : (xs : List ℕ) → listed (take 0 xs) ≡ []
unfolding listed
list_none xs = refl

-- One number more of those that pass.
listed_more : (xs : List ℕ) (here : Bool) (v : ℕ) → listed (xs ++ cond here (v ∷ []) []) ≡ listed xs ++ member_text (is_none xs) here v
unfolding member_text
listed_more xs true v = listed_snoc xs v
listed_more xs false v = ap listed (append-nil xs) ∙ sym (append-nil (listed xs))

none_more : (xs : List ℕ) (here : Bool) (v : ℕ) → is_none (xs ++ cond here (v ∷ []) []) ≡ (is_none xs && not here)
unfolding is_none
none_more [] true v = refl
none_more [] false v = refl
none_more (x ∷ xs) here v = refl

pub members_next : (t : ℕ → Bool) (v : ℕ) {first : Bool} → first ≡ is_none (those_below v t)
    → listed (those_below v t) ++ member_text first (t v) v ≡ listed (those_below (v + 1) t)
unfolding those_below
members_next t v e =
    ap (λ f. listed (those_below v t) ++ member_text f (t v) v) e
    ∙ sym (ap (λ n. listed (those_below n t)) (add-one v) ∙ listed_more (those_below v t) (t v) v)

pub none_next : (t : ℕ → Bool) (v : ℕ) {first then : Bool} → first ≡ is_none (those_below v t) → then ≡ (first && not (t v))
    → then ≡ is_none (those_below (v + 1) t)
unfolding those_below
none_next t v e k =
    k
    ∙ ap (λ f. f && not (t v)) e
    ∙ sym (ap (λ n. is_none (those_below n t)) (add-one v) ∙ none_more (those_below v t) (t v) v)

-- A list starts empty.
pub members_none : (t : ℕ → Bool) → listed (those_below 0 t) ≡ []
unfolding those_below listed
members_none t = refl

pub none_none : (t : ℕ → Bool) → is_none (those_below 0 t) ≡ true
unfolding those_below is_none
none_none t = refl

pub item_first : (v : ℕ) {first : Bool} → first ≡ true → decimal v ≡ item_of first v
unfolding item_of
item_first v e = rw e

pub item_later : (v : ℕ) {first : Bool} → first ≡ false → (comma ∷ []) ++ decimal v ≡ item_of first v
unfolding item_of
item_later v e = rw e

pub member_here : (first : Bool) (v : ℕ) {here : Bool} → here ≡ true → item_of first v ≡ member_text first here v
unfolding member_text
member_here first v e = rw e

pub member_not : (first : Bool) (v : ℕ) {here : Bool} → here ≡ false → [] ≡ member_text first here v
unfolding member_text
member_not first v e = rw e

pub text_next : (f : ℕ → List ℕ) (n : ℕ) → text_below n f ++ f n ≡ text_below (n + 1) f
unfolding text_below
text_next f n = sym (ap (λ k. text_below k f) (add-one n))

pub text_none : (f : ℕ → List ℕ) → text_below 0 f ≡ []
unfolding text_below
text_none f = refl

pub kept_line_none : (mark e : ℕ) → (mark ≡ 2 → ⊥) → [] ≡ kept_line mark e
unfolding kept_line
kept_line_none mark e d = rw (ne_eqb mark 2 d)

pub kept_line_law : (mark e : ℕ) → mark ≡ 2 → line_of kept_key e ≡ kept_line mark e
unfolding kept_line
kept_line_law mark e h = rw (eq-eqb mark 2 h)

pub and_not_true : (first : Bool) {here : Bool} → here ≡ true → false ≡ (first && not here)
and_not_true true e = rw e
and_not_true false e = refl

pub and_not_false : (first : Bool) {here : Bool} → here ≡ false → first ≡ (first && not here)
and_not_false true e = rw e
and_not_false false e = refl

-- ---- the lines of records that were written

text_append : (m n : ℕ) (f : ℕ → List ℕ) → text_below (m + n) f ≡ text_below m f ++ text_below n (λ i. f (m + i))
unfolding text_below
text_append m zero f = ap (λ k. text_below k f) (add-zero m) ∙ sym (append-nil (text_below m f))
text_append m (suc n) f =
    ap (λ k. text_below k f) (add-suc m n)
    ∙ ap (λ l. l ++ f (m + n)) (text_append m n f)
    ∙ append_assoc (text_below m f) (text_below n (λ i. f (m + i))) (f (m + n))

text_cong : (n : ℕ) (f g : ℕ → List ℕ) → ((i : ℕ) → f i ≡ g i) → text_below n f ≡ text_below n g
unfolding text_below
text_cong zero f g h = refl
text_cong (suc n) f g h = rw (text_cong n f g h, h n)

-- A record's line is that of its value and members.
pub line_of_record : (value : ℕ) (S : ℕ → Bool) → value < 2 ^ 64
    → dual_line (record_of value S) ≡ dual_key ++ decimal value ++ (colon ∷ []) ++ listed (those_below (8 * member_bytes) S) ++ (newline ∷ [])
unfolding dual_line members_of
line_of_record value S h = rw (value_of_record value S h, members_of_record value S)

-- The lines of a buffer are that of its first record and those of the rest.
pub lines_of_records : (r rest : List ℕ) → length r ≡ record_bytes → dual_lines (r ++ rest) ≡ dual_line r ++ dual_lines rest
unfolding dual_lines
lines_of_records r rest h =
    let sum : length (r ++ rest) ≡ length r + length rest = length-append r rest in
    let count : length (r ++ rest) / record_bytes ≡ 1 + length rest / record_bytes = omega arith in
    let f : ℕ → List ℕ = λ i. dual_line (record_at (r ++ rest) i) in
    let one : text_below 1 f ≡ dual_line r = sym (text_next f 0) ∙ ap (λ l. l ++ f 0) (text_none f) ∙ ap dual_line (record_at_first r rest h) in
    let rest_is : text_below (length rest / record_bytes) (λ i. f (1 + i)) ≡ text_below (length rest / record_bytes) (λ i. dual_line (record_at rest i)) =
    text_cong (length rest / record_bytes) _ _ (λ i. ap dual_line (record_at_right 1 r rest i (omega arith))) in
    ap (λ n. text_below n f) count ∙ text_append 1 (length rest / record_bytes) f ∙ ap₂ ◌++◌ one rest_is
