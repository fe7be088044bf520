-- Laws of room: `dual_room` bytes hold every moat line, `plan_room` every plan within the limits, `refusal_room` every refusal.
use Rattle.std.specs.Prelude.{ℕ, zero, suc, ◌+◌, ◌*◌, ◌/◌, ◌^◌, ◌≤◌, ◌<◌, ◌≡◌, refl, Bool, true, false, ◌&&◌, cond, List, [], ◌∷◌, ◌++◌, length, get_or, eqb, leb}
use Rattle.std.proofs.Common.{arith, le-ltb, eq-eqb, leb-true, le-leb, ap, ⊎_elim, append-nil, length-append}
use Rattle.std.proofs.lemmas.Bool.{lt-leb}
use Rattle.base_finite.specs.Below.{sum_below, those_below}
use Rattle.base_finite.specs.Laws.Test.{either, and_left, and_right}
use Rattle.base_limits.specs.Limits.{member_bytes, record_bytes, max_edges, records_room, word_digits, longest_members, longest_dual, dual_room, counts_room, kept_room, plan_room_for, plan_room, refusal_room}
use Rattle.base_limits.specs.Verdict.{refuse_if, ◌before◌}
use Rattle.format_record.specs.Bits.{Bytes}
use Rattle.format_record.specs.Record.{value_in, member_in, record_at}
use Rattle.format_record.proofs.Laws.Record.{value_lt, bytes_record_at}
use Rattle.format_print.specs.declared.Printed.TheVariants.{Length}
use Rattle.format_write.specs.Key.{terminals_key, cost_key, bound_key, rounds_key, kept_key, dual_key, refused_key, place_key, colon, newline}
use Rattle.format_write.specs.Decimal.{digits_within, decimal}
use Rattle.format_write.specs.Text.{line_of, listed, members_of, dual_line, text_below, kept_line, kept_lines, dual_lines, count_lines, plan_text, refusal_text}
use Rattle.format_write.specs.Wrote.{is_none, item_of}
use Rattle.format_print.specs.Print.{print_refusal, answer_of, printed, dual_print_refusal, dual_printed}
use Rattle.format_print.specs.Within.{PlanWithin, holds_all}
use Rattle.format_write.proofs.Laws.Decimal.{length_decimal}
use Rattle.format_write.proofs.Laws.Text.{listed_snoc}

-- ---- a list of members

-- What the numbers below n take at most, each with a comma after it.
unfoldable pub room_below : ℕ → ℕ
room_below n = sum_below n (λ v. length (decimal v) + 1)

-- What a list takes, with a comma after it unless it is empty.
taken : List ℕ → ℕ
taken xs = length (listed xs) + cond (is_none xs) 0 1

taken_more : (xs : List ℕ) (here : Bool) (v : ℕ) → taken (xs ++ cond here (v ∷ []) []) ≤ taken xs + (length (decimal v) + 1)
unfolding taken is_none listed item_of
taken_more xs false v = let e : xs ++ [] ≡ xs = append-nil xs in rw e (omega arith)
taken_more [] true v = omega arith
taken_more (x ∷ xs) true v =
    let e : length (listed (x ∷ (xs ++ (v ∷ [])))) ≡ length (listed (x ∷ xs) ++ item_of false v) = ap length (listed_snoc (x ∷ xs) v) in
    let l : length (listed (x ∷ xs) ++ item_of false v) ≡ length (listed (x ∷ xs)) + suc (length (decimal v)) =
    length-append (listed (x ∷ xs)) (item_of false v) in
    omega arith

taken_below_law : (n : ℕ) (t : ℕ → Bool) → taken (those_below n t) ≤ room_below n
unfolding those_below room_below sum_below taken listed is_none
taken_below_law zero t = omega arith
taken_below_law (suc n) t =
    let ih : taken (those_below n t) ≤ room_below n = taken_below_law n t in
    let more : taken (those_below n t ++ cond (t n) (n ∷ []) []) ≤ taken (those_below n t) + (length (decimal n) + 1) = taken_more (those_below n t) (t n) n in
    omega arith

-- All members, with a comma after the last.
pub room_of_members : room_below (8 * member_bytes) ≡ longest_members + 1
unfolding room_below sum_below decimal digits_within
room_of_members = refl

-- The last number has no comma after it.
taken_last : (xs : List ℕ) (n : ℕ) → taken xs ≤ suc n → length (listed xs) ≤ n
unfolding taken listed is_none
taken_last [] n h = omega arith
taken_last (x ∷ xs) n h = omega arith

length_members : (r : List ℕ) → length (listed (members_of r)) ≤ longest_members
unfolding members_of
length_members r =
    let all : taken (those_below (8 * member_bytes) (member_in r)) ≤ room_below (8 * member_bytes) = taken_below_law (8 * member_bytes) (member_in r) in
    let e = room_of_members in
    taken_last (those_below (8 * member_bytes) (member_in r)) longest_members (omega arith)

-- ---- lines

pub word_digits_law : (x : ℕ) → x < 2 ^ 64 → length (decimal x) ≤ word_digits
word_digits_law x h = length_decimal 19 x (omega arith)

pub length_line : (key : List ℕ) (x : ℕ) → length (line_of key x) ≡ length key + length (decimal x) + 1
unfolding line_of
length_line key x =
    let a : length (key ++ decimal x ++ (newline ∷ [])) ≡ length (key ++ decimal x) + 1 = length-append (key ++ decimal x) (newline ∷ []) in
    let b : length (key ++ decimal x) ≡ length key + length (decimal x) = length-append key (decimal x) in
    omega arith

-- A moat line's length by its amount and its members.
pub length_dual : (x : ℕ) (vs : List ℕ) → length (dual_key ++ decimal x ++ (colon ∷ []) ++ listed vs ++ (newline ∷ [])) ≡ 7 + length (decimal x) + length (listed vs)
unfolding dual_key
length_dual x vs =
    let digits = decimal x in
    let members = listed vs in
    let a : length (dual_key ++ digits) ≡ 5 + length digits = length-append dual_key digits in
    let b : length (dual_key ++ digits ++ (colon ∷ [])) ≡ length (dual_key ++ digits) + 1 = length-append (dual_key ++ digits) (colon ∷ []) in
    let c : length (dual_key ++ digits ++ (colon ∷ []) ++ members) ≡ length (dual_key ++ digits ++ (colon ∷ [])) + length members =
    length-append (dual_key ++ digits ++ (colon ∷ [])) members in
    let d = length-append (dual_key ++ digits ++ (colon ∷ []) ++ members) (newline ∷ []) in
    omega arith

-- No moat line is longer than the longest.
pub dual_line_le : (r : List ℕ) → Bytes r → length (dual_line r) ≤ longest_dual
unfolding dual_line
dual_line_le r h =
    let value : length (decimal (value_in r)) ≤ word_digits = word_digits_law (value_in r) (value_lt r h) in
    let most : length (listed (members_of r)) ≤ longest_members = length_members r in
    let l = length_dual (value_in r) (members_of r) in
    omega arith

-- Room for every moat line: it is never refused with 7.
pub dual_room_law : (r out : List ℕ) → Bytes r → length r ≡ record_bytes → dual_room ≤ length out → dual_printed r out ≡ Length (length (dual_line r))
unfolding dual_printed dual_print_refusal print_refusal refuse_if ◌before◌ answer_of
dual_room_law r out h e room =
    let le : length (dual_line r) ≤ longest_dual = dual_line_le r h in
    let fits : length (dual_line r) ≤ length out = omega arith in
    rw (eq-eqb (length r) record_bytes e, le-ltb (length out) (length (dual_line r)) fits)

-- ---- plans

length_text_below : (n : ℕ) (f : ℕ → List ℕ) (most : ℕ) → ((i : ℕ) → i < n → length (f i) ≤ most) → length (text_below n f) ≤ n * most
unfolding text_below
length_text_below zero f most h = omega arith
length_text_below (suc n) f most h =
    let ih : length (text_below n f) ≤ n * most = length_text_below n f most (λ i l. h i (omega arith)) in
    let last : length (f n) ≤ most = h n (omega arith) in
    let sum : length (text_below n f ++ f n) ≡ length (text_below n f) + length (f n) = length-append (text_below n f) (f n) in
    omega arith

-- A keep line has at most four digits.
pub kept_line_le : (mark e : ℕ) → e < max_edges → length (kept_line mark e) ≤ kept_room
unfolding kept_line kept_key
kept_line_le mark e h =
    let digits : length (decimal e) ≤ 4 = length_decimal 3 e (omega arith) in
    let line : length (line_of kept_key e) ≡ 5 + length (decimal e) + 1 = length_line kept_key e in
    ⊎_elim (λ kept. rw kept (omega arith)) (λ other. rw other (omega arith)) (either (eqb mark 2))

length_kept_lines : (marks : List ℕ) → length marks ≤ max_edges → length (kept_lines marks) ≤ kept_room * length marks
unfolding kept_lines
length_kept_lines marks h =
    let all = length_text_below (length marks) (λ e. kept_line (get_or marks e 0) e) kept_room (λ e l. kept_line_le (get_or marks e 0) e (omega arith)) in
    omega arith

length_dual_lines : (records : List ℕ) → Bytes records → length (dual_lines records) ≤ longest_dual * (length records / record_bytes)
unfolding dual_lines
length_dual_lines records h =
    let all =
    length_text_below (length records / record_bytes) (λ i. dual_line (record_at records i)) longest_dual
    (λ i l. dual_line_le (record_at records i) (bytes_record_at records i h)) in
    omega arith

-- Four counts of 64 bits.
pub length_count_lines : (k c b r : ℕ) → k < 2 ^ 64 → c < 2 ^ 64 → b < 2 ^ 64 → r < 2 ^ 64 → length (count_lines k c b r) ≤ counts_room
unfolding count_lines terminals_key cost_key bound_key rounds_key
length_count_lines k c b r hk hc hb hr =
    let l₁ = line_of terminals_key k in
    let l₂ = line_of cost_key c in
    let l₃ = line_of bound_key b in
    let l₄ = line_of rounds_key r in
    let e₁ : length l₁ ≡ 6 + length (decimal k) + 1 = length_line terminals_key k in
    let e₂ : length l₂ ≡ 5 + length (decimal c) + 1 = length_line cost_key c in
    let e₃ : length l₃ ≡ 6 + length (decimal b) + 1 = length_line bound_key b in
    let e₄ : length l₄ ≡ 7 + length (decimal r) + 1 = length_line rounds_key r in
    let s₁ : length (l₁ ++ l₂) ≡ length l₁ + length l₂ = length-append l₁ l₂ in
    let s₂ : length (l₁ ++ l₂ ++ l₃) ≡ length (l₁ ++ l₂) + length l₃ = length-append (l₁ ++ l₂) l₃ in
    let s₃ : length (l₁ ++ l₂ ++ l₃ ++ l₄) ≡ length (l₁ ++ l₂ ++ l₃) + length l₄ = length-append (l₁ ++ l₂ ++ l₃) l₄ in
    let d₁ = word_digits_law k hk in
    let d₂ = word_digits_law c hc in
    let d₃ = word_digits_law b hb in
    let d₄ = word_digits_law r hr in
    omega arith

-- No plan is longer than the longest of as many marks and records, and so none than the longest.
pub plan_text_room : (k c b r : ℕ) (marks records : List ℕ) → PlanWithin k c b r marks records
    → length (plan_text k c b r marks records) ≤ plan_room_for (length marks) (length records / record_bytes)
unfolding plan_text
plan_text_room k c b r marks records w =
    let counts = count_lines k c b r in
    let kept = kept_lines marks in
    let duals = dual_lines records in
    let a : length (counts ++ kept) ≡ length counts + length kept = length-append counts kept in
    let d : length (counts ++ kept ++ duals) ≡ length (counts ++ kept) + length duals = length-append (counts ++ kept) duals in
    let l₁ = length_count_lines k c b r w.terminals_fit w.cost_fits w.bound_fits w.rounds_fit in
    let l₂ = length_kept_lines marks w.marks_few in
    let l₃ = length_dual_lines records w.records_bytes in
    omega arith

-- What a room that holds all such plans has.
pub record HoldsAll (marks records room : ℕ) : Type 0 where
  pub few_marks : marks ≤ max_edges
  pub few_records : records ≤ records_room
  pub enough : plan_room_for marks (records / record_bytes) ≤ room

pub holds_all_elim : (marks records room : ℕ) → holds_all marks records room ≡ true → HoldsAll marks records room
unfolding holds_all
holds_all_elim marks records room h =
    let few : (leb marks max_edges && leb records records_room) ≡ true = and_left _ (leb (plan_room_for marks (records / record_bytes)) room) h in
    record {
      few_marks = leb-true marks max_edges (and_left (leb marks max_edges) (leb records records_room) few);
      few_records = leb-true records records_room (and_right (leb marks max_edges) (leb records records_room) few);
      enough = leb-true (plan_room_for marks (records / record_bytes)) room (and_right (leb marks max_edges && leb records records_room) _ h);
    }

-- The test by each of its three.
pub many_marks : (marks records room : ℕ) → max_edges < marks → false ≡ holds_all marks records room
unfolding holds_all
many_marks marks records room h = rw (lt-leb marks max_edges h)

pub many_records : (marks records room : ℕ) → marks ≤ max_edges → records_room < records → false ≡ holds_all marks records room
unfolding holds_all
many_records marks records room few h = rw (le-leb marks max_edges few, lt-leb records records_room h)

pub few_hold : (marks records room : ℕ) → marks ≤ max_edges → records ≤ records_room
    → leb (plan_room_for marks (records / record_bytes)) room ≡ holds_all marks records room
unfolding holds_all
few_hold marks records room few less = rw (le-leb marks max_edges few, le-leb records records_room less)

pub plan_text_le : (k c b r : ℕ) (marks records : List ℕ) → PlanWithin k c b r marks records → length (plan_text k c b r marks records) ≤ plan_room
plan_text_le k c b r marks records w =
    let all = plan_text_room k c b r marks records w in
    let few = w.marks_few in
    let less = w.records_few in
    omega arith

-- Room for every such plan: it is never refused with 7.
pub plan_room_law : (k c b r : ℕ) (marks records out : List ℕ) → PlanWithin k c b r marks records → plan_room ≤ length out
    → printed (plan_text k c b r marks records) out ≡ Length (length (plan_text k c b r marks records))
unfolding printed print_refusal refuse_if answer_of
plan_room_law k c b r marks records out w room =
    let le = plan_text_le k c b r marks records w in
    let fits : length (plan_text k c b r marks records) ≤ length out = omega arith in
    rw (le-ltb (length out) (length (plan_text k c b r marks records)) fits)

-- Room for every refusal.
pub refusal_text_le : (number place : ℕ) → number < 2 ^ 64 → place < 2 ^ 64 → length (refusal_text number place) ≤ refusal_room
unfolding refusal_text refused_key place_key
refusal_text_le number place hn hp =
    let a : length (line_of refused_key number) ≡ 8 + length (decimal number) + 1 = length_line refused_key number in
    let b : length (line_of place_key place) ≡ 6 + length (decimal place) + 1 = length_line place_key place in
    let sum = length-append (line_of refused_key number) (line_of place_key place) in
    let d = word_digits_law number hn in
    let e = word_digits_law place hp in
    omega arith
