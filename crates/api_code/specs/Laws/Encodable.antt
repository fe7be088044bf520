-- Refusals are told by one number of 64 bits: each number is 1 to 255 and each place below 2^32. So 0 is an answer, and number and place can be read off.
use Rattle.std.specs.Prelude.{ℕ, ◌+◌, ◌*◌, ◌<◌, ◌≤◌, ◌^◌, ◌/◌, ◌%◌, ◌≡◌, refl, Bool, true, false, length, ltb}
use Rattle.std.proofs.Common.{arith, ap, sym, ◌∙◌, lit<, ltb-true, ltb-false}
use Rattle.base_limits.specs.Limits.{max_edges, max_pairs, group_numbers}
use Rattle.base_limits.specs.Verdict.{refuse_if, ◌before◌, lowest_below}
use Rattle.base_limits.specs.declared.Verdict.{Verdict}
use Rattle.base_limits.specs.declared.Verdict.TheVariants.{Fine, Refused}
use Rattle.base_limits.specs.Laws.Verdict.{Lowest, lowest_elim, refused_refuse, fine_refuse}
use Rattle.survey_core.specs.Survey.{Survey, edge_count, lists_of}
use Rattle.survey_core.specs.Lists.{Lists}
use Rattle.survey_core.specs.Pairs.{pair_refusal, pairs_refusal}
use Rattle.survey_core.specs.Refusal.{edge_refusal, survey_refusal, group_refusal}
use Rattle.survey_core.proofs.Laws.Pairs.{fine_pair}
use Rattle.api_code.specs.Code.{place_unit, code_of, capped}

-- Number and place that one number tells.
pub record Telling (number place : ℕ) : Type 0 where
  pub some : 0 < number
  pub low : number < place_unit
  pub near : place < 2 ^ 32

-- A finding with such a number and place, if it is a refusal.
pub record Encodable (v : Verdict) : Type 0 where
  pub telling : (number place : ℕ) → v ≡ Refused number place → Telling number place

pub telling_encodable : {number place : ℕ} → Telling number place → Encodable (Refused number place)
telling_encodable {number} {place} t = record { telling = λ n p e. by_same n p e }
  where
    by_same : (n p : ℕ) → Refused number place ≡ Refused n p → Telling n p
    by_same n p e =
        let a : number ≡ n = cc in
        let b : place ≡ p = cc in
        let x = t.some in
        let y = t.low in
        let z = t.near in
        record { some = omega arith; low = omega arith; near = omega arith }

-- ---- what the one number tells

-- It fits 64 bits.
pub exact_code : (v : Verdict) → Encodable v → (number place : ℕ) → v ≡ Refused number place → {r : ℕ} → r ≡ capped (number + place_unit * place) → r ≡ code_of v
unfolding capped code_of
exact_code v h number place e {r} k =
    let t = h.telling number place e in
    let a = t.low in
    let b = t.near in
    let same : r ≡ number + place_unit * place = omega arith in
    same ∙ sym (ap code_of e)

pub capped_code : (v : Verdict) → Encodable v → capped (code_of v) ≡ code_of v
unfolding capped code_of
capped_code Fine h = refl
capped_code (Refused number place) h =
    let t = h.telling number place refl in
    let a = t.low in
    let b = t.near in
    omega arith

pub code_zero : (v : Verdict) → Encodable v → code_of v ≡ 0 → v ≡ Fine
unfolding code_of
code_zero Fine h e = refl
code_zero (Refused number place) h e = let a = (h.telling number place refl).some in absurd (omega arith)

pub zero_code : {v : Verdict} → v ≡ Fine → code_of v ≡ 0
unfolding code_of
zero_code e = ap code_of e

pub code_number : (number place : ℕ) → Telling number place → code_of (Refused number place) % place_unit ≡ number
unfolding code_of
code_number number place t = let a = t.low in omega arith

pub code_place : (number place : ℕ) → Telling number place → code_of (Refused number place) / place_unit ≡ place
unfolding code_of
code_place number place t = let a = t.low in omega arith

-- ---- refusals are encodable

pub encodable_refuse : (t : Bool) {number place : ℕ} → Telling number place → Encodable (refuse_if t number place)
encodable_refuse t {number} {place} h =
    record {
      telling = λ n p e.
          let same = (refused_refuse t number place n p e).1 in
          let a = same.0 in
          let b = same.1 in
          let x = h.some in
          let y = h.low in
          let z = h.near in
          record { some = omega arith; low = omega arith; near = omega arith };
    }

-- A refusal at place 0.
pub at_zero : (number : ℕ) → 0 < number → number < place_unit → Telling number 0
at_zero number a b = record { some = a; low = b; near = lit< tt }

pub at_place : (number : ℕ) {place : ℕ} → 0 < number → number < place_unit → place < 2 ^ 32 → Telling number place
at_place number a b c = record { some = a; low = b; near = c }

pub encodable_fine : Encodable Fine
unfolding refuse_if
encodable_fine = encodable_refuse false (at_zero 1 (lit< tt) (lit< tt))

pub encodable_before : (v w : Verdict) → Encodable v → (v ≡ Fine → Encodable w) → Encodable (v before w)
unfolding ◌before◌
encodable_before Fine w h k = k refl
encodable_before (Refused a b) w h k = h

-- Of the lowest finding it is known that there is none before it.
pub encodable_first : (n : ℕ) (f : ℕ → Verdict) → ((i : ℕ) → i < n → ((j : ℕ) → j < i → f j ≡ Fine) → Encodable (f i)) → Encodable (lowest_below n f)
encodable_first n f h =
    record {
      telling = λ number place e.
          let l : Lowest n f number place = lowest_elim n f number place e in
          (h l.at l.below l.none_before).telling number place l.found;
    }

pub encodable_lowest : (n : ℕ) (f : ℕ → Verdict) → ((i : ℕ) → i < n → Encodable (f i)) → Encodable (lowest_below n f)
encodable_lowest n f h = encodable_first n f λ i b none. h i b

edge_encodable : (s : Survey) (e : ℕ) → e < 2 ^ 32 → Encodable (edge_refusal s e)
unfolding edge_refusal
edge_encodable s e b =
    encodable_before _ _ (encodable_refuse _ (at_place 4 (lit< tt) (lit< tt) b)) λ _. encodable_before _ _ (encodable_refuse _ (at_place 5 (lit< tt) (lit< tt) b)) λ _. encodable_refuse _ (at_place 6 (lit< tt) (lit< tt) b)

-- 18 comes at the pair past the last that may be, if not before, however many are lent.
pair_few : (l : Lists) (i : ℕ) → ((j : ℕ) → j < i → pair_refusal l j ≡ Fine) → i ≤ max_pairs
pair_few l i none = by (ltb max_pairs i) refl
  where
    by : (t : Bool) → ltb max_pairs i ≡ t → i ≤ max_pairs
    by false h = ltb-false max_pairs i h
    by true h = let b = (fine_pair l max_pairs (none max_pairs (ltb-true max_pairs i h))).few in omega arith

pair_encodable : (l : Lists) (i : ℕ) → i < 2 ^ 32 → Encodable (pair_refusal l i)
unfolding pair_refusal
pair_encodable l i b =
    encodable_before _ _ (encodable_refuse _ (at_place 18 (lit< tt) (lit< tt) b)) λ _.
    encodable_before _ _ (encodable_refuse _ (at_place 18 (lit< tt) (lit< tt) b)) λ _.
    encodable_before _ _ (encodable_refuse _ (at_place 18 (lit< tt) (lit< tt) b)) λ _.
    encodable_before _ _ (encodable_refuse _ (at_place 18 (lit< tt) (lit< tt) b)) λ _.
    encodable_refuse _ (at_place 18 (lit< tt) (lit< tt) b)

pairs_encodable : (l : Lists) → Encodable (pairs_refusal l)
unfolding pairs_refusal
pairs_encodable l = encodable_first (length l.owners) (pair_refusal l) λ i b none. pair_encodable l i (let few = pair_few l i none in omega arith)

pub survey_encodable : (s : Survey) → Encodable (survey_refusal s)
unfolding survey_refusal
survey_encodable s =
    encodable_before _ _ (encodable_refuse _ (at_zero 1 (lit< tt) (lit< tt))) λ _.
    encodable_before _ _ (encodable_refuse _ (at_zero 2 (lit< tt) (lit< tt))) λ _.
    encodable_before _ _ (encodable_refuse _ (at_zero 2 (lit< tt) (lit< tt))) λ _.
    encodable_before _ _ (encodable_refuse _ (at_zero 3 (lit< tt) (lit< tt))) λ few.
    encodable_before _ _ (encodable_lowest (edge_count s) (edge_refusal s) λ e b. edge_encodable s e (below few b)) λ _.
    pairs_encodable (lists_of s)
  where
    below : {e : ℕ} → refuse_if (ltb max_edges (edge_count s)) 3 0 ≡ Fine → e < edge_count s → e < 2 ^ 32
    below few b = let l = ltb-false max_edges (edge_count s) (fine_refuse _ 3 0 few) in omega arith

pub group_encodable : (s : Survey) (number : ℕ) (F : ℕ → Bool) → 0 < number → number < place_unit → Encodable (group_refusal s number F)
unfolding group_refusal
group_encodable s number F some low = encodable_lowest group_numbers _ λ g b. encodable_refuse _ (at_place number some low (omega arith))
