-- The handset's counts by way of the library's: a call is lent as many entries as its figures are, or none where the result is too short for them, and what it stores is written as bytes.
use Rattle.std.specs.Prelude.{ℕ, ◌*◌, ◌-◌, ◌/◌, ◌<◌, ◌≤◌, ◌≡◌, Bool, true, length}
use Rattle.std.proofs.Common.{arith, ◌∙◌}
use Rattle.std.proofs.Math.Path.{refl, ap, sym}
use Rattle.std.proofs.Math.Bool.{false, cond}
use mathlib.Core.List.{List, [], ◌++◌, append-nil}
use Rattle.std.proofs.Math.ListN.{take, drop}
use Rattle.std.proofs.Math.Seq.{sets}
use Rattle.std.proofs.Math.Dec.{ltb}
use borrow.Author.Tests.{lt-ltb, le-ltb, ltb-false}
use Rattle.base_limits.specs.Verdict.{refuse_if, ◌before◌, written}
use Rattle.base_limits.specs.declared.Verdict.{Verdict}
use Rattle.base_limits.specs.declared.Verdict.TheVariants.{Fine, Refused}
use Rattle.base_limits.specs.Laws.Verdict.{fine_left, fine_right, fine_refuse}
use Rattle.format_record.specs.Record.{overwritten}
use Rattle.format_record.proofs.Laws.Record.{overwritten_whole}
use Rattle.survey_core.specs.Survey.{Survey}
use Rattle.survey_core.specs.Refusal.{survey_refusal}
use Rattle.api_code.specs.Code.{code_of, with_counts, counts_after, lent_on}
use Rattle.api_code.specs.Laws.Encodable.{Encodable, code_zero, zero_code}
use Rattle.api_code.specs.Laws.Lending.{lent_part, lent_rest}
use Rattle.api_code.specs.Laws.Ends.{counts_encodable}
use Rattle.api_handset.specs.Words.{figure_bytes, spelled_counts, with_spelled}
use Rattle.api_handset.specs.Call.{result_after}

-- The entries that are lent on of n zeros, and how many they are.
length_lent : (b : Bool) (l : List ℕ) (n : ℕ) → length l ≡ n → 0 < n → ltb (length (cond b [] l)) n ≡ b
length_lent true l n size some = lt-ltb 0 n some
length_lent false l n size some = le-ltb (length l) n (omega arith)

module _ (s : Survey) (rest : Verdict) (n : ℕ) (some : 0 < n) (zeros result : List ℕ) (size : length zeros ≡ n) {room : ℕ}
    (lent : room ≡ lent_on (length result) (n * figure_bytes) n) where
  -- What the library's call finds with them, and what the handset's finds.
  abbrev within : Verdict
  within = with_counts s n (length (take (room - 0) zeros)) rest

  abbrev across : Verdict
  across = with_counts s (n * figure_bytes) (length result) rest

  abbrev short : Bool
  short = ltb (length result) (n * figure_bytes)

  lent_zeros : room ≡ lent_on (length result) (n * figure_bytes) (length zeros)
  lent_zeros = lent ∙ ap (λ k. lent_on (length result) (n * figure_bytes) k) (sym size)

  across_is : within ≡ across
  unfolding with_counts
  across_is =
      ap (λ t. survey_refusal s before refuse_if t 7 0 before rest)
      (ap (λ l. ltb (length l) n) (lent_part (length result) (n * figure_bytes) zeros lent_zeros) ∙ length_lent short zeros n size some)

  pub across_code : {code : ℕ} → code ≡ code_of within → code ≡ code_of across
  across_code h = h ∙ ap code_of across_is

  pub across_written : (new old : List ℕ) {after : List ℕ} → after ≡ written within new old → after ≡ written across new old
  across_written new old h = h ∙ ap (λ v. written v new old) across_is

  -- Refused: nothing is written.
  pub result_kept : {code : ℕ} → code ≡ code_of within → 0 < code → (figures : List ℕ) → result ≡ result_after across figures result
  unfolding result_after written
  result_kept {code} h refused figures = by across (across_code h)
    where
      by : (v : Verdict) → code ≡ code_of v → result ≡ written v (sets result 0 (spelled_counts figures)) result
      by Fine e = let none : code ≡ 0 = e ∙ zero_code refl in absurd (omega (arith, none, refused))
      by (Refused number place) e = refl

  -- An answer: the counts were all lent, so that what is stored is the figures.
  module _ (fits : Encodable rest) {code : ℕ} (coded : code ≡ code_of within) (none : code ≤ 0) where
    fine : across ≡ Fine
    fine = sym across_is ∙ code_zero within (counts_encodable s n (length (take (room - 0) zeros)) rest fits) (let zero : code_of within ≡ 0 = omega arith in zero)

    enough : short ≡ false
    unfolding with_counts
    enough = fine_refuse short 7 0 (fine_left _ _ (fine_right (survey_refusal s) _ fine))

    pub result_stored : (figures : List ℕ) → length figures ≡ n → {part after : List ℕ} → part ≡ counts_after within figures (take (room - 0) zeros)
        → after ≡ with_spelled result (part ++ drop (room - 0) zeros) → after ≡ result_after across figures result
    unfolding counts_after written result_after with_spelled overwritten
    result_stored figures many {part} {after} stored wrote =
        let wanted = n * figure_bytes in
        let whole : take (room - 0) zeros ≡ zeros = lent_part (length result) wanted zeros lent_zeros ∙ ap (λ t. cond t [] zeros) enough in
        let none_left : drop (room - 0) zeros ≡ [] = lent_rest (length result) wanted zeros lent_zeros ∙ ap (λ t. cond t zeros []) enough in
        let all : part ≡ figures =
        stored ∙ ap (λ v. written v (sets (take (room - 0) zeros) 0 figures) (take (room - 0) zeros)) (across_is ∙ fine)
        ∙ ap (λ l. sets l 0 figures) whole ∙ overwritten_whole zeros figures (size ∙ sym many) in
        let held : part ++ drop (room - 0) zeros ≡ figures = ap (λ l. part ++ l) none_left ∙ append-nil part ∙ all in
        let long = ltb-false (length result) wanted enough in
        let room_for : ltb (length result / figure_bytes) (length figures) ≡ false = le-ltb (length result / figure_bytes) (length figures) (omega (arith, long, many)) in
        wrote ∙ ap (λ l. cond (ltb (length result / figure_bytes) (length l)) result (sets result 0 (spelled_counts l))) held
        ∙ ap (λ t. cond t result (sets result 0 (spelled_counts figures))) room_for
        ∙ sym (ap (λ v. written v (sets result 0 (spelled_counts figures)) result) fine)
