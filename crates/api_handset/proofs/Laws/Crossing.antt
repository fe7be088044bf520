-- Every survey of numbers that fit four bytes crosses whole: what is read from its slices is the survey.
use Rattle.std.specs.Prelude.{ℕ, zero, suc, ◌+◌, ◌*◌, ◌/◌, ◌%◌, ◌<◌, ◌^◌, ◌≡◌, refl, false, List, [], ◌∷◌, ◌++◌, length, get_or, take, drop}
use Rattle.std.proofs.Common.{arith, ◌∙◌, length-append, take_at, ext_get_or, eq-eqb}
use Rattle.std.proofs.Math.Path.{ap}
use Rattle.std.proofs.Math.Seq.{drop-append-add}
use Rattle.base_finite.specs.Below.{tabulate}
use Rattle.base_finite.specs.Laws.Below.{length_tabulate, get_d_tabulate}
use Rattle.format_record.specs.Bits.{number_of, low_bytes}
use Rattle.format_record.proofs.Laws.Bytes.{length_low, number_of_low}
use Rattle.base_limits.specs.Verdict.{◌before◌}
use Rattle.base_limits.specs.declared.Verdict.{Verdict}
use Rattle.base_limits.specs.declared.Verdict.TheVariants.{Fine, Refused}
use Rattle.base_limits.specs.Laws.Verdict.{before_none, refuse_false}
use Rattle.survey_core.specs.Survey.{Survey, vertex_count}
use Rattle.survey_core.specs.Refusal.{survey_refusal}
use Rattle.api_handset.specs.Words.{word_bytes, word_at, words_in}
use Rattle.api_code.specs.Code.{with_counts}
use Rattle.api_handset.specs.Slices.{survey_spelled, is_ragged, size_refusal, any_ragged, ragged_refusal}
use Rattle.api_handset.specs.Call.{plan_with, handset_plan, check_with, handset_check}
use Rattle.api_handset.specs.Crossing.{in_bytes, Fit, crossing_of}

length_crossed : (l : List ℕ) → length (in_bytes l) ≡ word_bytes * length l
unfolding in_bytes
length_crossed [] = refl
length_crossed (x ∷ l) =
    let a = length-append (low_bytes word_bytes x) (in_bytes l) in
    let b : length (low_bytes word_bytes x) ≡ word_bytes = length_low word_bytes x in
    let ih : length (in_bytes l) ≡ word_bytes * length l = length_crossed l in
    omega arith

word_first : (x : ℕ) (rest : List ℕ) → x < 256 ^ word_bytes → word_at (low_bytes word_bytes x ++ rest) 0 ≡ x
unfolding word_at
word_first x rest h =
    ap number_of (take_at (low_bytes word_bytes x) rest word_bytes (length_low word_bytes x)) ∙ number_of_low word_bytes x h

word_later : (x : ℕ) (rest : List ℕ) (i : ℕ) → word_at (low_bytes word_bytes x ++ rest) (suc i) ≡ word_at rest i
unfolding word_at
word_later x rest i =
    let low = low_bytes word_bytes x in
    let b : length low ≡ word_bytes = length_low word_bytes x in
    let e : word_bytes * suc i ≡ length low + word_bytes * i = omega arith in
    ap (λ k. number_of (take word_bytes (drop k (low ++ rest)))) e
    ∙ ap (λ l. number_of (take word_bytes l)) (drop-append-add low rest (word_bytes * i))

word_back : (l : List ℕ) → Fit l → (i : ℕ) → i < length l → word_at (in_bytes l) i ≡ get_or l i 0
unfolding in_bytes
word_back [] h i b = absurd (omega arith)
word_back (x ∷ l) h zero b = word_first x (in_bytes l) (h 0)
word_back (x ∷ l) h (suc i) b = word_later x (in_bytes l) i ∙ word_back l (λ j. h (suc j)) i (omega arith)

pub words_back : (l : List ℕ) → Fit l → words_in (in_bytes l) ≡ l
unfolding words_in
words_back l h =
    let long : length (in_bytes l) ≡ word_bytes * length l = length_crossed l in
    let n : length (in_bytes l) / word_bytes ≡ length l = omega arith in
    let table = tabulate (length l) (word_at (in_bytes l)) in
    let same : length table ≡ length l = length_tabulate (length l) (word_at (in_bytes l)) in
    ap (λ k. tabulate k (word_at (in_bytes l))) n
    ∙ ext_get_or 0 table l same
    (λ i b.
    let c : i < length l = rw same at b in
    get_d_tabulate (length l) (word_at (in_bytes l)) i 0 c ∙ word_back l h i c)

pub survey_back : (s : Survey) → Fit s.firsts → Fit s.seconds → Fit s.weights → Fit s.owners → survey_spelled (crossing_of s) ≡ s
unfolding survey_spelled crossing_of
survey_back s f g w o =
    rw (words_back s.firsts f, words_back s.seconds g, words_back s.weights w, words_back s.owners o)

-- ---- its calls are the library's

crossed_whole : (l : List ℕ) → is_ragged (length (in_bytes l)) ≡ false
unfolding is_ragged
crossed_whole l =
    let long : length (in_bytes l) ≡ word_bytes * length l = length_crossed l in
    rw (eq-eqb (length (in_bytes l) % word_bytes) 0 (omega arith))

crossed_size : (s : Survey) → ragged_refusal (crossing_of s) ≡ size_refusal (length s.groups)
unfolding ragged_refusal crossing_of any_ragged
crossed_size s =
    ap (λ v. size_refusal (length s.groups) before v)
    (refuse_false (rw (crossed_whole s.firsts, crossed_whole s.seconds, crossed_whole s.weights, crossed_whole s.owners)) 2 0)
    ∙ before_none (size_refusal (length s.groups))

found_first : (v r w : Verdict) → (v before (v before r) before w) ≡ ((v before r) before w)
unfolding ◌before◌
found_first Fine r w = refl
found_first (Refused number place) r w = refl

-- 1, which a survey is refused for first, is found twice.
pub size_first : (s : Survey) (w : Verdict) → (size_refusal (length s.groups) before survey_refusal s before w) ≡ (survey_refusal s before w)
unfolding size_refusal survey_refusal vertex_count
size_first s w = found_first (size_refusal (length s.groups)) _ w

module _ (s : Survey) (f : Fit s.firsts) (g : Fit s.seconds) (w : Fit s.weights) (o : Fit s.owners) (marks records result : List ℕ) where
  pub plan_crossed : handset_plan (crossing_of s) marks records result ≡ plan_with s marks records result
  unfolding handset_plan plan_with with_counts
  plan_crossed =
      ap (λ t. ragged_refusal (crossing_of s) before plan_with t marks records result) (survey_back s f g w o)
      ∙ ap (λ v. v before plan_with s marks records result) (crossed_size s)
      ∙ size_first s _

  pub check_crossed : handset_check (crossing_of s) marks records result ≡ check_with s marks records result
  unfolding handset_check check_with with_counts
  check_crossed =
      ap (λ t. ragged_refusal (crossing_of s) before check_with t marks records result) (survey_back s f g w o)
      ∙ ap (λ v. v before check_with s marks records result) (crossed_size s)
      ∙ size_first s _
