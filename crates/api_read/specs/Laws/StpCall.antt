-- Reading an STP text: counts that fit, and it is the library's own; too short, and a group buffer of no length is lent on, which is refused.
use Rattle.std.specs.Prelude.{ℕ, ◌+◌, ◌*◌, ◌-◌, ◌^◌, ◌≤◌, ◌<◌, ◌≡◌, true, cond, length, take, drop, ltb}
use Rattle.std.proofs.Common.{arith, ◌∙◌, lit<, le-ltb}
use Rattle.std.proofs.Math.Path.{refl, ap, sym}
use mathlib.Core.List.{List, [], ◌∷◌, ◌++◌}
use Rattle.std.proofs.Math.Seq.{sets}
use Rattle.base_limits.specs.Verdict.{Outcome, refusal, answer}
use Rattle.base_limits.specs.declared.Verdict.{Verdict}
use Rattle.format_survey.specs.Reading.{filled}
use Rattle.format_survey.specs.Line.{SurveyCounts, firsts_of, seconds_of, weights_of}
use Rattle.format_stp.specs.StpReading.{StpContent, stp_reading}
use Rattle.format_stp.proofs.Laws.Promises.{promised}
use Rattle.format_stp.specs.Promises.{StpGives, gives_1, gives_3, gives_7, gives_20, stp_buffers, StpPromises}
use Rattle.format_stp.proofs.Laws.Accepted.{accepted_in, stp_numbers, stp_malformed_begins}
use Rattle.format_stp.specs.Answer.{stp_answer, stp_counts_of}
use Rattle.format_stp.specs.declared.StpRead.{StpRead}
use Rattle.format_stp.specs.declared.StpRead.TheVariants.{Survey as SurveyFound, Refused as ReadRefused}
use Rattle.api_code.specs.Code.{place_unit, code_of, capped, verdict_of, counts_for, lent_on}
use Rattle.api_code.specs.Laws.Encodable.{Telling, Encodable, telling_encodable, encodable_fine, capped_code}
use Rattle.api_code.specs.Laws.Lending.{lent_part, lent_rest}
use Rattle.api_read.specs.Laws.Call.{filled_rest}
use Rattle.api_read.specs.StpCall.{stp_figures, stp_figures_of, stp_call}

-- ---- the arms of `stp_code`

module _ {p : StpRead} where
  pub stp_refused_answers : {number place code : ℕ} (counts : List ℕ) → p ≡ ReadRefused number place → code ≡ capped (number + place_unit * place)
      → (code ≡ capped (code_of (verdict_of (stp_answer p)))) × (counts ≡ counts_for (stp_answer p) stp_figures_of counts)
  unfolding code_of verdict_of stp_answer counts_for
  stp_refused_answers counts e h =
      (h ∙ sym (ap (λ (q : StpRead). capped (code_of (verdict_of (stp_answer q)))) e), sym (ap (λ (q : StpRead). counts_for (stp_answer q) stp_figures_of counts) e))

  pub stp_answers : {n m x y : ℕ} {counts' : List ℕ} (counts : List ℕ) → p ≡ SurveyFound n m → x ≡ n → y ≡ m → counts' ≡ sets counts 0 (x ∷ y ∷ [])
      → (0 ≡ capped (code_of (verdict_of (stp_answer p)))) × (counts' ≡ counts_for (stp_answer p) stp_figures_of counts)
  unfolding capped code_of verdict_of stp_answer counts_for stp_figures_of
  stp_answers {n = n} {y = y} counts e f g k = (
    sym (ap (λ (q : StpRead). capped (code_of (verdict_of (stp_answer q)))) e),
    k ∙ ap (λ (a : ℕ). sets counts 0 (a ∷ y ∷ [])) f ∙ ap (λ (b : ℕ). sets counts 0 (n ∷ b ∷ [])) g ∙ sym (ap (λ (q : StpRead). counts_for (stp_answer q) stp_figures_of counts) e),
  )

-- ---- counts that do not fit

-- Without room for a group there is no answer.
no_room : (t firsts seconds weights : List ℕ) → (number place : ℕ) × (stp_reading t [] firsts seconds weights ≡ refusal number place)
no_room t firsts seconds weights = by_outcome (stp_reading t [] firsts seconds weights) refl
  where
    by_outcome : (o : Outcome StpContent) → stp_reading t [] firsts seconds weights ≡ o → (number place : ℕ) × (stp_reading t [] firsts seconds weights ≡ refusal number place)
    by_outcome (refusal number place) e = (number, place, e)
    by_outcome (answer x) e =
        let f = (accepted_in [] firsts seconds weights t x e).1 in
        let some = f.some in
        let room = f.for_groups in
        absurd (omega arith)

verdict_counts : (read : Outcome StpContent) → verdict_of (stp_counts_of read) ≡ verdict_of read
unfolding verdict_of stp_counts_of
verdict_counts (refusal number place) = refl
verdict_counts (answer x) = refl

-- What `read_stp` ensures, of buffers by their content before and after.
pub record StpTold (read : Outcome StpContent) (counts : Outcome SurveyCounts) (groups groups' firsts firsts' seconds seconds' weights weights' : List ℕ) : Type 0 where
  pub told : counts ≡ stp_counts_of read
  pub groups_read : groups' ≡ filled read (λ x. x.groups) groups
  pub firsts_read : firsts' ≡ filled read (λ x. firsts_of x.lines) firsts
  pub seconds_read : seconds' ≡ filled read (λ x. seconds_of x.lines) seconds
  pub weights_read : weights' ≡ filled read (λ x. weights_of x.lines) weights

-- What reading answers and leaves where so much of the group buffer is lent on.
module _ (t groups firsts seconds weights counts : List ℕ) {room : ℕ} (lent : room ≡ lent_on (length counts) stp_figures (length groups)) where
  abbrev call : Outcome StpContent
  call = stp_call t groups firsts seconds weights (length counts)

  abbrev part : Outcome StpContent
  part = stp_reading t (take (room - 0) groups) firsts seconds weights

  lent_read : part ≡ call
  unfolding stp_call
  lent_read = ap (λ (l : List ℕ). stp_reading t l firsts seconds weights) (lent_part (length counts) stp_figures groups lent)

  short_read : ltb (length counts) stp_figures ≡ true → (number place : ℕ) × (call ≡ refusal number place)
  unfolding stp_call
  short_read h = let n = no_room t firsts seconds weights in (n.0, n.1, (rw h n.2))

  module _ {held firsts' seconds' weights' : List ℕ} {found : Outcome SurveyCounts} (read : StpTold part found (take (room - 0) groups) held firsts firsts' seconds seconds' weights weights') where
    groups_left : held ++ drop (room - 0) groups ≡ filled call (λ x. x.groups) groups
    groups_left =
        ap (λ (l : List ℕ). l ++ drop (room - 0) groups) (read.groups_read ∙ ap (λ (o : Outcome StpContent). filled o (λ x. x.groups) (take (room - 0) groups)) lent_read)
        ∙ ap (λ (l : List ℕ). filled call (λ x. x.groups) l ++ drop (room - 0) groups) (lent_part (length counts) stp_figures groups lent)
        ∙ ap (λ (l : List ℕ). filled call (λ x. x.groups) (cond (ltb (length counts) stp_figures) [] groups) ++ l) (lent_rest (length counts) stp_figures groups lent)
        ∙ filled_rest (ltb (length counts) stp_figures) call (λ x. x.groups) groups short_read

    buffer_left : (values : StpContent → List ℕ) (l : List ℕ) {l' : List ℕ} → l' ≡ filled part values l → l' ≡ filled call values l
    buffer_left values l h = h ∙ ap (λ (o : Outcome StpContent). filled o values l) lent_read

    pub stp_into : {code : ℕ} {counts' : List ℕ} → code ≡ capped (code_of (verdict_of found)) → counts' ≡ counts_for found stp_figures_of counts
        → (code ≡ capped (code_of (verdict_of call)))
        × ((held ++ drop (room - 0) groups ≡ filled call (λ x. x.groups) groups)
        × ((firsts' ≡ filled call (λ x. firsts_of x.lines) firsts)
        × ((seconds' ≡ filled call (λ x. seconds_of x.lines) seconds)
        × ((weights' ≡ filled call (λ x. weights_of x.lines) weights) × (counts' ≡ counts_for (stp_counts_of call) stp_figures_of counts)))))
    stp_into h k =
        let same : found ≡ stp_counts_of call = read.told ∙ ap stp_counts_of lent_read in
        let code = h ∙ ap (λ (o : Outcome SurveyCounts). capped (code_of (verdict_of o))) same ∙ ap (λ (v : Verdict). capped (code_of v)) (verdict_counts call) in
        let fs = buffer_left (λ x. firsts_of x.lines) firsts read.firsts_read in
        let ss = buffer_left (λ x. seconds_of x.lines) seconds read.seconds_read in
        let ws = buffer_left (λ x. weights_of x.lines) weights read.weights_read in
        (code, (groups_left, (fs, (ss, (ws, k ∙ ap (λ (o : Outcome SurveyCounts). counts_for o stp_figures_of counts) same)))))

-- ---- the promises of reading

-- For counts that fit, what the call answers and leaves keeps them.
module _ (t groups firsts seconds weights : List ℕ) (counts : ℕ) where
  abbrev said : Outcome StpContent
  said = stp_call t groups firsts seconds weights counts

  pub call_promises : {groups' firsts' seconds' weights' : List ℕ} → groups' ≡ filled said (λ x. x.groups) groups → firsts' ≡ filled said (λ x. firsts_of x.lines) firsts → seconds' ≡ filled said (λ x. seconds_of x.lines) seconds
      → weights' ≡ filled said (λ x. weights_of x.lines) weights → stp_figures ≤ counts
      → StpPromises t (stp_buffers groups firsts seconds weights) (stp_counts_of said) (stp_buffers groups' firsts' seconds' weights')
  unfolding stp_call
  call_promises g f s w enough =
      promised t (stp_buffers groups firsts seconds weights) (ap stp_counts_of same) (g ∙ ap (λ (o : Outcome StpContent). filled o (λ x. x.groups) groups) same)
      (f ∙ ap (λ (o : Outcome StpContent). filled o (λ x. firsts_of x.lines) firsts) same) (s ∙ ap (λ (o : Outcome StpContent). filled o (λ x. seconds_of x.lines) seconds) same)
      (w ∙ ap (λ (o : Outcome StpContent). filled o (λ x. weights_of x.lines) weights) same)
    where
      same : said ≡ stp_reading t groups firsts seconds weights
      same = rw (le-ltb counts stp_figures enough) refl

-- ---- number and place can be read off the answer

stp_encodable : (t groups firsts seconds weights : List ℕ) → length t < 2 ^ 32 → Encodable (verdict_of (stp_reading t groups firsts seconds weights))
unfolding verdict_of
stp_encodable t groups firsts seconds weights h = by_outcome (stp_reading t groups firsts seconds weights) refl
  where
    by_outcome : (o : Outcome StpContent) → stp_reading t groups firsts seconds weights ≡ o → Encodable (verdict_of o)
    by_outcome (answer x) e = encodable_fine
    by_outcome (refusal n p) e = telling_encodable (by_number (stp_numbers groups firsts seconds weights t n p e))
      where
        zero_place : (k : ℕ) → 0 < k → k < place_unit → n ≡ k → p ≡ 0 → Telling n p
        zero_place k a b z w = record { some = omega arith; low = omega arith; near = omega arith }

        by_number : StpGives n p → Telling n p
        by_number (gives_1 z w) = zero_place 1 (lit< tt) (lit< tt) z w
        by_number (gives_3 z w) = zero_place 3 (lit< tt) (lit< tt) z w
        by_number (gives_7 z w) = zero_place 7 (lit< tt) (lit< tt) z w
        by_number (gives_20 z) =
            let inside = (stp_malformed_begins groups firsts seconds weights t p (e ∙ ap (λ (k : ℕ). refusal k p) z)).inside in
            record { some = omega arith; low = omega arith; near = omega arith }

-- For a text of less than 4 GiB the answer is the refusal's number and 256 times its place.
pub stp_call_encodable : (t groups firsts seconds weights : List ℕ) (counts : ℕ) → length t < 2 ^ 32 → Encodable (verdict_of (stp_call t groups firsts seconds weights counts))
unfolding stp_call
stp_call_encodable t groups firsts seconds weights counts h = stp_encodable t (cond (ltb counts stp_figures) [] groups) firsts seconds weights h

pub stp_call_exact : (t groups firsts seconds weights : List ℕ) (counts : ℕ) → length t < 2 ^ 32
    → capped (code_of (verdict_of (stp_call t groups firsts seconds weights counts))) ≡ code_of (verdict_of (stp_call t groups firsts seconds weights counts))
stp_call_exact t groups firsts seconds weights counts h = capped_code _ (stp_call_encodable t groups firsts seconds weights counts h)
