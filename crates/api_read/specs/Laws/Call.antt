-- Reading: counts that fit, and it is the library's own; too short, and a group buffer of no length is lent on, which is refused.
use Rattle.std.specs.Prelude.{ℕ, ◌+◌, ◌*◌, ◌-◌, ◌<◌, ◌≤◌, ◌≡◌, refl, Bool, true, false, cond, List, [], ◌∷◌, ◌++◌, take, drop, ltb}
use Rattle.std.proofs.Common.{arith, ◌∙◌, append-nil, length-take-le, lt-ltb}
use Rattle.std.proofs.Math.Nat.{sub-zero}
use Rattle.std.proofs.Math.Path.{ap, sym}
use Rattle.std.proofs.Math.ListN.{length}
use Rattle.std.proofs.Math.Seq.{sets}
use Rattle.base_limits.specs.Limits.{max_vertices, count_digits}
use Rattle.base_limits.specs.Verdict.{Outcome, refusal, answer}
use Rattle.base_limits.specs.declared.Verdict.{Verdict}
use Rattle.format_write.specs.Key.{nodes_key}
use Rattle.format_read.specs.Step.{found, refused, checked}
use Rattle.format_read.proofs.Laws.Step.{then_found, then_refused}
use Rattle.format_read.specs.Number.{number_line}
use Rattle.format_survey.specs.Line.{Lengths, lengths_of, tests_for, vertices_test, count_line, counts_at}
use Rattle.format_survey.proofs.Laws.Tests.{vertices_short}
use Rattle.format_survey.specs.Reading.{SurveyText, reading, filled}
use Rattle.format_survey.specs.Answer.{TextCounts, counts_of, counts_outcome}
use Rattle.format_survey.proofs.Laws.Reading.{reading_refused}
use Rattle.format_survey.proofs.Laws.WellFormed.{accepted_render}
use Rattle.format_survey.specs.declared.Reading.{Reading}
use Rattle.format_survey.specs.declared.Reading.TheVariants.{Survey as SurveyFound, Refused as ReadingRefused}
use Rattle.api_code.specs.Code.{place_unit, code_of, capped, verdict_of, counts_for, lent_on}
use Rattle.api_code.specs.Laws.Encodable.{Encodable, telling_encodable, encodable_fine, capped_code}
use Rattle.api_code.specs.Laws.Lending.{lent_le, lent_part, lent_rest}
use Rattle.api_read.specs.Call.{read_figures, read_figures_of, lent_for, read_call}
use Rattle.api_read.specs.Laws.Reading.{reading_telling}

-- The arms of `read_code`.
module _ {p : Reading} where
  pub read_refused_answers : {number place code : ℕ} (counts : List ℕ) → p ≡ ReadingRefused number place → code ≡ capped (number + place_unit * place)
      → (code ≡ capped (code_of (verdict_of (counts_outcome p)))) × (counts ≡ counts_for (counts_outcome p) read_figures_of counts)
  unfolding code_of verdict_of counts_outcome counts_for
  read_refused_answers counts e h =
      (h ∙ sym (ap (λ (q : Reading). capped (code_of (verdict_of (counts_outcome q)))) e), sym (ap (λ (q : Reading). counts_for (counts_outcome q) read_figures_of counts) e))

  pub read_answers : {n m k x y z : ℕ} {counts' : List ℕ} (counts : List ℕ) → p ≡ SurveyFound n m k → x ≡ n → y ≡ m → z ≡ k → counts' ≡ sets counts 0 (x ∷ y ∷ z ∷ [])
      → (0 ≡ capped (code_of (verdict_of (counts_outcome p)))) × (counts' ≡ counts_for (counts_outcome p) read_figures_of counts)
  unfolding capped code_of verdict_of counts_outcome counts_for read_figures_of
  read_answers {n = n} {m = m} {y = y} {z = z} counts e f g h k = (
    sym (ap (λ (q : Reading). capped (code_of (verdict_of (counts_outcome q)))) e),
    k ∙ ap (λ (a : ℕ). sets counts 0 (a ∷ y ∷ z ∷ [])) f ∙ ap (λ (b : ℕ). sets counts 0 (n ∷ b ∷ z ∷ [])) g ∙ ap (λ (b : ℕ). sets counts 0 (n ∷ m ∷ b ∷ [])) h
        ∙ sym (ap (λ (q : Reading). counts_for (counts_outcome q) read_figures_of counts) e),
  )

read_encodable : (t : List ℕ) (lent : Lengths) → Encodable (verdict_of (reading t lent))
unfolding verdict_of
read_encodable t lent = by_outcome (reading t lent) refl
  where
    by_outcome : (read : Outcome SurveyText) → reading t lent ≡ read → Encodable (verdict_of read)
    by_outcome (refusal number place) e = telling_encodable (reading_telling t lent e)
    by_outcome (answer s) e = encodable_fine

pub read_call_encodable : (t : List ℕ) (lent : Lengths) (counts : ℕ) → Encodable (verdict_of (read_call t lent counts))
unfolding read_call
read_call_encodable t lent counts = read_encodable t (lent_for lent counts)

verdict_counts : (read : Outcome SurveyText) → verdict_of (counts_of read) ≡ verdict_of read
unfolding verdict_of counts_of
verdict_counts (refusal number place) = refl
verdict_counts (answer s) = refl

-- Without room for a group there is no answer.
pub no_room_refused : (t : List ℕ) (lent : Lengths) → lent.groups ≡ 0 → (number place : ℕ) × (reading t lent ≡ refusal number place)
no_room_refused t lent none = by_outcome (reading t lent) refl
  where
    by_outcome : (read : Outcome SurveyText) → reading t lent ≡ read → (number place : ℕ) × (reading t lent ≡ refusal number place)
    by_outcome (refusal number place) e = (number, place, e)
    by_outcome (answer s) e =
        let a = accepted_render lent t s e in
        let some = a.within.some in
        let room = a.room.for_groups in
        absurd (omega arith)

-- Counts that do not fit are 7 once the nodes line is complete, where its number is none that 1 refuses.
pub read_short_seven : (t : List ℕ) (lent : Lengths) (counts n next : ℕ) → counts < read_figures → number_line nodes_key count_digits t 0 ≡ found n next → 0 < n → n ≤ max_vertices
    → read_call t lent counts ≡ refusal 7 0
unfolding read_call lent_for counts_at count_line tests_for checked
read_short_seven t lent counts n next short line some few =
    let tested : checked (vertices_test 0 n) n next ≡ refused 7 0 = ap (λ (v : Verdict). checked v n next) (vertices_short 0 n (λ z. omega arith) few (omega arith)) in
    rw (lt-ltb counts read_figures short) (reading_refused t _ (then_refused _ (then_found _ line ∙ tested)))

-- Lent nothing, a buffer is as it was; lent whole, it is as it was filled.
pub filled_rest : {A : Type 0} (b : Bool) (read : Outcome A) (values : A → List ℕ) (l : List ℕ) → (b ≡ true → (number place : ℕ) × (read ≡ refusal number place))
    → filled read values (cond b [] l) ++ cond b l [] ≡ filled read values l
unfolding filled
filled_rest {A} true read values l h =
    let n = h refl in
    ap (λ (o : Outcome A). filled o values [] ++ l) n.2 ∙ sym (ap (λ (o : Outcome A). filled o values l) n.2)
filled_rest false read values l h = append-nil (filled read values l)

-- What `read` ensures, of buffers by their content before and after.
pub record SurveyRead (read : Outcome SurveyText) (counts : Outcome TextCounts) (groups groups' firsts firsts' seconds seconds' weights weights' owners owners' others others' : List ℕ) : Type 0 where
  pub told : counts ≡ counts_of read
  pub groups_read : groups' ≡ filled read (λ s. s.groups) groups
  pub firsts_read : firsts' ≡ filled read (λ s. s.firsts) firsts
  pub seconds_read : seconds' ≡ filled read (λ s. s.seconds) seconds
  pub weights_read : weights' ≡ filled read (λ s. s.weights) weights
  pub owners_read : owners' ≡ filled read (λ s. s.owners) owners
  pub others_read : others' ≡ filled read (λ s. s.others) others

-- What reading answers and leaves where so much of the group buffer is lent on.
module _ (t groups firsts seconds weights owners others counts : List ℕ) {room : ℕ} (lent : room ≡ lent_on (length counts) read_figures (length groups)) where
  abbrev call : Outcome SurveyText
  call = read_call t (lengths_of groups firsts seconds weights owners others) (length counts)

  abbrev part : Outcome SurveyText
  part = reading t (lengths_of (take (room - 0) groups) firsts seconds weights owners others)

  lent_size : length (take (room - 0) groups) ≡ lent_on (length counts) read_figures (length groups)
  lent_size = length-take-le (room - 0) groups (let l = lent_le _ _ _ lent in omega arith) ∙ sub-zero room ∙ lent

  lent_read : part ≡ call
  unfolding read_call lent_for lent_on
  lent_read =
      ap (λ (n : ℕ). reading t (record { groups = n; firsts = length firsts; seconds = length seconds; weights = length weights; owners = length owners; others = length others })) lent_size

  short_read : ltb (length counts) read_figures ≡ true → (number place : ℕ) × (call ≡ refusal number place)
  unfolding read_call lent_for
  short_read h = no_room_refused t _ (rw h refl)

  module _ {held firsts' seconds' weights' owners' others' : List ℕ} {found : Outcome TextCounts}
      (read : SurveyRead part found (take (room - 0) groups) held firsts firsts' seconds seconds' weights weights' owners owners' others others') where
    groups_left : held ++ drop (room - 0) groups ≡ filled call (λ s. s.groups) groups
    groups_left =
        ap (λ (l : List ℕ). l ++ drop (room - 0) groups) (read.groups_read ∙ ap (λ (o : Outcome SurveyText). filled o (λ s. s.groups) (take (room - 0) groups)) lent_read)
        ∙ ap (λ (l : List ℕ). filled call (λ s. s.groups) l ++ drop (room - 0) groups) (lent_part (length counts) read_figures groups lent)
        ∙ ap (λ (l : List ℕ). filled call (λ s. s.groups) (cond (ltb (length counts) read_figures) [] groups) ++ l) (lent_rest (length counts) read_figures groups lent)
        ∙ filled_rest (ltb (length counts) read_figures) call (λ s. s.groups) groups short_read

    buffer_left : (values : SurveyText → List ℕ) (l : List ℕ) {l' : List ℕ} → l' ≡ filled part values l → l' ≡ filled call values l
    buffer_left values l h = h ∙ ap (λ (o : Outcome SurveyText). filled o values l) lent_read

    pub read_into : {code : ℕ} {counts' : List ℕ} → code ≡ capped (code_of (verdict_of found)) → counts' ≡ counts_for found read_figures_of counts
        → (code ≡ code_of (verdict_of call))
        × ((held ++ drop (room - 0) groups ≡ filled call (λ s. s.groups) groups)
        × ((firsts' ≡ filled call (λ s. s.firsts) firsts)
        × ((seconds' ≡ filled call (λ s. s.seconds) seconds)
        × ((weights' ≡ filled call (λ s. s.weights) weights)
        × ((owners' ≡ filled call (λ s. s.owners) owners)
        × ((others' ≡ filled call (λ s. s.others) others) × (counts' ≡ counts_for (counts_of call) read_figures_of counts)))))))
    read_into h k =
        let same : found ≡ counts_of call = read.told ∙ ap counts_of lent_read in
        let code = h ∙ ap (λ (o : Outcome TextCounts). capped (code_of (verdict_of o))) same ∙ ap (λ (v : Verdict). capped (code_of v)) (verdict_counts call)
        ∙ capped_code (verdict_of call) (read_call_encodable t (lengths_of groups firsts seconds weights owners others) (length counts)) in
        let fs = buffer_left (λ s. s.firsts) firsts read.firsts_read in
        let ss = buffer_left (λ s. s.seconds) seconds read.seconds_read in
        let ws = buffer_left (λ s. s.weights) weights read.weights_read in
        let os = buffer_left (λ s. s.owners) owners read.owners_read in
        let xs = buffer_left (λ s. s.others) others read.others_read in
        (code, (groups_left, (fs, (ss, (ws, (os, (xs, k ∙ ap (λ (o : Outcome TextCounts). counts_for o read_figures_of counts) same)))))))
