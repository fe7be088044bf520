-- Laws of what `stp` prints: that the earliest finding wins where a text is too long; what is printed by the outcome of reading; that `survey_room` bytes hold it; that a printed survey is read back; that the
-- first bytes decide it.
use Rattle.std.specs.Prelude.{ℕ, ◌+◌, ◌^◌, ◌≤◌, ◌<◌, Bool, ◌⊎◌, ◌↔◌, ltb, take, drop, get_or, replicate}
use native.Mathlib.Omega.{arith}
use Rattle.std.proofs.Math.Bool.{true, false, cond}
use mathlib.Core.List.{List, [], map}
use Rattle.std.proofs.Common.{inl, inr, ◌∙◌, take-append-drop, take_at, take_all, ext_get_or, length-take-le, take-take, lt-ltb, le-ltb}
use Rattle.std.proofs.Math.Path.{◌≡◌, refl, ap, sym, subst}
use Rattle.std.proofs.Math.ListN.{length, length-map, get_or-map}
use Rattle.base_finite.specs.Below.{tabulate}
use Rattle.base_finite.specs.Laws.Below.{lt_or_ge, length_tabulate, get_d_tabulate}
use Rattle.base_limits.specs.Limits.{max_vertices, max_edges, survey_room}
use Rattle.base_limits.specs.Verdict.{Outcome, refusal, answer}
use Rattle.format_print.specs.Laws.Room.{refusal_text_le}
use Rattle.format_print.specs.declared.Printed.{Printed}
use Rattle.format_print.specs.Print.{printed, printed_out}
use Rattle.format_write.specs.Text.{refusal_text}
use Rattle.format_also.specs.Render.{pairs_from}
use Rattle.format_survey.specs.Line.{Edge, widest, SurveyCounts, firsts_of, seconds_of, weights_of}
use Rattle.format_survey.proofs.Laws.Longest.{longest_within}
use Rattle.format_survey.proofs.Laws.WellFormed.{read_render}
use Rattle.format_survey.specs.Reading.{SurveyText, reading, filled}
use Rattle.format_survey.specs.Render.{render}
use Rattle.format_survey.specs.WellFormed.{WithinCounts, survey_of_text}
use Rattle.format_survey_print.specs.Laws.Print.{whole_answer, whole_out}
use Rattle.format_survey_print.specs.Print.{edge_at, edges_from, survey_text, survey_printed, survey_printed_out}
use Rattle.format_stp.specs.StpReading.{StpContent, stp_reading}
use Rattle.format_stp.specs.Answer.{stp_counts_of}
use Rattle.format_stp.specs.Grammar.{StpText}
use Rattle.format_stp.proofs.Laws.Accepted.{accepted_in, in_accepted}
use Rattle.format_stp.specs.Promises.{StpFits}
use Rattle.format_stp.proofs.Laws.Beginning.{stp_refused_longer}
use Rattle.format_stp.proofs.Laws.Within.{stp_within, stp_sizes}
use Rattle.text_stp.specs.Stored.{stored_survey, stored_printed, stored_printed_out, StoredWords, unread_words, read_words}
use Rattle.text_stp.specs.StpOutput.{stp_room, before_cut, judged, stp_read, stp_text, stp_output}

-- ---- reading

-- Reading a text, into buffers of the limits' sizes.
abbrev pub read_whole : List ℕ → Outcome StpContent
read_whole t = stp_reading t (replicate max_vertices 0) (replicate max_edges 0) (replicate max_edges 0) (replicate max_edges 0)

module _ {A : Type 0} (l : ℕ) where
  judged_short : (o : Outcome A) → l ≤ stp_room → judged l o ≡ o
  unfolding judged
  judged_short o h = rw (le-ltb stp_room l h) refl

  judged_long : (o : Outcome A) → stp_room < l → judged l o ≡ before_cut o
  unfolding judged
  judged_long o h = rw (lt-ltb stp_room l h) refl

  -- What is answered was read whole.
  judged_answer : (o : Outcome A) {x : A} → judged l o ≡ answer x → (o ≡ answer x) × (l ≤ stp_room)
  unfolding before_cut
  judged_answer o {x} e = by_length (lt_or_ge stp_room l)
    where
      cut : (o : Outcome A) → before_cut o ≡ answer x → ⊥
      cut (answer y) e = let z : ◌≡◌ {A = ℕ} 0 1 = cc in omega arith
      cut (refusal n p) e = by_place (ltb p stp_room) e
        where
          by_place : (b : Bool) → cond b (refusal n p) (refusal 7 0) ≡ answer x → ⊥
          by_place true e = let z : ◌≡◌ {A = ℕ} 0 1 = cc in omega arith
          by_place false e = let z : ◌≡◌ {A = ℕ} 0 1 = cc in omega arith

      by_length : (stp_room < l) ⊎ (l ≤ stp_room) → (o ≡ answer x) × (l ≤ stp_room)
      by_length (inl h) = absurd (cut o (sym (judged_long o h) ∙ e))
      by_length (inr h) = (sym (judged_short o h) ∙ e, h)

-- The counts are judged as what is read.
judged_counts : (l : ℕ) (o : Outcome StpContent) → judged l (stp_counts_of o) ≡ stp_counts_of (judged l o)
unfolding judged before_cut stp_counts_of
judged_counts l o = by_length (ltb stp_room l) o
  where
    by_length : (b : Bool) (o : Outcome StpContent) → cond b (before_cut (stp_counts_of o)) (stp_counts_of o) ≡ stp_counts_of (cond b (before_cut o) o)
    by_length false o = refl
    by_length true (answer x) = refl
    by_length true (refusal n p) = by_place (ltb p stp_room)
      where
        by_place : (c : Bool) → cond c (refusal n p) (refusal 7 0) ≡ stp_counts_of (cond c (refusal n p) (refusal 7 0))
        by_place true = refl
        by_place false = refl

read_short : (t : List ℕ) → length t ≤ stp_room → stp_read t ≡ read_whole t
unfolding stp_read
read_short t h = judged_short (length t) (read_whole (take stp_room t)) h ∙ ap read_whole (take_all stp_room t h)

-- A refusal of the first bytes before their end is the whole text's: reading the whole text gives it too.
pub cut_refused : (t : List ℕ) {n p : ℕ} → read_whole (take stp_room t) ≡ refusal n p → p < stp_room → (stp_read t ≡ refusal n p) × (read_whole t ≡ refusal n p)
unfolding stp_read before_cut
cut_refused t {n} {p} e h = by_length (lt_or_ge stp_room (length t))
  where
    whole : stp_room < length t → read_whole t ≡ refusal n p
    whole l =
        let k = length-take-le stp_room t (omega arith) in
        ap read_whole (sym (take-append-drop stp_room t))
        ∙ stp_refused_longer (replicate max_vertices 0) (replicate max_edges 0) (replicate max_edges 0) (replicate max_edges 0) (take stp_room t) (drop stp_room t) e (omega (arith, k))

    by_length : (stp_room < length t) ⊎ (length t ≤ stp_room) → (judged (length t) (read_whole (take stp_room t)) ≡ refusal n p) × (read_whole t ≡ refusal n p)
    by_length (inl l) = (judged_long (length t) _ l ∙ ap before_cut e ∙ rw (lt-ltb p stp_room h) refl, whole l)
    by_length (inr l) = (judged_short (length t) _ l ∙ e, ap read_whole (sym (take_all stp_room t l)) ∙ e)

-- What is not too long is read whole; and 'too long' is said only of a text over the room whose first bytes are refused nowhere before their end.
pub data CutOrWhole (t : List ℕ) : Type 0 where
  whole : stp_read t ≡ read_whole t → CutOrWhole t
  too_long : stp_room < length t → ((n p : ℕ) → read_whole (take stp_room t) ≡ refusal n p → stp_room ≤ p) → stp_read t ≡ refusal 7 0 → CutOrWhole t

pub cut_or_whole : (t : List ℕ) → CutOrWhole t
unfolding stp_read before_cut
cut_or_whole t = by_length (lt_or_ge stp_room (length t))
  where
    cut : stp_room < length t → (o : Outcome StpContent) → read_whole (take stp_room t) ≡ o → CutOrWhole t
    cut l (answer x) e = too_long l (λ n p f. let z : ◌≡◌ {A = ℕ} 0 1 = cc in absurd (omega arith)) (judged_long (length t) _ l ∙ ap before_cut e)
    cut l (refusal n p) e = by_place (lt_or_ge p stp_room)
      where
        by_place : (p < stp_room) ⊎ (stp_room ≤ p) → CutOrWhole t
        by_place (inl h) = let c = cut_refused t e h in whole (c.0 ∙ sym c.1)
        by_place (inr h) =
            too_long l (λ i q f. let same : p ≡ q = cc in omega arith) (judged_long (length t) _ l ∙ ap before_cut e ∙ rw (le-ltb p stp_room h) refl)

    by_length : (stp_room < length t) ⊎ (length t ≤ stp_room) → CutOrWhole t
    by_length (inl l) = cut l (read_whole (take stp_room t)) refl
    by_length (inr l) = whole (read_short t l)

-- A survey is printed exactly if the text is of the subset, its counts are within the limits, and it is not too long; and it is what the text says.
pub stp_read_iff : (t : List ℕ) (x : StpContent)
    → (stp_read t ≡ answer x) ↔ ((StpText x t × StpFits (replicate max_vertices 0) (replicate max_edges 0) (replicate max_edges 0) (replicate max_edges 0) x) × (length t ≤ stp_room))
unfolding stp_read
stp_read_iff t x = (
  λ e.
      let f = judged_answer (length t) (read_whole (take stp_room t)) e in
      let whole = ap read_whole (sym (take_all stp_room t f.1)) ∙ f.0 in
      (accepted_in (replicate max_vertices 0) (replicate max_edges 0) (replicate max_edges 0) (replicate max_edges 0) t x whole, f.1),
  λ m.
      judged_short (length t) (read_whole (take stp_room t)) m.1 ∙ ap read_whole (take_all stp_room t m.1)
      ∙ in_accepted (replicate max_vertices 0) (replicate max_edges 0) (replicate max_edges 0) (replicate max_edges 0) t x m.0.0 m.0.1,
)

-- A refusal's lines fit the room for surveys.
pub refusal_room_law : (number place : ℕ) → number < 2 ^ 64 → place < 2 ^ 64 → length (refusal_text number place) ≤ survey_room
refusal_room_law number place hn hp = let l = refusal_text_le number place hn hp in omega arith

counts_refused : (o : Outcome StpContent) {n p : ℕ} → stp_counts_of o ≡ refusal n p → o ≡ refusal n p
unfolding stp_counts_of
counts_refused (refusal x y) e = cc
counts_refused (answer s) e = let z : ◌≡◌ {A = ℕ} 0 1 = cc in absurd (omega arith)

record ReadOf (o : Outcome StpContent) (n m : ℕ) : Type 0 where
  said : StpContent
  is : o ≡ answer said
  vertices : said.vertices ≡ n
  edges : said.edges ≡ m

counts_read_law : (o : Outcome StpContent) {n m : ℕ} → stp_counts_of o ≡ answer (record { vertices = n; edges = m }) → ReadOf o n m
unfolding stp_counts_of
counts_read_law (refusal x y) e = let z : ◌≡◌ {A = ℕ} 0 1 = cc in absurd (omega arith)
counts_read_law (answer x) {n} {m} e =
    let same : ◌≡◌ {A = SurveyCounts} (record { vertices = x.vertices; edges = x.edges }) (record { vertices = n; edges = m }) = cc e in
    record { said = x; is = refl; vertices = ap (λ (c : SurveyCounts). c.vertices) same; edges = ap (λ (c : SurveyCounts). c.edges) same }

-- ---- printing

-- The tracks of the three lists that they make.
tracks_of : (es : List Edge) → edges_from (firsts_of es) (seconds_of es) (weights_of es) ≡ es
unfolding edges_from firsts_of seconds_of weights_of
tracks_of es =
    ext_get_or zeros _ es (length_tabulate n at ∙ long)
    (λ i h. get_d_tabulate n at i zeros (subst (λ (k : ℕ). i < k) (length_tabulate n at) h) ∙ same i)
  where
    zeros : Edge
    zeros = record { first = 0; second = 0; weight = 0 }

    n : ℕ
    n = length (map (λ e. e.first) es)

    long : n ≡ length es
    long = length-map es (λ e. e.first)

    at : ℕ → Edge
    at = edge_at (map (λ e. e.first) es) (map (λ e. e.second) es) (map (λ e. e.weight) es)

    same : (i : ℕ) → at i ≡ get_or es i zeros
    same i k =
        record {
          first = get_or-map (λ (e : Edge). e.first) es i zeros k;
          second = get_or-map (λ (e : Edge). e.second) es i zeros k;
          weight = get_or-map (λ (e : Edge). e.weight) es i zeros k;
        }

-- The first n of a filled buffer.
part_read : {o : Outcome StpContent} {x : StpContent} (values : StpContent → List ℕ) (old : List ℕ) (n : ℕ) {new : List ℕ} → o ≡ answer x → length (values x) ≡ n → new ≡ filled o values old
    → take n new ≡ values x
unfolding filled
part_read {x = x} values old n is long e =
    ap (take n) (e ∙ ap (λ (o : Outcome StpContent). filled o values old) is) ∙ take_at (values x) (drop (length (values x)) old) n long

-- `counts` is what reading answers.
module _ (t : List ℕ) {counts : Outcome SurveyCounts} (told_counts : counts ≡ stp_counts_of (stp_read t)) where
  refused_output : {n p : ℕ} → counts ≡ refusal n p → refusal_text n p ≡ stp_output t
  unfolding stp_output stp_text
  refused_output told = sym (ap stp_text (counts_refused (stp_read t) (sym told_counts ∙ told)))

  module _ {n m : ℕ} (told : counts ≡ answer (record { vertices = n; edges = m })) where
    found : ReadOf (stp_read t) n m
    found = counts_read_law (stp_read t) (sym told_counts ∙ told)

    abbrev x : StpContent
    x = found.said

    first : read_whole (take stp_room t) ≡ answer x
    unfolding stp_read
    first = (judged_answer (length t) (read_whole (take stp_room t)) found.is).0

    within : WithinCounts x.groups [] x.lines
    within = stp_within (take stp_room t) _ _ _ _ x first

    many : length x.groups ≡ n
    many = (stp_sizes (take stp_room t) _ _ _ _ x first).0 ∙ found.vertices

    long : length x.lines ≡ m
    long = (stp_sizes (take stp_room t) _ _ _ _ x first).1 ∙ found.edges

    output_is : render x.groups [] x.lines ≡ stp_output t
    unfolding stp_output stp_text
    output_is = sym (ap stp_text found.is)

    output_room : length (stp_output t) ≤ survey_room
    output_room = let l = longest_within within in omega (arith, ap length output_is)

    -- The survey of the parts of the buffers that were filled.
    module _ {groups firsts seconds weights : List ℕ} (gb fb sb wb : List ℕ) (g : groups ≡ filled (read_whole (take stp_room t)) (λ x. x.groups) gb) (f : firsts ≡ filled (read_whole (take stp_room t)) (λ x. firsts_of x.lines) fb)
        (s : seconds ≡ filled (read_whole (take stp_room t)) (λ x. seconds_of x.lines) sb) (w : weights ≡ filled (read_whole (take stp_room t)) (λ x. weights_of x.lines) wb) where
      abbrev part : SurveyText
      part = stored_survey (record { vertices = n; edges = m }) groups firsts seconds weights

      gs : take n groups ≡ x.groups
      gs = part_read (λ x. x.groups) gb n first many g

      fs : take m firsts ≡ firsts_of x.lines
      unfolding firsts_of
      fs = part_read (λ x. firsts_of x.lines) fb m first (length-map x.lines (λ e. e.first) ∙ long) f

      ss : take m seconds ≡ seconds_of x.lines
      unfolding seconds_of
      ss = part_read (λ x. seconds_of x.lines) sb m first (length-map x.lines (λ e. e.second) ∙ long) s

      ws : take m weights ≡ weights_of x.lines
      unfolding weights_of
      ws = part_read (λ x. weights_of x.lines) wb m first (length-map x.lines (λ e. e.weight) ∙ long) w

      text : survey_text part ≡ stp_output t
      unfolding survey_text pairs_from tabulate
      text = rw (gs, fs, ss, ws) (ap (λ (es : List Edge). render x.groups [] es) (tracks_of x.lines) ∙ output_is)

      seconds_long : length (take m firsts) ≡ length (take m seconds)
      unfolding firsts_of seconds_of
      seconds_long = ap length fs ∙ length-map x.lines (λ e. e.first) ∙ sym (ap length ss ∙ length-map x.lines (λ e. e.second))

      weights_long : length (take m firsts) ≡ length (take m weights)
      unfolding firsts_of weights_of
      weights_long = ap length fs ∙ length-map x.lines (λ e. e.first) ∙ sym (ap length ws ∙ length-map x.lines (λ e. e.weight))

      survey_prints : (out : List ℕ) → (survey_printed part out ≡ printed (stp_output t) out) × ((survey_printed_out part out ≡ printed_out (stp_output t) out) × (length (stp_output t) ≤ survey_room))
      survey_prints out = (
        sym (whole_answer part out seconds_long weights_long refl) ∙ ap (λ (l : List ℕ). printed l out) text,
        (sym (whole_out part out seconds_long weights_long refl) ∙ ap (λ (l : List ℕ). printed_out l out) text, output_room),
      )

-- What is printed of the answer of reading and of the buffers that it filled.
module _ (t : List ℕ) {groups firsts seconds weights : List ℕ} (gb fb sb wb : List ℕ) (g : groups ≡ filled (read_whole (take stp_room t)) (λ x. x.groups) gb) (f : firsts ≡ filled (read_whole (take stp_room t)) (λ x. firsts_of x.lines) fb)
    (s : seconds ≡ filled (read_whole (take stp_room t)) (λ x. seconds_of x.lines) sb) (w : weights ≡ filled (read_whole (take stp_room t)) (λ x. weights_of x.lines) wb) (out : List ℕ) where
  by_words : (o : Outcome SurveyCounts) → StoredWords o → o ≡ stp_counts_of (stp_read t)
      → (stored_printed o groups firsts seconds weights out ≡ printed (stp_output t) out)
      × ((stored_printed_out o groups firsts seconds weights out ≡ printed_out (stp_output t) out) × (length (stp_output t) ≤ survey_room))
  unfolding stored_printed stored_printed_out
  by_words o (unread_words {number} {place} hn hp) told =
      let text = refused_output t told refl in (
        ap (λ (l : List ℕ). printed l out) text,
        (ap (λ (l : List ℕ). printed_out l out) text, subst (λ (l : List ℕ). length l ≤ survey_room) text (refusal_room_law number place hn hp)),
      )
  by_words o read_words told = survey_prints t told refl gb fb sb wb g f s w out

  pub read_printed : {o said : Outcome SurveyCounts} {r : Printed} {new : List ℕ} → o ≡ stp_counts_of (read_whole (take stp_room t)) → said ≡ judged (length t) o
      → (r ≡ stored_printed said groups firsts seconds weights out) × ((new ≡ stored_printed_out said groups firsts seconds weights out) × StoredWords said)
      → (r ≡ printed (stp_output t) out) × ((new ≡ printed_out (stp_output t) out) × (length (stp_output t) ≤ survey_room))
  unfolding stp_read
  read_printed {said = said} told is p =
      let all = is ∙ ap (judged (length t)) told ∙ judged_counts (length t) (read_whole (take stp_room t)) in
      let q = by_words said p.1.1 all in
      (p.0 ∙ q.0, (p.1.0 ∙ q.1.0, q.1.1))

-- ---- what is printed

-- A survey that is printed is read by our own reader, and says what the STP text says.
pub output_read_back : (t : List ℕ) (x : StpContent) → stp_read t ≡ answer x → reading (stp_output t) widest ≡ answer (survey_of_text x.groups [] x.lines)
unfolding stp_output stp_text stp_read
output_read_back t x e =
    let f = judged_answer (length t) (read_whole (take stp_room t)) e in
    let w = stp_within (take stp_room t) _ _ _ _ x f.0 in
    let a = w.few_groups in
    let b = w.few_edges in
    ap (λ (o : Outcome StpContent). reading (stp_text o) widest) e
    ∙ read_render widest x.groups [] x.lines w (record { for_groups = a; for_firsts = b; for_seconds = b; for_weights = b; for_owners = omega arith; for_others = omega arith })

-- The first stp_room + 1 bytes of a text decide what is printed for it.
pub stp_first_bytes : (t : List ℕ) → stp_output (take (stp_room + 1) t) ≡ stp_output t
unfolding stp_read stp_output
stp_first_bytes t = by_length (lt_or_ge stp_room (length t))
  where
    long : stp_room < length t → stp_read (take (stp_room + 1) t) ≡ stp_read t
    long h =
        let l = length-take-le (stp_room + 1) t (omega arith) in
        judged_long (length (take (stp_room + 1) t)) _ (omega (arith, l)) ∙ ap (λ (u : List ℕ). before_cut (read_whole u)) (take-take stp_room (stp_room + 1) t (omega arith)) ∙ sym (judged_long (length t) _ h)

    by_length : (stp_room < length t) ⊎ (length t ≤ stp_room) → stp_output (take (stp_room + 1) t) ≡ stp_output t
    by_length (inl h) = ap stp_text (long h)
    by_length (inr h) = ap stp_output (take_all (stp_room + 1) t (omega arith))
