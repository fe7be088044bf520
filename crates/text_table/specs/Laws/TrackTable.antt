-- Laws of a survey's track table: its length, so that packing takes it; its bytes one at a time; the loop that stores
-- them. `survey_table` uses them.
use Rattle.std.specs.Prelude.{ℕ, ◌+◌, ◌*◌, ◌-◌, ◌/◌, ◌%◌, ◌<◌, ◌≤◌, ◌≡◌, List, ◌++◌, set, take}
use native.Mathlib.Omega.{arith}
use Rattle.std.proofs.Common.{add-one, ◌∙◌, subst, length-set, lt-ltb, le-ltb}
use Rattle.std.proofs.Math.Path.{refl, ap, sym}
use Rattle.std.proofs.Math.ListN.{length, get_or, drop, get_or-append, get_or-eq_default}
use Rattle.std.proofs.lemmas.List.{length-map}
use Rattle.std.proofs.Math.Seq.{get_or-append-add}
use Rattle.base_finite.specs.Below.{tabulate}
use Rattle.base_finite.specs.Laws.Below.{length_tabulate}
use Rattle.base_limits.specs.Limits.{max_edges, survey_room}
use Rattle.base_limits.specs.Verdict.{Outcome, refusal, answer, refuse_if, written}
use Rattle.format_record.specs.Bits.{low_bytes}
use Rattle.format_record.proofs.Laws.Bytes.{length_low}
use Rattle.format_print.specs.declared.Printed.{Printed}
use Rattle.format_print.specs.declared.Printed.TheVariants.{Length, Refused as PrintRefused}
use Rattle.format_print.specs.Print.{answer_of, out_after, print_refusal, printed, printed_out}
use Rattle.format_survey.specs.Line.{widest, firsts_of}
use Rattle.format_survey.specs.Reading.{SurveyText, reading, survey_of}
use Rattle.format_survey.specs.WellFormed.{survey_of_text}
use Rattle.format_survey.proofs.Laws.Cut.{reading_first_bytes}
use Rattle.format_survey.proofs.Laws.WellFormed.{accepted_render}
use Rattle.format_table.specs.Table.{track_bytes}
use Rattle.format_table.proofs.Laws.Turning.{stored_more}
use Rattle.survey_core.specs.Survey.{Survey, survey_with}
use Rattle.text_plan.specs.Output.{survey_read}
use Rattle.text_plan.specs.Laws.Read.{SaidBy}
use Rattle.text_table.specs.TrackTable.{number_bytes, table_room, track_row, track_byte, track_table, table_of, text_table, table_printed, table_printed_out}

pub length_table : (firsts seconds weights : List ℕ) → length (track_table firsts seconds weights) ≡ track_bytes * length firsts
unfolding track_table
length_table firsts seconds weights = length_tabulate (track_bytes * length firsts) (track_byte firsts seconds weights)

-- Packing takes it: 23 does not come.
pub table_whole : (firsts seconds weights : List ℕ) → length (track_table firsts seconds weights) % track_bytes ≡ 0
table_whole firsts seconds weights = let e = length_table firsts seconds weights in omega arith

-- ---- a byte of a track

pub low_at_law : (x : ℕ) {i j : ℕ} → j ≡ i → get_or (low_bytes number_bytes x) i 0 ≡ get_or (low_bytes number_bytes x) j 0
low_at_law x e = sym (ap (λ k. get_or (low_bytes number_bytes x) k 0) e)

pub low_past : (x j : ℕ) → number_bytes ≤ j → 0 ≡ get_or (low_bytes number_bytes x) j 0
low_past x j b = let long = length_low number_bytes x in sym (get_or-eq_default (low_bytes number_bytes x) 0 (omega arith))

module _ (first second weight j : ℕ) where
  pub row_first : j < number_bytes → get_or (track_row first second weight) j 0 ≡ get_or (low_bytes number_bytes first) j 0
  unfolding track_row
  row_first b =
      let long = length_low number_bytes first in
      get_or-append (low_bytes number_bytes first) (low_bytes number_bytes second ++ low_bytes number_bytes weight) 0 j (omega arith)

  behind_first : number_bytes ≤ j
      → get_or (track_row first second weight) j 0 ≡ get_or (low_bytes number_bytes second ++ low_bytes number_bytes weight) (j - number_bytes) 0
  unfolding track_row
  behind_first b =
      let long = length_low number_bytes first in
      let e : j ≡ length (low_bytes number_bytes first) + (j - number_bytes) = omega arith in
      ap (λ k. get_or (track_row first second weight) k 0) e
      ∙ get_or-append-add (low_bytes number_bytes first) (low_bytes number_bytes second ++ low_bytes number_bytes weight) (j - number_bytes) 0

  pub row_second : number_bytes ≤ j → j < 2 * number_bytes → get_or (track_row first second weight) j 0 ≡ get_or (low_bytes number_bytes second) (j - number_bytes) 0
  row_second b c =
      let long = length_low number_bytes second in
      behind_first b ∙ get_or-append (low_bytes number_bytes second) (low_bytes number_bytes weight) 0 (j - number_bytes) (omega arith)

  pub row_weight : 2 * number_bytes ≤ j → get_or (track_row first second weight) j 0 ≡ get_or (low_bytes number_bytes weight) (j - 2 * number_bytes) 0
  row_weight b =
      let long = length_low number_bytes second in
      let e : j - number_bytes ≡ length (low_bytes number_bytes second) + (j - 2 * number_bytes) = omega arith in
      behind_first (omega arith)
      ∙ ap (λ k. get_or (low_bytes number_bytes second ++ low_bytes number_bytes weight) k 0) e
      ∙ get_or-append-add (low_bytes number_bytes second) (low_bytes number_bytes weight) (j - 2 * number_bytes) 0

-- ---- the loop

-- Before each byte: k are stored.
pub record StoringTable (firsts seconds weights held : List ℕ) (k : ℕ) (out : List ℕ) : Type 0 where
  pub within : k ≤ track_bytes * length firsts
  pub long : length out ≡ length held
  pub made : out ≡ tabulate k (track_byte firsts seconds weights) ++ drop k held

module _ (firsts seconds weights held : List ℕ) where
  pub storing_start : StoringTable firsts seconds weights held 0 held
  unfolding tabulate
  storing_start = record { within = omega arith; long = refl; made = refl }

  -- There is room for the table.
  module _ (room : length firsts ≤ length held / track_bytes) where
    pub table_fits : track_bytes * length firsts ≤ length held
    table_fits = omega arith

    pub storing_more : {k x : ℕ} {out after : List ℕ} → StoringTable firsts seconds weights held k out → k < track_bytes * length firsts
        → x ≡ track_byte firsts seconds weights k → after ≡ set out k x → StoringTable firsts seconds weights held (k + 1) after
    storing_more {k} {x} {out} {after} h b is stored =
        record {
          within = omega arith;
          long = ap length stored ∙ length-set out k x ∙ h.long;
          made =
              stored
              ∙ ap (λ l. set l k x) h.made
              ∙ stored_more (track_byte firsts seconds weights) k held (omega arith) is
              ∙ sym (ap (λ n. tabulate n (track_byte firsts seconds weights) ++ drop n held) (add-one k));
        }

    -- All are stored.
    pub storing_end : {k n : ℕ} {out : List ℕ} → StoringTable firsts seconds weights held k out → n ≡ track_bytes * length firsts → n ≤ k
        → (Length n ≡ printed (track_table firsts seconds weights) held) × (out ≡ printed_out (track_table firsts seconds weights) held)
    unfolding printed printed_out print_refusal answer_of out_after written refuse_if track_table
    storing_end {k} {n} h same c =
        let w = h.within in
        let e : k ≡ track_bytes * length firsts = omega arith in
        let long = length_table firsts seconds weights in
        let few : length (track_table firsts seconds weights) ≤ length held = omega arith in (
          rw (le-ltb (length held) (length (track_table firsts seconds weights)) few) (ap Length (same ∙ sym long)),
          rw (le-ltb (length held) (length (track_table firsts seconds weights)) few)
              (h.made ∙ ap (λ n. tabulate n (track_byte firsts seconds weights) ++ drop n held) e
              ∙ ap (λ n. track_table firsts seconds weights ++ drop n held) (sym long)),
        )

  -- 7: there is none.
  pub table_short : length held / track_bytes < length firsts
      → (PrintRefused 7 0 ≡ printed (track_table firsts seconds weights) held) × (held ≡ printed_out (track_table firsts seconds weights) held)
  unfolding printed printed_out print_refusal answer_of out_after written refuse_if
  table_short b =
      let long = length_table firsts seconds weights in
      let much : length held < length (track_table firsts seconds weights) = omega arith in
      (rw (lt-ltb (length held) (length (track_table firsts seconds weights)) much), rw (lt-ltb (length held) (length (track_table firsts seconds weights)) much))

-- ---- the table of a text

-- Reading refused it.
pub refused_printed : (t out : List ℕ) {number place : ℕ} → survey_read t ≡ refusal number place
    → (PrintRefused number place ≡ table_printed (text_table t) out) × (out ≡ table_printed_out (text_table t) out)
unfolding text_table table_of table_printed table_printed_out
refused_printed t out e = (sym (ap (λ o. table_printed (table_of o) out) e), sym (ap (λ o. table_printed_out (table_of o) out) e))

-- The table of what was read.
pub said_printed : (t out : List ℕ) {r : Printed} {after groups firsts seconds weights owners others : List ℕ}
    → SaidBy t (survey_with groups firsts seconds weights owners others)
    → (r ≡ printed (track_table firsts seconds weights) out) × (after ≡ printed_out (track_table firsts seconds weights) out)
    → (r ≡ table_printed (text_table t) out) × (after ≡ table_printed_out (text_table t) out)
unfolding text_table table_of table_printed table_printed_out
said_printed t out {firsts = firsts} {seconds = seconds} {weights = weights} said made =
    let same : track_table firsts seconds weights ≡ track_table said.survey.firsts said.survey.seconds said.survey.weights =
    ap (λ (s : Survey). track_table s.firsts s.seconds s.weights) said.same in (
      made.0 ∙ ap (λ l. printed l out) same ∙ sym (ap (λ o. table_printed (table_of o) out) said.is),
      made.1 ∙ ap (λ l. printed_out l out) same ∙ sym (ap (λ o. table_printed_out (table_of o) out) said.is),
    )

-- ---- of a text

-- The program `table` reads at most `survey_room` bytes; what stands behind them changes nothing.
pub table_first_bytes : (t : List ℕ) → text_table (take survey_room t) ≡ text_table t
unfolding text_table survey_read
table_first_bytes t = ap table_of (reading_first_bytes t widest)

few_tracks : (t : List ℕ) (s : SurveyText) → reading t widest ≡ answer s → length s.firsts ≤ max_edges
unfolding survey_of_text survey_of firsts_of
few_tracks t s e =
    let a = accepted_render widest t s e in
    let few = a.within.few_edges in
    let long = length-map a.edges (λ x. x.first) in
    subst (λ (s : SurveyText). length s.firsts ≤ max_edges) (sym a.says) (omega (arith, few, long))

-- A table of this many bytes holds that of every text: 7 does not come.
pub table_room_law : (t table : List ℕ) → text_table t ≡ answer table → length table ≤ table_room
unfolding text_table table_of survey_read
table_room_law t table = by (reading t widest) refl
  where
    by : (o : Outcome SurveyText) → reading t widest ≡ o → table_of o ≡ answer table → length table ≤ table_room
    by (refusal number place) is e = let z : ◌≡◌ {A = ℕ} 0 1 = cc in absurd (omega arith)
    by (answer s) is e =
        let same : track_table s.firsts s.seconds s.weights ≡ table = cc e in
        let long = length_table s.firsts s.seconds s.weights in
        let few = few_tracks t s is in
        subst (λ l. length l ≤ table_room) same (omega arith)
