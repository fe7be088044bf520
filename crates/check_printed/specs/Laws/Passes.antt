-- Every plan that the checker passes, printed behind the text of its survey, passes the check of both with the same counts.
use Rattle.std.specs.Prelude.{ℕ, ◌+◌, ◌^◌, ◌≤◌, ◌<◌, ◌≡◌, List, ◌++◌, length}
use Rattle.std.proofs.Common.{arith, sym, ◌∙◌, length-append}
use Rattle.std.proofs.Math.Path.{refl, ap, subst}
use Rattle.base_limits.specs.Limits.{figure_digits, plan_room}
use Rattle.base_limits.specs.Verdict.{answer}
use Rattle.format_record.specs.Bits.{Bytes}
use Rattle.format_write.specs.Text.{plan_text}
use Rattle.format_print.specs.Laws.Room.{plan_text_le}
use Rattle.format_read.specs.Step.{found}
use Rattle.format_also.specs.Pair.{Pair}
use Rattle.format_survey.specs.Line.{Edge, Lengths}
use Rattle.format_survey.specs.Reading.{step_outcome, reading, SurveyText}
use Rattle.format_survey.specs.Render.{render, longest_text}
use Rattle.format_survey.specs.WellFormed.{WithinCounts, survey_of_text}
use Rattle.format_survey.proofs.Laws.WellFormed.{accepted_render}
use Rattle.format_survey.proofs.Laws.Longest.{longest_read}
use Rattle.survey_core.specs.Survey.{Survey, edge_count}
use Rattle.survey_core.specs.Sound.{ByteGroups}
use Rattle.check_rule.specs.Check.{Checked, dual_at, checked_of, checking}
use Rattle.check_core.specs.Moats.{DualsFit}
use Rattle.check_core.specs.Stage.{CountsFit}
use Rattle.check_rule.proofs.Laws.Accuracy.{checking_passing}
use Rattle.check_core.specs.Laws.Counts.{counts_fit}
use Rattle.format_plan.specs.Plan.{Claims, plan_at}
use Rattle.check_printed.specs.Verify.{survey_in, plan_verified, plan_from, verified_from, verifying}
use Rattle.check_printed.specs.Laws.Verify.{claim_fine, room_suffices}
use Rattle.format_plan.specs.WellFormed.{ClaimDigits, plan_in, PrintFits}
use Rattle.format_plan.proofs.Laws.Printed.{read_back}
use Rattle.check_printed.specs.Laws.Prefix.{within_numbered, plan_behind, prefix_render}
use Rattle.check_printed.specs.Laws.Same.{drawn_passes}

-- The counts of a plan with these figures.
abbrev claims_of : Checked → (rounds : ℕ) → Claims
claims_of c rounds = record { terminals = c.terminals; cost = c.cost; bound = c.bound; rounds = rounds }

-- The text of a plan with these figures, marks and records.
abbrev pub printed_with : Checked → (rounds : ℕ) (marks records : List ℕ) → List ℕ
printed_with c rounds marks records = plan_text c.terminals c.cost c.bound rounds marks records

module _ (s : Survey) (numbered : ByteGroups s) (marks records : List ℕ) (c : Checked) (passed : checking s marks records ≡ answer c) where
  -- What passes fits the digits and the limits of a printed plan.
  passed_fits : (rounds : ℕ) → rounds < 10 ^ figure_digits → PrintFits (claims_of c rounds) marks records
  unfolding checked_of dual_at edge_count
  passed_fits rounds h =
      let law = checking_passing s numbered marks records in
      let p = law.0 c passed in
      let long = p.marks_long in
      let most = p.survey.edges_few in
      let fit : DualsFit records = record { few = p.records_few; small = λ i b. (p.duals_sound i b).small } in
      let same : checked_of s marks records ≡ c = cc (sym (law.1 p) ∙ passed) in
      let counts : CountsFit c.terminals c.cost c.bound = subst (λ (x : Checked). CountsFit x.terminals x.cost x.bound) same (counts_fit s marks records p.survey fit) in
      let k = counts.terminals_few in
      let x = counts.cost_small in
      let b = counts.bound_small in
      record {
        few = record { terminals = omega arith; cost = omega arith; bound = omega arith; rounds = h };
        tracks = omega arith;
        duals = p.records_few;
        values = λ i l. let small = (p.duals_sound i l).small in omega arith;
      }

  -- The figures of what passes have few digits.
  pub checked_digits : ClaimDigits (claims_of c 0)
  checked_digits = (passed_fits 0 (omega arith)).few

  -- The text of what passes is no longer than any plan's.
  passed_length : Bytes records → (rounds : ℕ) → rounds < 10 ^ figure_digits → length (printed_with c rounds marks records) ≤ plan_room
  passed_length bytes rounds h =
      let f = passed_fits rounds h in
      let k = f.few.terminals in
      let x = f.few.cost in
      let b = f.few.bound in
      let whole = ((checking_passing s numbered marks records).0 c passed).records_whole in
      let few = f.duals in
      plan_text_le c.terminals c.cost c.bound rounds marks records
      record {
        terminals_fit = omega arith;
        cost_fits = omega arith;
        bound_fits = omega arith;
        rounds_fit = omega arith;
        marks_few = f.tracks;
        records_few = omega arith;
        records_bytes = bytes;
      }

  -- The plan behind any text is read back and passes.
  plan_passes : Bytes records → (u : List ℕ) (rounds : ℕ) → rounds < 10 ^ figure_digits → plan_verified s (plan_from (u ++ printed_with c rounds marks records) s (length u)) ≡ answer c
  unfolding plan_verified plan_in step_outcome edge_count
  plan_passes bytes u rounds h =
      let t = u ++ printed_with c rounds marks records in
      let p = (checking_passing s numbered marks records).0 c passed in
      let plan = plan_in (claims_of c rounds) marks records in
      let read : plan_at t (edge_count s) (length u) ≡ found plan (length t) =
      ap (λ (m : ℕ). plan_at t m (length u)) (sym p.marks_long) ∙ read_back u c.terminals c.cost c.bound rounds marks records (passed_fits rounds h) in
      ap (plan_verified s) (room_suffices t s (length u) p.survey.edges_few ∙ ap step_outcome read)
      ∙ claim_fine c.terminals c.cost c.bound (drawn_passes s numbered marks records c bytes passed) refl refl refl

-- The groups and pairs of a text that is read are group numbers.
pub read_numbered : (t : List ℕ) (lent : Lengths) (s : SurveyText) → reading t lent ≡ answer s → ByteGroups (survey_in s)
read_numbered t lent s e =
    let a = accepted_render lent t s e in
    subst (λ (x : SurveyText). ByteGroups (survey_in x)) (sym a.says) (within_numbered a.groups a.pairs a.edges a.within)

-- Behind a rendering.
render_passes : (groups : List ℕ) (pairs : List Pair) (edges : List Edge) → WithinCounts groups pairs edges → (marks records : List ℕ) → Bytes records → (rounds : ℕ) → rounds < 10 ^ figure_digits → (c : Checked)
    → checking (survey_in (survey_of_text groups pairs edges)) marks records ≡ answer c → verifying (render groups pairs edges ++ printed_with c rounds marks records) ≡ answer c
unfolding verifying verified_from
render_passes groups pairs edges w marks records bytes rounds h c passed =
    let u = render groups pairs edges in
    let p = printed_with c rounds marks records in
    let read = prefix_render groups pairs edges p w (plan_behind u c.terminals c.cost c.bound rounds marks records) in
    ap (verified_from (u ++ p)) read
    ∙ plan_passes (survey_in (survey_of_text groups pairs edges)) (within_numbered groups pairs edges w) marks records c passed bytes u rounds h

module _ (t : List ℕ) (lent : Lengths) (s : SurveyText) (read : reading t lent ≡ answer s) (marks records : List ℕ) (bytes : Bytes records) (rounds : ℕ) (few : rounds < 10 ^ figure_digits) where
  -- A plan that the checker passes for the survey of a text, printed behind this text, passes with the same counts.
  pub printed_passes : (c : Checked) → checking (survey_in s) marks records ≡ answer c → verifying (t ++ printed_with c rounds marks records) ≡ answer c
  printed_passes c passed =
      let a = accepted_render lent t s read in
      ap (λ (u : List ℕ). verifying (u ++ printed_with c rounds marks records)) a.word
      ∙ render_passes a.groups a.pairs a.edges a.within marks records bytes rounds few c (subst (λ (x : SurveyText). checking (survey_in x) marks records ≡ answer c) a.says passed)

  -- Both texts together are no longer than a survey's longest text and a plan's.
  pub printed_length : (c : Checked) → checking (survey_in s) marks records ≡ answer c → length (t ++ printed_with c rounds marks records) ≤ longest_text + plan_room
  printed_length c passed =
      let l = length-append t (printed_with c rounds marks records) in
      let a = longest_read t lent s read in
      let b = passed_length (survey_in s) (read_numbered t lent s read) marks records c passed bytes rounds few in
      omega arith
