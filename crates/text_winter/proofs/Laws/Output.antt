-- Laws of what `winter` prints: the text by the outcomes of reading and of the call, as the code finds them.
use Rattle.std.specs.Prelude.{ℕ, ◌-◌, ◌≤◌, ◌≡◌, List, take, drop}
use Rattle.std.proofs.Common.{arith, ◌∙◌, take_at}
use Rattle.std.proofs.Math.Nat.{sub-zero}
use Rattle.std.proofs.Math.Path.{refl, ap, sym, subst}
use Rattle.std.proofs.Math.ListN.{length}
use Rattle.std.proofs.lemmas.List.{length-map}
use Rattle.std.proofs.lemmas.List.Edits.{sets}
use Rattle.base_limits.specs.Limits.{max_pairs}
use Rattle.base_limits.specs.Verdict.{Outcome}
use Rattle.format_write.specs.Text.{refusal_text}
use Rattle.format_print.specs.declared.Printed.{Printed}
use Rattle.format_print.specs.Print.{printed, printed_out}
use Rattle.format_read.specs.Step.{Step, found, refused, ◌then◌}
use Rattle.format_also.specs.Pair.{owners_of, others_of}
use Rattle.format_survey.specs.Line.{SurveyCounts, widest, tests_for, counts_at, firsts_of, seconds_of, weights_of, SurveyLines, lines_at, lines_with}
use Rattle.format_survey.specs.Reading.{survey_of}
use Rattle.format_survey.proofs.Laws.LinesBody.{lines_sizes, with_room_law, sets_filled}
use Rattle.survey_core.specs.Survey.{Survey}
use Rattle.check_printed.specs.Verify.{survey_lines_at, prefix_at}
use Rattle.check_printed.specs.Laws.Verify.{parts_of, BeforeLines, AfterLines, lines_pairs}
use Rattle.winter_rule.specs.declared.Winter.{Winter}
use Rattle.winter_rule.specs.declared.Winter.TheVariants.{Finished, Refused as WinterRefused}
use Rattle.winter_rule.specs.Winter.{wintering, copies_after, winter_outcome}
use Rattle.text_winter.specs.Given.{Given, givens_at, strengths_from}
use Rattle.text_winter.specs.Output.{copies_text, no_copies, outcome_text, survey_output, given_output, behind_output, winter_output}

-- Printed as one text, it is printed as an equal one.
pub printed_as : (out : List ℕ) {a b : List ℕ} {r : Printed} {new : List ℕ} → a ≡ b → (r ≡ printed a out) × (new ≡ printed_out a out)
    → (r ≡ printed b out) × (new ≡ printed_out b out)
printed_as out same p = (p.0 ∙ ap (λ (t : List ℕ). printed t out) same, p.1 ∙ ap (λ (t : List ℕ). printed_out t out) same)

-- ---- the call

module _ (s : Survey) (strengths : List ℕ) {r : Winter} (answered : winter_outcome r ≡ wintering s strengths (length no_copies)) where
  pub refused_output : {n p : ℕ} → r ≡ WinterRefused n p → refusal_text n p ≡ survey_output s strengths
  unfolding survey_output outcome_text winter_outcome
  refused_output h = ap (λ (o : Outcome ℕ). outcome_text o (copies_after s strengths no_copies)) (sym (ap winter_outcome h) ∙ answered)

  pub copied_output : {total : ℕ} {copies : List ℕ} → r ≡ Finished total → copies ≡ copies_after s strengths no_copies
      → copies_text total copies ≡ survey_output s strengths
  unfolding survey_output outcome_text winter_outcome
  copied_output {total} h copies_are =
      ap (copies_text total) copies_are ∙ ap (λ (o : Outcome ℕ). outcome_text o (copies_after s strengths no_copies)) (sym (ap winter_outcome h) ∙ answered)

-- ---- the strength lines

module _ (s : Survey) (lines : List Given) {end step : Step ℕ} (read : step ≡ end) where
  pub given_refused : {n p : ℕ} → step ≡ refused n p → refusal_text n p ≡ given_output s lines end
  unfolding given_output
  given_refused h = ap (given_output s lines) (sym h ∙ read)

  pub given_read : {low next : ℕ} {strengths : List ℕ} → step ≡ found low next → strengths ≡ strengths_from lines → survey_output s strengths ≡ given_output s lines end
  unfolding given_output
  given_read h strengths_are = ap (survey_output s) strengths_are ∙ ap (given_output s lines) (sym h ∙ read)

-- ---- the lines after the counts

take_stored : (values old : List ℕ) (n : ℕ) {new : List ℕ} → length values ≡ n → n ≤ length old → new ≡ sets old 0 values → take n new ≡ values
take_stored values old n h k e = ap (take n) (e ∙ sets_filled values old (omega arith)) ∙ take_at values (drop (length values) old) n h

module _ (t : List ℕ) (n m at : ℕ) {step : Step ℕ} where
  pub lines_refused : (lent : ℕ) → n ≤ lent → {x y : ℕ} → step ≡ (lines_with lent max_pairs t n m at).end → step ≡ refused x y
      → refusal_text x y ≡ behind_output t (survey_lines_at max_pairs t (record { vertices = n; edges = m }) at)
  unfolding behind_output survey_lines_at ◌then◌
  lines_refused lent h s e = rw (sym (s ∙ ap (λ (b : SurveyLines). b.end) (with_room_law max_pairs t n m at h)) ∙ e)

  pub lines_read : (groups firsts seconds weights owners others : List ℕ) {k q : ℕ} {groups' firsts' seconds' weights' owners' others' : List ℕ} → BeforeLines n m groups firsts seconds weights owners others
      → step ≡ (lines_with (length groups) max_pairs t n m at).end
      → AfterLines (lines_with (length groups) max_pairs t n m at) groups firsts seconds weights owners others groups' firsts' seconds' weights' owners' others' → step ≡ found k q
      → given_output (parts_of n m k groups' firsts' seconds' weights' owners' others') (givens_at t q).values (givens_at t q).end
      ≡ behind_output t (survey_lines_at max_pairs t (record { vertices = n; edges = m }) at)
  unfolding behind_output survey_lines_at ◌then◌ survey_of firsts_of seconds_of weights_of owners_of others_of
  lines_read groups firsts seconds weights owners others {k} {q} {groups'} {firsts'} {seconds'} {weights'} {owners'} {others'} h s w e =
      let whole = with_room_law max_pairs t n m at h.groups_long in
      let end : (lines_at max_pairs t n m at).end ≡ found k q = sym (s ∙ ap (λ (b : SurveyLines). b.end) whole) ∙ e in
      let v = subst (λ (b : SurveyLines). AfterLines b groups firsts seconds weights owners others groups' firsts' seconds' weights' owners' others') whole w in
      let z = lines_sizes max_pairs t n m at end in
      let few = lines_pairs t n m at (length groups) h.groups_long s e in
      let es = (lines_at max_pairs t n m at).edges in
      let ps = (lines_at max_pairs t n m at).pairs in
      let pairs_there : k ≤ length owners = omega (arith, h.owners_long, few) in
      let others_there : k ≤ length others = omega (arith, h.others_long, few) in
      let g = take_stored (lines_at max_pairs t n m at).groups groups n z.groups h.groups_long v.groups_set in
      let x = take_stored (firsts_of es) firsts m (length-map es (λ e. e.first) ∙ z.edges) h.firsts_long v.firsts_set in
      let y = take_stored (seconds_of es) seconds m (length-map es (λ e. e.second) ∙ z.edges) h.seconds_long v.seconds_set in
      let p = take_stored (weights_of es) weights m (length-map es (λ e. e.weight) ∙ z.edges) h.weights_long v.weights_set in
      let o = take_stored (owners_of ps) owners k (length-map ps (λ e. e.owner) ∙ z.pairs) pairs_there v.owners_set in
      let i = take_stored (others_of ps) others k (length-map ps (λ e. e.other) ∙ z.pairs) others_there v.others_set in
      rw (sub-zero n, sub-zero m, sub-zero k, end, g, x, y, p, o, i) refl

-- ---- the whole

module _ (t : List ℕ) {step : Step SurveyCounts} (read : step ≡ counts_at (tests_for widest).vertices (tests_for widest).edges t) where
  pub uncounted_output : {n p : ℕ} → step ≡ refused n p → refusal_text n p ≡ winter_output t
  unfolding winter_output behind_output prefix_at ◌then◌
  uncounted_output e = rw (sym read ∙ e)

  pub counted_output : {n m at : ℕ} → step ≡ found (record { vertices = n; edges = m }) at
      → behind_output t (survey_lines_at max_pairs t (record { vertices = n; edges = m }) at) ≡ winter_output t
  unfolding winter_output prefix_at ◌then◌
  counted_output counted = rw (sym read ∙ counted) refl
