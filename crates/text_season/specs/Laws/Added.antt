-- The survey at the front of a text, by the cases of the code: refused counts, refused lines, and a survey in buffers.
use Rattle.std.specs.Prelude.{ℕ, ◌-◌, ◌≤◌, ◌≡◌, List, take, drop}
use Rattle.std.proofs.Common.{arith, ◌∙◌, take_at}
use Rattle.std.proofs.Math.Nat.{sub-zero}
use Rattle.std.proofs.Math.Path.{refl, ap, sym, subst}
use Rattle.std.proofs.Math.ListN.{length}
use Rattle.std.proofs.lemmas.List.{length-map}
use Rattle.std.proofs.lemmas.List.Edits.{sets}
use Rattle.base_limits.specs.Limits.{max_pairs}
use Rattle.base_limits.specs.declared.Verdict.{Verdict}
use Rattle.format_read.specs.Step.{Step, found, refused, ◌then◌}
use Rattle.format_also.specs.Pair.{owners_of, others_of}
use Rattle.format_survey.specs.Line.{SurveyCounts, widest, tests_for, counts_at, firsts_of, seconds_of, weights_of, SurveyLines, lines_at, lines_with}
use Rattle.format_survey.specs.Reading.{survey_of}
use Rattle.format_survey.proofs.Laws.LinesBody.{lines_sizes, with_room_law, sets_filled}
use Rattle.survey_core.specs.Survey.{Survey}
use Rattle.check_printed.specs.Verify.{survey_lines_at, prefix_at}
use Rattle.check_printed.specs.Laws.Verify.{parts_of, BeforeLines, AfterLines, lines_pairs}
use Rattle.season_rule.specs.declared.Report.{Report}
use Rattle.season_rule.specs.Figures.{figures}
use Rattle.season_rule.specs.Report.{season_refusal, add_survey}
use Rattle.text_season.specs.declared.TextAdded.{TextAdded}
use Rattle.text_season.specs.Added.{text_refused, survey_added, added_from, text_added}

-- ---- a survey in buffers

pub survey_added_law : (r : Report) (used : ℕ) (s : Survey) {v : Verdict} {after : Report} → v ≡ season_refusal r (figures s) → after ≡ add_survey r s
    → ◌≡◌ {A = TextAdded} (record { verdict = v; used = used; report = after }) (survey_added r used s)
unfolding survey_added
survey_added_law r used s is made = rw (is, made)

-- ---- the lines after the counts

take_stored : (values old : List ℕ) (n : ℕ) {new : List ℕ} → length values ≡ n → n ≤ length old → new ≡ sets old 0 values → take n new ≡ values
take_stored values old n h k e = ap (take n) (e ∙ sets_filled values old (omega arith)) ∙ take_at values (drop (length values) old) n h

module _ (r : Report) (t : List ℕ) (n m at : ℕ) {step : Step ℕ} where
  pub lines_refused : (lent : ℕ) → n ≤ lent → {x y : ℕ} → step ≡ (lines_with lent max_pairs t n m at).end → step ≡ refused x y
      → text_refused r x y ≡ added_from r (survey_lines_at max_pairs t (record { vertices = n; edges = m }) at)
  unfolding added_from survey_lines_at ◌then◌
  lines_refused lent h s e = rw (sym (s ∙ ap (λ (b : SurveyLines). b.end) (with_room_law max_pairs t n m at h)) ∙ e)

  pub lines_added : (groups firsts seconds weights owners others : List ℕ) {k q : ℕ} {groups' firsts' seconds' weights' owners' others' : List ℕ} → BeforeLines n m groups firsts seconds weights owners others
      → step ≡ (lines_with (length groups) max_pairs t n m at).end
      → AfterLines (lines_with (length groups) max_pairs t n m at) groups firsts seconds weights owners others groups' firsts' seconds' weights' owners' others' → step ≡ found k q
      → survey_added r q (parts_of n m k groups' firsts' seconds' weights' owners' others')
      ≡ added_from r (survey_lines_at max_pairs t (record { vertices = n; edges = m }) at)
  unfolding added_from survey_lines_at ◌then◌ survey_of firsts_of seconds_of weights_of owners_of others_of
  lines_added groups firsts seconds weights owners others {k} {q} {groups'} {firsts'} {seconds'} {weights'} {owners'} {others'} h s w e =
      let whole = with_room_law max_pairs t n m at h.groups_long in
      let end : (lines_at max_pairs t n m at).end ≡ found k q = sym (s ∙ ap (λ (b : SurveyLines). b.end) whole) ∙ e in
      let v = subst (λ (b : SurveyLines). AfterLines b groups firsts seconds weights owners others groups' firsts' seconds' weights' owners' others') whole w in
      let z = lines_sizes max_pairs t n m at end in
      let few = lines_pairs t n m at (length groups) h.groups_long s e in
      let es = (lines_at max_pairs t n m at).edges in
      let ps = (lines_at max_pairs t n m at).pairs in
      let pairs_there : k ≤ length owners = omega (arith, h.owners_long, few) in
      let others_there : k ≤ length others = omega (arith, h.others_long, few) in
      let g = take_stored (lines_at max_pairs t n m at).groups groups n z.groups h.groups_long v.groups_set in
      let x = take_stored (firsts_of es) firsts m (length-map es (λ e. e.first) ∙ z.edges) h.firsts_long v.firsts_set in
      let y = take_stored (seconds_of es) seconds m (length-map es (λ e. e.second) ∙ z.edges) h.seconds_long v.seconds_set in
      let p = take_stored (weights_of es) weights m (length-map es (λ e. e.weight) ∙ z.edges) h.weights_long v.weights_set in
      let o = take_stored (owners_of ps) owners k (length-map ps (λ e. e.owner) ∙ z.pairs) pairs_there v.owners_set in
      let i = take_stored (others_of ps) others k (length-map ps (λ e. e.other) ∙ z.pairs) others_there v.others_set in
      rw (sub-zero n, sub-zero m, sub-zero k, end, g, x, y, p, o, i) refl

-- ---- the whole

module _ (r : Report) (t : List ℕ) {step : Step SurveyCounts} (read : step ≡ counts_at (tests_for widest).vertices (tests_for widest).edges t) where
  pub added_uncounted : {n p : ℕ} → step ≡ refused n p → text_refused r n p ≡ text_added r t
  unfolding text_added added_from prefix_at ◌then◌
  added_uncounted e = rw (sym read ∙ e)

  pub added_counted : {n m at : ℕ} → step ≡ found (record { vertices = n; edges = m }) at
      → added_from r (survey_lines_at max_pairs t (record { vertices = n; edges = m }) at) ≡ text_added r t
  unfolding text_added prefix_at ◌then◌
  added_counted counted = rw (sym read ∙ counted) refl
