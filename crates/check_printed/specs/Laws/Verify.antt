-- Laws of checking a survey text with a plan behind it: the outcome by the outcomes of its parts.
use Rattle.std.specs.Prelude.{ℕ, ◌*◌, ◌-◌, ◌≤◌, ◌≡◌, List, [], ◌∷◌, take, drop}
use Rattle.std.proofs.Common.{arith, ◌∙◌, length-append, length-take, take_at}
use Rattle.std.proofs.Math.Nat.{sub-zero}
use Rattle.std.proofs.Math.Path.{refl, ap, sym, subst}
use Rattle.std.proofs.Math.ListN.{length}
use Rattle.std.proofs.lemmas.List.{length-map}
use Rattle.std.proofs.lemmas.List.Edits.{sets}
use borrow.Author.Tests.{eq-eqb, ne_eqb}
use Rattle.format_survey.proofs.Laws.LinesBody.{lines_sizes, lines_room, with_room_law, sets_filled}
use Rattle.base_finite.specs.Laws.Below.{length_tabulate}
use Rattle.base_limits.specs.Limits.{record_bytes, max_edges, max_vertices, max_pairs}
use Rattle.base_limits.specs.Verdict.{refuse_if, Outcome, refusal, answer, outcome, ◌before◌}
use Rattle.format_read.specs.Step.{Step, found, refused, ◌then◌}
use Rattle.format_survey.specs.Reading.{survey_of, step_outcome}
use Rattle.format_also.specs.Pair.{owners_of, others_of}
use Rattle.format_survey.specs.Line.{SurveyCounts, widest, tests_for, counts_at, firsts_of, seconds_of, weights_of, SurveyLines, lines_at, lines_with}
use Rattle.format_survey.proofs.Laws.Tests.{counts_passed}
use Rattle.survey_core.specs.Survey.{Survey, survey_with, edge_count}
use Rattle.check_rule.specs.Check.{Checked, checking}
use Rattle.format_plan.specs.Lines.{PrintedDual, dual_record}
use Rattle.format_plan.specs.Plan.{Claims, PrintedPlan, plan_at, with_room, marks_of, dual_records, marks_read, records_read}
use Rattle.check_printed.specs.Verify.{survey_lines_at, prefix_at, claim_test, claims_judged, plan_verified, plan_from, verified_from, verifying}
use Rattle.format_plan.specs.Answer.{Read, read_of}
use Rattle.format_plan.proofs.Laws.Lines.{length_dual_record}
use Rattle.format_plan.proofs.Laws.Room.{room_answer, room_enough}

-- ---- claims

pub claims_refused : {o : Outcome Checked} {n p : ℕ} (terminals cost bound : ℕ) → o ≡ refusal n p → claims_judged o terminals cost bound ≡ refusal n p
unfolding claims_judged
claims_refused terminals cost bound e = rw e

module _ {o : Outcome Checked} {k c b : ℕ} (terminals cost bound : ℕ) (found' : o ≡ answer (record { terminals = k; cost = c; bound = b })) where
  pub claim_terminals : (k ≡ terminals → ⊥) → claims_judged o terminals cost bound ≡ refusal 25 0
  unfolding claims_judged claim_test refuse_if ◌before◌ outcome
  claim_terminals n = rw (found', ne_eqb k terminals n)

  pub claim_cost : k ≡ terminals → (c ≡ cost → ⊥) → claims_judged o terminals cost bound ≡ refusal 25 1
  unfolding claims_judged claim_test refuse_if ◌before◌ outcome
  claim_cost e n = rw (found', eq-eqb k terminals e, ne_eqb c cost n)

  pub claim_bound : k ≡ terminals → c ≡ cost → (b ≡ bound → ⊥) → claims_judged o terminals cost bound ≡ refusal 25 2
  unfolding claims_judged claim_test refuse_if ◌before◌ outcome
  claim_bound e f n = rw (found', eq-eqb k terminals e, eq-eqb c cost f, ne_eqb b bound n)

  pub claim_fine : k ≡ terminals → c ≡ cost → b ≡ bound → claims_judged o terminals cost bound ≡ answer (record { terminals = k; cost = c; bound = b })
  unfolding claims_judged claim_test refuse_if ◌before◌ outcome
  claim_fine e f g = rw (found', eq-eqb k terminals e, eq-eqb c cost f, eq-eqb b bound g)

-- ---- the plan

pub plan_refused : (s : Survey) (o : Outcome PrintedPlan) {read : Outcome Read} {n p : ℕ} → read ≡ read_of o → read ≡ refusal n p → refusal n p ≡ plan_verified s o
unfolding read_of plan_verified
plan_refused s (refusal x y) a e = cc
plan_refused s (answer p) a e = let z : ◌≡◌ {A = ℕ} 0 1 = cc in absurd (omega arith)

pub length_marks : (m : ℕ) (kept : List ℕ) → length (marks_of m kept) ≡ m
unfolding marks_of
length_marks m kept = length_tabulate m _

length_records : (ds : List PrintedDual) → length (dual_records ds) ≡ record_bytes * length ds
unfolding dual_records
length_records [] = refl
length_records (d ∷ ds) = omega (arith, length-append (dual_record d) (dual_records ds), length_dual_record d, length_records ds)

plan_read : (s : Survey) (o : Outcome PrintedPlan) (marks records : List ℕ) {claims : Claims} {duals : ℕ} {marks' records' : List ℕ}
    → answer (record { claims = claims; duals = duals }) ≡ read_of o → marks' ≡ marks_read o (edge_count s) marks → records' ≡ records_read o records
    → plan_verified s o ≡ claims_judged (checking s (take (edge_count s) marks') (take (record_bytes * duals) records')) claims.terminals claims.cost claims.bound
unfolding read_of marks_read records_read plan_verified
plan_read s o marks records {claims} {duals} {marks'} {records'} = by_outcome o
  where
    by_outcome : (x : Outcome PrintedPlan) → answer (record { claims = claims; duals = duals }) ≡ read_of x → marks' ≡ marks_read x (edge_count s) marks → records' ≡ records_read x records
        → plan_verified s x ≡ claims_judged (checking s (take (edge_count s) marks') (take (record_bytes * duals) records')) claims.terminals claims.cost claims.bound
    by_outcome (refusal n p) a b c = let z : ◌≡◌ {A = ℕ} 0 1 = cc in absurd (omega arith)
    by_outcome (answer p) a b c =
        let read : ◌≡◌ {A = Read} (record { claims = claims; duals = duals }) (record { claims = p.claims; duals = length p.duals }) = cc in
        let same : claims ≡ p.claims = ap (λ (r : Read). r.claims) read in
        let many : duals ≡ length p.duals = ap (λ (r : Read). r.duals) read in
        let tm : take (edge_count s) marks' ≡ marks_of (edge_count s) p.kept = ap (take (edge_count s)) b ∙ take_at (marks_of (edge_count s) p.kept) (drop (edge_count s) marks) (edge_count s) (length_marks (edge_count s) p.kept) in
        let tr : take (record_bytes * duals) records' ≡ dual_records p.duals = ap (λ n. take (record_bytes * n) records') many ∙ ap (take (record_bytes * length p.duals)) c ∙ take_at (dual_records p.duals) (drop (record_bytes * length p.duals) records) (record_bytes * length p.duals) (length_records p.duals) in
        rw (tm, tr, same) refl

-- The same of the parts that are lent.
pub plan_judged : (s : Survey) (o : Outcome PrintedPlan) (marks records : List ℕ) {read : Outcome Read} {claims : Claims} {duals : ℕ} {marks' records' : List ℕ}
    → read ≡ read_of o → marks' ≡ marks_read o (edge_count s) marks → records' ≡ records_read o records → read ≡ answer (record { claims = claims; duals = duals })
    → claims_judged (checking s (take (edge_count s - 0) marks') (take (record_bytes * duals - 0) records')) claims.terminals claims.cost claims.bound ≡ plan_verified s o
plan_judged s o marks records {duals = duals} r m d e = rw (sub-zero (edge_count s), sub-zero (record_bytes * duals)) (sym (plan_read s o marks records (sym e ∙ r) m d))

-- No more moats are read than there is room for.
pub plan_read_room : (t : List ℕ) (at m marks records : ℕ) {read : Outcome Read} {claims : Claims} {duals : ℕ} → read ≡ read_of (with_room (plan_at t m at) m marks records) → read ≡ answer (record { claims = claims; duals = duals })
    → record_bytes * duals ≤ records
unfolding read_of
plan_read_room t at m marks records {read} {claims} {duals} a e = by_outcome (with_room (plan_at t m at) m marks records) refl (sym e ∙ a)
  where
    by_outcome : (o : Outcome PrintedPlan) → with_room (plan_at t m at) m marks records ≡ o → answer (record { claims = claims; duals = duals }) ≡ read_of o → record_bytes * duals ≤ records
    by_outcome (refusal n q) r e = let z : ◌≡◌ {A = ℕ} 0 1 = cc in absurd (omega arith)
    by_outcome (answer p) r e =
        let same : ◌≡◌ {A = Read} (record { claims = claims; duals = duals }) (record { claims = p.claims; duals = length p.duals }) = cc e in
        subst (λ (n : ℕ). record_bytes * n ≤ records) (sym (ap (λ (r : Read). r.duals) same)) (room_answer (plan_at t m at) m marks records r).3

-- 7 cannot come: the check answers what the text says.
pub room_suffices : (t : List ℕ) (s : Survey) (at : ℕ) → edge_count s ≤ max_edges → plan_from t s at ≡ step_outcome (plan_at t (edge_count s) at)
unfolding plan_from
room_suffices t s at h = room_enough t (edge_count s) at h

-- ---- the survey

take_stored : (values old : List ℕ) (n : ℕ) {new : List ℕ} → length values ≡ n → n ≤ length old → new ≡ sets old 0 values → take n new ≡ values
take_stored values old n h k e = ap (take n) (e ∙ sets_filled values old (omega arith)) ∙ take_at values (drop (length values) old) n h

-- A part of a buffer is no longer than what is asked of it.
pub part_few : (l : List ℕ) (m n : ℕ) → m ≤ n → length (take (m - 0) l) ≤ n
part_few l m n h = let a = length-take (m - 0) l in omega arith

-- What a text says of a survey, in buffers: the parts of them that are read.
abbrev pub parts_of : (n m k : ℕ) (groups firsts seconds weights owners others : List ℕ) → Survey
parts_of n m k groups firsts seconds weights owners others =
    survey_with (take (n - 0) groups) (take (m - 0) firsts) (take (m - 0) seconds) (take (m - 0) weights) (take (k - 0) owners) (take (k - 0) others)

-- The buffers before the lines of a survey are read: room for all that its counts ask.
pub record BeforeLines (n m : ℕ) (groups firsts seconds weights owners others : List ℕ) : Type 0 where
  pub groups_long : n ≤ length groups
  pub firsts_long : m ≤ length firsts
  pub seconds_long : m ≤ length seconds
  pub weights_long : m ≤ length weights
  pub owners_long : max_pairs ≤ length owners
  pub others_long : max_pairs ≤ length others

-- The buffers after that.
pub record AfterLines (b : SurveyLines) (groups firsts seconds weights owners others groups' firsts' seconds' weights' owners' others' : List ℕ) : Type 0 where
  pub groups_set : groups' ≡ sets groups 0 b.groups
  pub firsts_set : firsts' ≡ sets firsts 0 (firsts_of b.edges)
  pub seconds_set : seconds' ≡ sets seconds 0 (seconds_of b.edges)
  pub weights_set : weights' ≡ sets weights 0 (weights_of b.edges)
  pub owners_set : owners' ≡ sets owners 0 (owners_of b.pairs)
  pub others_set : others' ≡ sets others 0 (others_of b.pairs)

-- The lines of a survey and the plan behind them: a refusal stays, and the plan is held against what was read.
module _ (t : List ℕ) (n m at : ℕ) {step : Step ℕ} where
  pub survey_lines_refused : (lent : ℕ) → n ≤ lent → {x y : ℕ} → step ≡ (lines_with lent max_pairs t n m at).end → step ≡ refused x y
      → refusal x y ≡ verified_from t (survey_lines_at max_pairs t (record { vertices = n; edges = m }) at)
  unfolding verified_from survey_lines_at ◌then◌
  survey_lines_refused lent h s e = rw (sym (s ∙ ap (λ (b : SurveyLines). b.end) (with_room_law max_pairs t n m at h)) ∙ e)

  -- No more pairs are read than there is room for.
  pub lines_pairs : (lent : ℕ) → n ≤ lent → {k q : ℕ} → step ≡ (lines_with lent max_pairs t n m at).end → step ≡ found k q → k ≤ max_pairs
  lines_pairs lent h s e =
      let end = sym (s ∙ ap (λ (b : SurveyLines). b.end) (with_room_law max_pairs t n m at h)) ∙ e in
      subst (λ (i : ℕ). i ≤ max_pairs) (lines_sizes max_pairs t n m at end).pairs (lines_room max_pairs t n m at)

  pub lines_verified : (groups firsts seconds weights owners others : List ℕ) {k q : ℕ} {groups' firsts' seconds' weights' owners' others' : List ℕ} → BeforeLines n m groups firsts seconds weights owners others
      → step ≡ (lines_with (length groups) max_pairs t n m at).end
      → AfterLines (lines_with (length groups) max_pairs t n m at) groups firsts seconds weights owners others groups' firsts' seconds' weights' owners' others' → step ≡ found k q
      → plan_verified (parts_of n m k groups' firsts' seconds' weights' owners' others') (plan_from t (parts_of n m k groups' firsts' seconds' weights' owners' others') q)
      ≡ verified_from t (survey_lines_at max_pairs t (record { vertices = n; edges = m }) at)
  unfolding verified_from survey_lines_at ◌then◌ survey_of firsts_of seconds_of weights_of owners_of others_of
  lines_verified groups firsts seconds weights owners others {k} {q} {groups'} {firsts'} {seconds'} {weights'} {owners'} {others'} h s w e =
      let whole = with_room_law max_pairs t n m at h.groups_long in
      let end : (lines_at max_pairs t n m at).end ≡ found k q = sym (s ∙ ap (λ (b : SurveyLines). b.end) whole) ∙ e in
      let v = subst (λ (b : SurveyLines). AfterLines b groups firsts seconds weights owners others groups' firsts' seconds' weights' owners' others') whole w in
      let z = lines_sizes max_pairs t n m at end in
      let few = lines_pairs (length groups) h.groups_long s e in
      let es = (lines_at max_pairs t n m at).edges in
      let ps = (lines_at max_pairs t n m at).pairs in
      let pairs_there : k ≤ length owners = omega (arith, h.owners_long, few) in
      let others_there : k ≤ length others = omega (arith, h.others_long, few) in
      let g = take_stored (lines_at max_pairs t n m at).groups groups n z.groups h.groups_long v.groups_set in
      let x = take_stored (firsts_of es) firsts m (length-map es (λ e. e.first) ∙ z.edges) h.firsts_long v.firsts_set in
      let y = take_stored (seconds_of es) seconds m (length-map es (λ e. e.second) ∙ z.edges) h.seconds_long v.seconds_set in
      let p = take_stored (weights_of es) weights m (length-map es (λ e. e.weight) ∙ z.edges) h.weights_long v.weights_set in
      let o = take_stored (owners_of ps) owners k (length-map ps (λ e. e.owner) ∙ z.pairs) pairs_there v.owners_set in
      let i = take_stored (others_of ps) others k (length-map ps (λ e. e.other) ∙ z.pairs) others_there v.others_set in
      rw (sub-zero n, sub-zero m, sub-zero k, end, g, x, y, p, o, i) refl

-- ---- the whole

module _ (t : List ℕ) {step : Step SurveyCounts} (read : step ≡ counts_at (tests_for widest).vertices (tests_for widest).edges t) where
  pub verified_uncounted : {n p : ℕ} → step ≡ refused n p → refusal n p ≡ verifying t
  unfolding verifying verified_from prefix_at ◌then◌
  verified_uncounted e = rw (sym read ∙ e)

  module _ {n m at : ℕ} (counted : step ≡ found (record { vertices = n; edges = m }) at) where
    pub verified_counted : verified_from t (survey_lines_at max_pairs t (record { vertices = n; edges = m }) at) ≡ verifying t
    unfolding verifying prefix_at ◌then◌
    verified_counted = rw (sym read ∙ counted) refl

    pub counted_few : (n ≤ max_vertices) × (m ≤ max_edges)
    counted_few = let f = counts_passed widest t (sym read ∙ counted) in (f.vertices.most, f.edges.most)
