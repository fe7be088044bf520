-- The survey at the front of a text, by the cases of the code: refused counts, refused lines, and a survey in buffers. `read_front` cites it.
use Rattle.std.specs.Prelude.{ℕ, ◌≤◌, ◌≡◌, List, take, drop}
use Rattle.std.proofs.Common.{arith, ◌∙◌, take_at}
use Rattle.std.proofs.Math.Nat.{sub-zero}
use Rattle.std.proofs.Math.Path.{refl, ap, sym, subst}
use Rattle.std.proofs.Math.ListN.{length}
use Rattle.std.proofs.lemmas.List.{length-map}
use Rattle.std.proofs.lemmas.List.Edits.{sets}
use Rattle.base_limits.specs.Limits.{max_vertices, max_edges, max_pairs}
use Rattle.format_read.specs.Step.{Step, found, refused, ◌then◌}
use Rattle.format_also.specs.Pair.{owners_of, others_of}
use Rattle.format_survey.specs.Line.{SurveyCounts, widest, tests_for, counts_at, firsts_of, seconds_of, weights_of, SurveyLines, lines_at, lines_with}
use Rattle.format_survey.specs.Reading.{SurveyText, survey_of}
use Rattle.format_survey.proofs.Laws.LinesBody.{lines_sizes, with_room_law, sets_filled}
use Rattle.check_printed.specs.Verify.{survey_lines_at, prefix_at, survey_in}
use Rattle.check_printed.specs.Laws.Verify.{parts_of, BeforeLines, AfterLines, lines_pairs, counted_few}
use Rattle.text_merge.specs.declared.Front.{Front}
use Rattle.text_merge.specs.declared.Front.TheVariants.{Survey as FrontSurvey, Refused as FrontRefused}
use Rattle.text_merge.specs.Front.{Said, FrontRead}

take_stored : (values old : List ℕ) (n : ℕ) {new : List ℕ} → length values ≡ n → n ≤ length old → new ≡ sets old 0 values → take n new ≡ values
take_stored values old n h k e = ap (take n) (e ∙ sets_filled values old (omega arith)) ∙ take_at values (drop (length values) old) n h

-- ---- the lines after the counts

abbrev said_at : (t : List ℕ) (n m at : ℕ) → SurveyText
said_at t n m at =
    survey_of (record { vertices = n; edges = m }) (lines_at max_pairs t n m at).groups (lines_at max_pairs t n m at).pairs (lines_at max_pairs t n m at).edges

module _ (t : List ℕ) (n m at : ℕ) {step : Step ℕ} where
  lines_refused : (lent : ℕ) → n ≤ lent → {x y : ℕ} → step ≡ (lines_with lent max_pairs t n m at).end → step ≡ refused x y
      → survey_lines_at max_pairs t (record { vertices = n; edges = m }) at ≡ refused x y
  unfolding survey_lines_at ◌then◌
  lines_refused lent h s e = rw (sym (s ∙ ap (λ (b : SurveyLines). b.end) (with_room_law max_pairs t n m at h)) ∙ e)

  lines_found : (lent : ℕ) → n ≤ lent → {k q : ℕ} → step ≡ (lines_with lent max_pairs t n m at).end → step ≡ found k q
      → survey_lines_at max_pairs t (record { vertices = n; edges = m }) at ≡ found (said_at t n m at) q
  unfolding survey_lines_at ◌then◌
  lines_found lent h s e = rw (sym (s ∙ ap (λ (b : SurveyLines). b.end) (with_room_law max_pairs t n m at h)) ∙ e)

  lines_parts : (groups firsts seconds weights owners others : List ℕ) {k q : ℕ} {groups' firsts' seconds' weights' owners' others' : List ℕ} → BeforeLines n m groups firsts seconds weights owners others
      → step ≡ (lines_with (length groups) max_pairs t n m at).end
      → AfterLines (lines_with (length groups) max_pairs t n m at) groups firsts seconds weights owners others groups' firsts' seconds' weights' owners' others' → step ≡ found k q
      → parts_of n m k groups' firsts' seconds' weights' owners' others' ≡ survey_in (said_at t n m at)
  unfolding survey_of firsts_of seconds_of weights_of owners_of others_of
  lines_parts groups firsts seconds weights owners others {k} {q} {groups'} {firsts'} {seconds'} {weights'} {owners'} {others'} h s w e =
      let whole = with_room_law max_pairs t n m at h.groups_long in
      let end : (lines_at max_pairs t n m at).end ≡ found k q = sym (s ∙ ap (λ (b : SurveyLines). b.end) whole) ∙ e in
      let v = subst (λ (b : SurveyLines). AfterLines b groups firsts seconds weights owners others groups' firsts' seconds' weights' owners' others') whole w in
      let z = lines_sizes max_pairs t n m at end in
      let few = lines_pairs t n m at (length groups) h.groups_long s e in
      let es = (lines_at max_pairs t n m at).edges in
      let ps = (lines_at max_pairs t n m at).pairs in
      let pairs_there : k ≤ length owners = omega (arith, h.owners_long, few) in
      let others_there : k ≤ length others = omega (arith, h.others_long, few) in
      let g = take_stored (lines_at max_pairs t n m at).groups groups n z.groups h.groups_long v.groups_set in
      let x = take_stored (firsts_of es) firsts m (length-map es (λ e. e.first) ∙ z.edges) h.firsts_long v.firsts_set in
      let y = take_stored (seconds_of es) seconds m (length-map es (λ e. e.second) ∙ z.edges) h.seconds_long v.seconds_set in
      let p = take_stored (weights_of es) weights m (length-map es (λ e. e.weight) ∙ z.edges) h.weights_long v.weights_set in
      let o = take_stored (owners_of ps) owners k (length-map ps (λ e. e.owner) ∙ z.pairs) pairs_there v.owners_set in
      let i = take_stored (others_of ps) others k (length-map ps (λ e. e.other) ∙ z.pairs) others_there v.others_set in
      rw (sub-zero n, sub-zero m, sub-zero k, g, x, y, p, o, i) refl

-- ---- the whole

module _ (t : List ℕ) {step : Step SurveyCounts} (read : step ≡ counts_at (tests_for widest).vertices (tests_for widest).edges t) (groups firsts seconds weights owners others : List ℕ) where
  pub front_uncounted : {r : Front} {n p : ℕ} → r ≡ FrontRefused n p → step ≡ refused n p → FrontRead t r groups firsts seconds weights owners others
  unfolding FrontRead prefix_at ◌then◌
  front_uncounted r_is e = rw (r_is, sym read ∙ e)

  module _ {n m at : ℕ} (counted : step ≡ found (record { vertices = n; edges = m }) at) where
    follows : prefix_at widest t ≡ survey_lines_at max_pairs t (record { vertices = n; edges = m }) at
    unfolding prefix_at ◌then◌
    follows = rw (sym read ∙ counted)

    few : (n ≤ max_vertices) × (m ≤ max_edges)
    few = counted_few t read counted

    module _ {lines : Step ℕ} (groups' firsts' seconds' weights' owners' others' : List ℕ) (long : max_vertices ≤ length groups)
        (lines_are : lines ≡ (lines_with (length groups) max_pairs t n m at).end) where
      pub front_unlined : {r : Front} {x y : ℕ} → r ≡ FrontRefused x y → lines ≡ refused x y → FrontRead t r groups' firsts' seconds' weights' owners' others'
      unfolding FrontRead
      front_unlined r_is e =
          rw r_is (follows ∙ lines_refused t n m at (length groups) (let a = few.0 in omega arith) lines_are e)

      pub front_read : {k q : ℕ} → max_edges ≤ length firsts → max_edges ≤ length seconds → max_edges ≤ length weights → max_pairs ≤ length owners → max_pairs ≤ length others
          → AfterLines (lines_with (length groups) max_pairs t n m at) groups firsts seconds weights owners others groups' firsts' seconds' weights' owners' others' → lines ≡ found k q
          → FrontRead t (FrontSurvey n m k q) groups' firsts' seconds' weights' owners' others'
      unfolding FrontRead
      front_read f d w o x after e =
          let a = few.0 in
          let b = few.1 in
          record {
            said = said_at t n m at;
            read = follows ∙ lines_found t n m at (length groups) (omega arith) lines_are e;
            parts =
                lines_parts t n m at groups firsts seconds weights owners others
                (record { groups_long = omega arith; firsts_long = omega arith; seconds_long = omega arith; weights_long = omega arith; owners_long = o; others_long = x }) lines_are after e;
            vertices_few = a;
            edges_few = b;
            pairs_few = lines_pairs t n m at (length groups) (omega arith) lines_are e;
          }

-- ---- by the answer

pub front_said : {t : List ℕ} {r : Front} {n m k at : ℕ} {groups firsts seconds weights owners others : List ℕ} → FrontRead t r groups firsts seconds weights owners others
    → r ≡ FrontSurvey n m k at → Said t n m k at groups firsts seconds weights owners others
unfolding FrontRead
front_said {t} {groups = groups} {firsts = firsts} {seconds = seconds} {weights = weights} {owners = owners} {others = others} h e =
    subst (λ (r : Front). FrontRead t r groups firsts seconds weights owners others) e h

pub front_unread : (t groups firsts seconds weights owners others : List ℕ) {r : Front} {number place : ℕ} → FrontRead t r groups firsts seconds weights owners others
    → r ≡ FrontRefused number place → prefix_at widest t ≡ refused number place
unfolding FrontRead
front_unread t groups firsts seconds weights owners others h e = subst (λ (r : Front). FrontRead t r groups firsts seconds weights owners others) e h
