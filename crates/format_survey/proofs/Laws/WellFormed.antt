-- Reading and rendering undo each other, and 16 stands at the first byte that no well-formed text has there (document 01, 'Survey text and
-- printed plan').
use Rattle.std.specs.Prelude.{ℕ, ◌+◌, ◌≤◌, ◌<◌, ◌≡◌, refl, Bool, true, false, List, [], ◌++◌, take, leb}
use Rattle.std.proofs.Common.{arith, ◌∙◌, subst, append-nil, length-append, take_at, take_all, length-take-le, leb-true, leb-false}
use Rattle.std.proofs.Math.Path.{ap, sym}
use Rattle.std.proofs.Math.ListN.{length}
use Rattle.base_limits.specs.Limits.{max_pairs}
use Rattle.base_limits.specs.Verdict.{refusal, answer}
use Rattle.format_survey.specs.Line.{Lengths, pair_room, Tests, tests_for, vertices_test, edges_test, group_test, Edge}
use Rattle.format_survey.specs.Reading.{SurveyText, survey_of, survey_at, step_outcome, reading}
use Rattle.format_survey.specs.Render.{render}
use Rattle.format_survey.proofs.Laws.Tests.{vertices_fine, edges_fine, group_line_fine, vertices_passed, edges_passed, group_passed, one_not_malformed, two_not_malformed}
use Rattle.format_survey.proofs.Laws.Content.{SurveyContent, content_with, content_survey, content_at, NeverMalformed, Accepted, Formed, reads_content, content_survey_law}
use Rattle.format_read.specs.Bytes.{end_at}
use Rattle.format_read.specs.Language.{ReadsBefore, NotMalformed, read, otherwise}
use Rattle.format_read.proofs.Laws.Bytes.{byte_short, end_here, end_later}
use Rattle.format_read.specs.Number.{also_letter}
use Rattle.format_also.specs.Pair.{Pair}
use Rattle.format_also.specs.WellFormed.{NoAlso}
use Rattle.format_also.specs.Laws.Passing.{pairs_few, pairs_room, pairs_any_room}
use Rattle.format_read.proofs.Laws.Lines.{each_map}
use Rattle.format_read.proofs.Laws.Stands.{stands_whole}
use Rattle.format_read.proofs.Laws.Step.{then_found, then_value}
use Rattle.format_read.specs.Step.{Step, found, refused, ◌then◌}
use Rattle.format_survey.specs.WellFormed.{WellFormed, WithinCounts, survey_of_text, SurveyRoom, Accepting, Begins}

-- No test gives 16.
pub never_malformed : (lent : Lengths) → NeverMalformed (tests_for lent)
unfolding tests_for vertices_test edges_test group_test
never_malformed lent =
    record {
      vertices = λ x n p. two_not_malformed _ _ 1 7 0 0 n p (λ z. omega arith) (λ z. omega arith);
      edges = λ x n p. two_not_malformed _ _ 3 7 0 0 n p (λ z. omega arith) (λ z. omega arith);
      group = λ v x n p. one_not_malformed _ 17 v n p (λ z. omega arith);
    }

outcome_found : {A : Type 0} (s : Step A) {a : A} → step_outcome s ≡ answer a → (p : ℕ) × (s ≡ found a p)
unfolding step_outcome
outcome_found (found b p) e = (p, cc)
outcome_found (refused n p) e = let z : ◌≡◌ {A = ℕ} 0 1 = cc in absurd (omega arith)

pub outcome_refused : {A : Type 0} (s : Step A) {n p : ℕ} → step_outcome s ≡ refusal n p → s ≡ refused n p
unfolding step_outcome
outcome_refused (found b q) e = let z : ◌≡◌ {A = ℕ} 0 1 = cc in absurd (omega arith)
outcome_refused (refused i q) {n} {p} e = let a : i ≡ n = cc in let b : q ≡ p = cc in cc

-- What an accepted text says, and that it ends there.
record AcceptedText (tests : Tests) (t : List ℕ) (s : SurveyText) : Type 0 where
  content : SurveyContent
  next : ℕ
  found_it : content_at tests t 0 ≡ found content next
  last : length t ≤ next
  says : s ≡ survey_of content.counts content.groups content.pairs content.edges

ends_at_law : (t : List ℕ) (p : ℕ) {z q : ℕ} → end_at t p ≡ found z q → length t ≤ p
ends_at_law t p e = by_test (leb (length t) p) refl
  where
    by_test : (b : Bool) → leb (length t) p ≡ b → length t ≤ p
    by_test true h = leb-true (length t) p h
    by_test false h = let z : ◌≡◌ {A = ℕ} 0 1 = cc (end_later t p (leb-false (length t) p h)) in absurd (omega arith)

survey_content : (tests : Tests) (t : List ℕ) (s : SurveyText) (p : ℕ) → survey_at tests t ≡ found s p → AcceptedText tests t s
survey_content tests t s p e =
    let g = then_value (content_at tests t 0) (λ x p. end_at t p then λ z q. found (content_survey x) q) (sym (content_survey_law tests t) ∙ e) in
    let h = then_value (end_at t g.1) (λ z q. found (content_survey g.0) q) g.3 in
    record { content = g.0; next = g.1; found_it = g.2; last = ends_at_law t g.1 h.2; says = cc h.3 }

-- The same as what its lines say.
abbrev pub content_from : List ℕ → List Pair → List Edge → SurveyContent
content_from groups pairs edges = content_with (length groups) (length edges) groups pairs edges

-- Tests with room for these groups, pairs and edges accept their text.
pub within_accepted : (lent : Lengths) (groups : List ℕ) (pairs : List Pair) (edges : List Edge) → WithinCounts groups pairs edges → SurveyRoom lent groups pairs edges
    → Accepted (tests_for lent) (content_from groups pairs edges) (render groups pairs edges)
unfolding tests_for
within_accepted lent groups pairs edges w r =
    let x = w.some in
    let y = w.few_groups in
    let z = w.few_edges in
    let o = r.for_owners in
    let p = r.for_others in
    record {
      vertices = refl;
      edges = refl;
      some_vertices = record { small = omega arith; passes = vertices_fine lent.groups (length groups) (λ z. omega arith) w.few_groups r.for_groups };
      some_edges = record { small = omega arith; passes = edges_fine lent.firsts lent.seconds lent.weights (length edges) w.few_edges r.for_firsts r.for_seconds r.for_weights };
      each_group = each_map (λ v g h. record { small = omega arith; passes = group_line_fine v g h }) w.each_group;
      each_pair = pairs_any_room (pair_room lent) w.each_pair (omega arith);
      each_edge = w.each_edge;
      word = refl;
    }

-- What these tests accept is within the counts, and there is room for it.
pub accepted_within : (lent : Lengths) {x : SurveyContent} {w : List ℕ} → Accepted (tests_for lent) x w → WithinCounts x.groups x.pairs x.edges
unfolding tests_for
accepted_within lent {x} m =
    let v = vertices_passed lent.groups (length x.groups) m.some_vertices.passes in
    let e = edges_passed lent.firsts lent.seconds lent.weights (length x.edges) m.some_edges.passes in
    let few = pairs_few m.each_pair (omega arith) in
    record {
      some = v.some;
      few_groups = v.most;
      few_edges = e.most;
      each_group = each_map (λ v g p. group_passed v g p.passes) m.each_group;
      each_pair = pairs_any_room max_pairs m.each_pair (omega arith);
      each_edge = m.each_edge;
    }

accepted_room : (lent : Lengths) {x : SurveyContent} {w : List ℕ} → Accepted (tests_for lent) x w → SurveyRoom lent x.groups x.pairs x.edges
unfolding tests_for
accepted_room lent {x} m =
    let v = vertices_passed lent.groups (length x.groups) m.some_vertices.passes in
    let c = edges_passed lent.firsts lent.seconds lent.weights (length x.edges) m.some_edges.passes in
    let fits : 0 + length x.pairs ≤ pair_room lent = pairs_room m.each_pair (omega arith) in
    record { for_groups = v.room; for_firsts = c.first; for_seconds = c.second; for_weights = c.weight; for_owners = omega arith; for_others = omega arith }

module _ (lent : Lengths) where
  abbrev tests : Tests
  tests = tests_for lent

  -- A rendering is read back.
  pub read_render : (groups : List ℕ) (pairs : List Pair) (edges : List Edge) → WithinCounts groups pairs edges → SurveyRoom lent groups pairs edges
      → reading (render groups pairs edges) lent ≡ answer (survey_of_text groups pairs edges)
  unfolding reading survey_of_text step_outcome
  read_render groups pairs edges w r =
      let t = render groups pairs edges in
      let x = content_from groups pairs edges in
      let a = within_accepted lent groups pairs edges w r in
      let last = byte_short t (0 + length t) also_letter (omega arith) in
      let c : content_at tests t 0 ≡ found x (0 + length t) = (reads_content tests (never_malformed lent)).complete t 0 x t a (stands_whole t) last in
      ap step_outcome (content_survey_law tests t ∙ then_found _ c ∙ then_found _ (end_here t (0 + length t) (omega arith)))

  pub accepted_render : (t : List ℕ) (s : SurveyText) → reading t lent ≡ answer s → Accepting lent t s
  unfolding reading survey_of_text
  accepted_render t s e =
      let f = outcome_found (survey_at tests t) e in
      let g = survey_content tests t s f.0 f.1 in
      let w = (reads_content tests (never_malformed lent)).sound t 0 g.content g.next (omega arith) g.found_it in
      let m = w.member in
      let l = g.last in
      let x = w.ends in
      record {
        groups = g.content.groups;
        pairs = g.content.pairs;
        edges = g.content.edges;
        within = accepted_within lent m;
        room = accepted_room lent m;
        word = sym (take_all (0 + length w.word) t (omega arith)) ∙ w.stands.is ∙ m.word;
        says = g.says ∙ (λ i. survey_of (record { vertices = m.vertices i; edges = m.edges i }) g.content.groups g.content.pairs g.content.edges);
      }

formed_well : {x : SurveyContent} {w : List ℕ} → Formed x w → WellFormed w
formed_well {x} m = record { groups = x.groups; pairs = x.pairs; edges = x.edges; few_groups = m.some_vertices; few_edges = m.some_edges; each_group = m.each_group; few_pairs = m.each_pair; each_edge = m.each_edge; word = m.word }

well_content : {t : List ℕ} → WellFormed t → SurveyContent
well_content w = content_from w.groups w.pairs w.edges

well_formed : {t : List ℕ} (w : WellFormed t) → Formed (well_content w) t
unfolding well_content
well_formed w = record { vertices = refl; edges = refl; some_vertices = w.few_groups; some_edges = w.few_edges; each_group = w.each_group; each_pair = w.few_pairs; each_edge = w.each_edge; word = w.word }

end_refused : (t : List ℕ) (q n p : ℕ) → end_at t q ≡ refused n p → (q < length t) × (p ≡ q)
end_refused t q n p e = by_test (leb (length t) q) refl
  where
    by_test : (b : Bool) → leb (length t) q ≡ b → (q < length t) × (p ≡ q)
    by_test true h = let z : ◌≡◌ {A = ℕ} 0 1 = cc (end_here t q (leb-true (length t) q h)) in absurd (omega arith)
    by_test false h = (leb-false (length t) q h, cc (end_later t q (leb-false (length t) q h)))

-- Where 16 comes from: a line, or a byte after the last line.
data Malformed (tests : Tests) (t : List ℕ) (p : ℕ) : Type 0 where
  in_line_law : content_at tests t 0 ≡ refused 16 p → Malformed tests t p
  after_lines : (x : SurveyContent) → content_at tests t 0 ≡ found x p → p < length t → Malformed tests t p

malformed : (tests : Tests) (t : List ℕ) (p : ℕ) → survey_at tests t ≡ refused 16 p → Malformed tests t p
unfolding ◌then◌
malformed tests t p e = by_content (content_at tests t 0) refl (sym (content_survey_law tests t) ∙ e)
  where
    by_end : (x : SurveyContent) (q : ℕ) (s : Step ℕ) → content_at tests t 0 ≡ found x q → end_at t q ≡ s → (s then λ z q. found (content_survey x) q) ≡ refused 16 p → Malformed tests t p
    by_end x q (found z r) h k e = let w : ◌≡◌ {A = ℕ} 0 1 = cc in absurd (omega arith)
    by_end x q (refused n r) h k e =
        let a = end_refused t q n r k in
        let b : r ≡ p = cc in
        let c : q ≡ p = sym a.1 ∙ b in
        after_lines x (h ∙ ap (λ (i : ℕ). found x i) c) (subst (λ (i : ℕ). i < length t) c a.0)

    by_content : (s : Step SurveyContent) → content_at tests t 0 ≡ s → (s then λ x p. end_at t p then λ z q. found (content_survey x) q) ≡ refused 16 p → Malformed tests t p
    by_content (found x q) h e = by_end x q (end_at t q) h refl e
    by_content (refused n r) h e = in_line_law (h ∙ (λ i. refused (number e i) (place e i)))
      where
        number : ◌≡◌ {A = Step SurveyText} (refused n r) (refused 16 p) → n ≡ 16
        number e = cc

        place : ◌≡◌ {A = Step SurveyText} (refused n r) (refused 16 p) → r ≡ p
        place e = cc

module _ (lent : Lengths) (t : List ℕ) (p : ℕ) (e : reading t lent ≡ refusal 16 p) where
  abbrev tests' : Tests
  tests' = tests_for lent

  reads : ReadsBefore NoAlso (content_at tests') (Accepted tests') Formed
  reads = reads_content tests' (never_malformed lent)

  why : Malformed tests' t p
  unfolding reading
  why = malformed tests' t p (outcome_refused (survey_at tests' t) e)

  -- The bytes before the place of 16 begin a well-formed text.
  pub malformed_begins : Begins t p
  malformed_begins = by_place why
    where
      by_place : Malformed tests' t p → Begins t p
      by_place (in_line_law h) =
          let x = reads.extends t 0 p (omega arith) h in
          record { inside = (reads.place t 0 p (omega arith) h).1; rest = x.rest; well = subst WellFormed (sym x.whole) (formed_well x.member) }
      by_place (after_lines x h l) =
          let w = reads.sound t 0 x p (omega arith) h in
          let end : take p t ≡ w.word = ap (λ (k : ℕ). take k t) w.ends ∙ w.stands.is in
          record { inside = omega arith; rest = []; well = subst WellFormed (sym (append-nil (take p t) ∙ end)) (formed_well (reads.well x w.word w.member)) }

  -- With the byte at that place they begin none.
  pub malformed_stops : p < length t → (rest : List ℕ) → WellFormed (take (p + 1) t ++ rest) → ⊥
  malformed_stops l rest w = by_place why (reads.not_malformed u 0 (well_content w) u (well_formed w) (stands_whole u) (byte_short u (0 + length u) also_letter (omega arith)))
    where
      u : List ℕ
      u = take (p + 1) t ++ rest

      n : length (take (p + 1) t) ≡ p + 1
      n = length-take-le (p + 1) t (omega arith)

      long : p + 1 ≤ length u
      long = let k = length-append (take (p + 1) t) rest in let m = n in omega arith

      same : take (p + 1) t ≡ take (p + 1) u
      same = sym (take_at (take (p + 1) t) rest (p + 1) n)

      by_place : Malformed tests' t p → NotMalformed (content_at tests' u 0) (well_content w) (0 + length u) → ⊥
      by_place (in_line_law h) (read q) = let z : ◌≡◌ {A = ℕ} 0 1 = cc (reads.same t u 0 p (omega arith) h same) in omega arith
      by_place (in_line_law h) (otherwise {n = i} {q = j} q k) = let z : 16 ≡ i = cc (reads.same t u 0 p (omega arith) h same) in k (sym z)
      by_place (after_lines x h i) y =
          by_found (reads.again t u 0 x p (omega arith) same h) y
        where
          by_found : content_at tests' u 0 ≡ found x p → NotMalformed (content_at tests' u 0) (well_content w) (0 + length u) → ⊥
          by_found c (read q) = let z : p ≡ 0 + length u = cc in let b = long in omega arith
          by_found c (otherwise q k) = let z : ◌≡◌ {A = ℕ} 0 1 = cc in omega arith

  -- The text itself is none.
  pub malformed_is_none : WellFormed t → ⊥
  malformed_is_none w = by_place why (reads.not_malformed t 0 (well_content w) t (well_formed w) (stands_whole t) (byte_short t (0 + length t) also_letter (omega arith)))
    where
      by_place : Malformed tests' t p → NotMalformed (content_at tests' t 0) (well_content w) (0 + length t) → ⊥
      by_place (in_line_law h) (read q) = let z : ◌≡◌ {A = ℕ} 0 1 = cc in omega arith
      by_place (in_line_law h) (otherwise {n = i} q k) = let z : 16 ≡ i = cc in k (sym z)
      by_place (after_lines x h l) (read q) = let z : p ≡ 0 + length t = cc in omega arith
      by_place (after_lines x h l) (otherwise q k) = let z : ◌≡◌ {A = ℕ} 0 1 = cc in omega arith
