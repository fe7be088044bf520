-- Reading by its two parts is reading; and what is read fits into the lent buffers.
use Rattle.std.specs.Prelude.{ℕ, ◌+◌, ◌≤◌, List, refl, drop}
use native.Mathlib.Omega.{arith}
use Rattle.std.proofs.Math.Path.{◌≡◌, ap, sym}
use Rattle.std.proofs.Common.{◌∙◌}
use Rattle.std.proofs.Math.ListN.{length}
use Rattle.std.proofs.lemmas.List.{length-map}
use Rattle.base_limits.specs.Limits.{max_vertices, count_digits}
use Rattle.base_limits.specs.Verdict.{Outcome, refusal, answer}
use Rattle.base_limits.specs.declared.Verdict.{Verdict}
use Rattle.base_limits.specs.declared.Verdict.TheVariants.{Fine, Refused}
use Rattle.format_read.specs.Bytes.{end_at}
use Rattle.format_read.proofs.Laws.Step.{then_found, then_refused, then_then, then_value, checked_fine, checked_value}
use Rattle.format_read.specs.Lines.{whole}
use Rattle.format_read.specs.Step.{Step, found, refused, ◌then◌, checked}
use Rattle.format_read.specs.Number.{number_line}
use Rattle.format_survey.proofs.Laws.Reading.{buffer_kept}
use Rattle.format_survey.specs.Reading.{filled}
use Rattle.format_survey.proofs.Laws.LinesBody.{sets_filled}
use Rattle.format_survey.proofs.Laws.Tests.{VerticesPass, EdgesPass, vertices_passed, edges_passed}
use Rattle.format_survey.specs.Line.{Edge, SurveyCounts, count_line, firsts_of, seconds_of, weights_of, vertices_test, edges_test}
use Rattle.format_stp.specs.StpKey.{nodes_word, edges_word}
use Rattle.format_stp.specs.StpReading.{StpContent, StpTests, stp_head, stp_edges, stp_body, terminal_section, count_then, stp_content, stp_whole, stp_tests, stp_number, stp_outcome, stp_reading}
use Rattle.format_stp.specs.StpWord.{empty_lines, after_empty, guarded}
use Rattle.format_stp.proofs.Laws.TerminalTurn.{each_then, end_within, from_zeros}
use Rattle.format_stp.specs.Terminals.{terminals_to_end}
use Rattle.format_stp.specs.Parts.{stp_counts, stp_lines, stored_by}
use Rattle.format_stp.proofs.Laws.Lines.{stored_by_law, groups_length, edges_length}

-- ---- the two parts together

-- From the counts to the end of the text.
abbrev rest : (n m : ℕ) → List ℕ → (at : ℕ) → Step StpContent
rest n m t at = stp_body n m t at then λ x p. after_empty end_at t p then λ z q. found x q

lines_rest : (n m : ℕ) (t : List ℕ) (at : ℕ) → n ≤ max_vertices → stp_lines n m t at ≡ rest n m t at
unfolding stp_lines stp_body ◌then◌
lines_rest n m t at h =
    each_then (whole (stp_edges n t m at)) (λ es p. ap (λ (s : Step (List ℕ)). s then λ gs q. found (record { vertices = n; edges = m; groups = gs; lines = es }) q) (end_within n t p h ∙ from_zeros n t p)
    ∙ then_then (terminal_section n t p) _ _ ∙ each_then (terminal_section n t p) (λ gs q. then_then (after_empty end_at t q) _ _) ∙ sym (then_then (terminal_section n t p) _ _))
    ∙ sym (then_then (whole (stp_edges n t m at)) _ _)

-- A test of a count, and what is read behind it where the test passes.
checked_then : {A : Type 0} (v : Verdict) (n p : ℕ) (next : ℕ → ℕ → Step A) → (checked v n p then next) ≡ guarded v (next n p)
unfolding checked guarded ◌then◌
checked_then Fine n p next = refl
checked_then (Refused i q) n p next = refl

count_then_law : {A : Type 0} (word : List ℕ) (test : ℕ → Verdict) (next : ℕ → List ℕ → ℕ → Step A) (t : List ℕ) (at : ℕ) → count_then word test next t at ≡ (after_empty (count_line word test) t at then λ n p. next n t p)
unfolding count_then after_empty count_line
count_then_law word test next t at =
    sym (then_then (after_empty (number_line word count_digits) t at) _ _ ∙ each_then (after_empty (number_line word count_digits) t at) (λ n p. checked_then (test n) n p (λ n p. next n t p)))

whole_parts : (tests : StpTests) (t : List ℕ) → stp_whole tests t ≡ (stp_counts tests t then λ c p. rest c.vertices c.edges t p)
unfolding stp_whole stp_content stp_counts ◌then◌
whole_parts tests t =
    then_then (stp_head t 0) _ _ ∙ each_then (stp_head t 0) (λ z a.
    ap (λ (s : Step StpContent). s then end) (count_then_law nodes_word tests.vertices (λ n. count_then edges_word tests.edges (λ m. stp_body n m)) t a)
    ∙ then_then (after_empty (count_line nodes_word tests.vertices) t a) _ _ ∙ each_then (after_empty (count_line nodes_word tests.vertices) t a) (λ n b.
    ap (λ (s : Step StpContent). s then end) (count_then_law edges_word tests.edges (λ m. stp_body n m) t b)
    ∙ then_then (after_empty (count_line edges_word tests.edges) t b) _ _ ∙ sym (then_then (after_empty (count_line edges_word tests.edges) t b) _ _))
    ∙ sym (then_then (after_empty (count_line nodes_word tests.vertices) t a) _ _))
    ∙ sym (then_then (stp_head t 0) _ _)
  where
    end : StpContent → ℕ → Step StpContent
    end x p = after_empty end_at t p then λ z q. found x q

-- ---- the outcome, by that of the counts and that of the lines behind them

count_fine : (key : List ℕ) (test : ℕ → Verdict) (t : List ℕ) (at : ℕ) {n p : ℕ} → count_line key test t at ≡ found n p → test n ≡ Fine
unfolding count_line
count_fine key test t at e =
    let f = then_value (number_line key count_digits t at) (λ n p. checked (test n) n p) e in
    ap test (sym (checked_value (test f.0) f.0 f.1 f.3)) ∙ checked_fine (test f.0) f.0 f.1 f.3

-- Values that the lent buffers have room for.
pub record StpRoomFits (gb fb sb wb : List ℕ) (x : StpContent) : Type 0 where
  pub groups : length x.groups ≤ length gb
  pub firsts : length (firsts_of x.lines) ≤ length fb
  pub seconds : length (seconds_of x.lines) ≤ length sb
  pub weights : length (weights_of x.lines) ≤ length wb

module _ (t gb fb sb wb : List ℕ) where
  abbrev pub tests : StpTests
  tests = stp_tests (length gb) (length fb) (length sb) (length wb)

  abbrev pub counts : (n m : ℕ) → SurveyCounts
  counts n m = record { vertices = n; edges = m }

  pub stp_refused : {i p : ℕ} → stp_counts tests t ≡ refused i p → stp_reading t gb fb sb wb ≡ refusal (stp_number i) p
  unfolding stp_reading stp_outcome
  stp_refused e = ap stp_outcome (whole_parts tests t ∙ then_refused _ e)

  module _ {n m at : ℕ} (e : stp_counts tests t ≡ found (counts n m) at) where
    passed : VerticesPass (length gb) n × EdgesPass (length fb) (length sb) (length wb) m
    unfolding stp_counts stp_tests after_empty
    passed =
        let a = then_value (stp_head t 0) _ e in
        let b = then_value (count_line nodes_word (vertices_test (length gb)) t _) _ a.3 in
        let c = then_value (count_line edges_word (edges_test (length fb) (length sb) (length wb)) t _) _ b.3 in
        let x : b.0 ≡ n = ap (λ (r : SurveyCounts). r.vertices) (value_of c.3) in
        let y : c.0 ≡ m = ap (λ (r : SurveyCounts). r.edges) (value_of c.3) in (
          vertices_passed (length gb) n (ap (vertices_test (length gb)) (sym x) ∙ count_fine nodes_word (vertices_test (length gb)) t _ b.2),
          edges_passed (length fb) (length sb) (length wb) m (ap (edges_test (length fb) (length sb) (length wb)) (sym y) ∙ count_fine edges_word (edges_test (length fb) (length sb) (length wb)) t _ c.2),
        )
      where
        value_of : {u v : SurveyCounts} {p q : ℕ} → ◌≡◌ {A = Step SurveyCounts} (found u p) (found v q) → u ≡ v
        value_of e = cc

    pub few_vertices : n ≤ max_vertices
    few_vertices = passed.0.most

    reading_is : stp_reading t gb fb sb wb ≡ stp_outcome (stp_lines n m t at)
    unfolding stp_reading
    reading_is = ap stp_outcome (whole_parts tests t ∙ then_found _ e ∙ sym (lines_rest n m t at few_vertices))

    pub stp_stopped : {i q : ℕ} → stp_lines n m t at ≡ refused i q → stp_reading t gb fb sb wb ≡ refusal (stp_number i) q
    unfolding stp_outcome
    stp_stopped f = reading_is ∙ ap stp_outcome f

    pub stp_found : {x : StpContent} {q : ℕ} → stp_lines n m t at ≡ found x q → stp_reading t gb fb sb wb ≡ answer x
    unfolding stp_outcome
    stp_found f = reading_is ∙ ap stp_outcome f

    -- What is read says the counts, and fits.
    pub stp_fits : {x : StpContent} {q : ℕ} → stp_lines n m t at ≡ found x q → (x.vertices ≡ n) × (x.edges ≡ m) × StpRoomFits gb fb sb wb x
    unfolding stp_lines whole firsts_of seconds_of weights_of
    stp_fits {x} {q} f =
        let a = then_value (whole (stp_edges n t m at)) _ f in
        let b = then_value (stp_edges n t m at).end _ a.2 in
        let c = then_value (terminals_to_end n t a.1) _ a.3 in
        let is : record { vertices = n; edges = m; groups = c.0; lines = a.0 } ≡ x = content_of c.3 in
        let es : (stp_edges n t m at).values ≡ a.0 = lines_of b.3 in
        let g : length x.groups ≡ n = ap (λ (r : StpContent). length r.groups) (sym is) ∙ groups_length n t a.1 few_vertices c.2 in
        let l : length x.lines ≡ m = ap (λ (r : StpContent). length r.lines) (sym is) ∙ ap length (sym es) ∙ edges_length n m t at b.2 in
        let p = passed in (
          ap (λ (r : StpContent). r.vertices) (sym is),
          ap (λ (r : StpContent). r.edges) (sym is),
          record {
            groups = at_most g p.0.room;
            firsts = at_most (length-map x.lines (λ e. e.first) ∙ l) p.1.first;
            seconds = at_most (length-map x.lines (λ e. e.second) ∙ l) p.1.second;
            weights = at_most (length-map x.lines (λ e. e.weight) ∙ l) p.1.weight;
          },
        )
      where
        at_most : {u v w : ℕ} → u ≡ v → v ≤ w → u ≤ w
        at_most e h = omega arith

        content_of : {u v : StpContent} {p q : ℕ} → ◌≡◌ {A = Step StpContent} (found u p) (found v q) → u ≡ v
        content_of e = cc

        lines_of : {u v : List Edge} {p q : ℕ} → ◌≡◌ {A = Step (List Edge)} (found u p) (found v q) → u ≡ v
        lines_of e = cc

-- ---- the buffers

module _ {s : Step StpContent} {o : Outcome StpContent} (values : StpContent → List ℕ) (old : List ℕ) where
  pub buffer_none : {i p j q : ℕ} → o ≡ refusal i p → s ≡ refused j q → stored_by s values old ≡ filled o values old
  unfolding stored_by
  buffer_none r e = ap (λ (x : Step StpContent). stored_by x values old) e ∙ buffer_kept values old r

  pub buffer_all : {x : StpContent} {q : ℕ} → o ≡ answer x → s ≡ found x q → length (values x) ≤ length old → stored_by s values old ≡ filled o values old
  unfolding filled
  buffer_all {x} r e h = sym (stored_by_law values old e) ∙ sets_filled (values x) old h ∙ sym (ap (λ (y : Outcome StpContent). filled y values old) r)

-- ---- a line behind empty lines, as the code reads it

pub line_after : (line : List ℕ → ℕ → Step ℕ) (t : List ℕ) (at : ℕ) {k : ℕ} {s : Step ℕ} → k ≡ at + empty_lines (drop at t) → s ≡ line t k → s ≡ after_empty line t at
unfolding after_empty
line_after line t at e h = h ∙ ap (line t) e
