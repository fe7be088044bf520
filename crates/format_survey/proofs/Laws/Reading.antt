-- Laws of reading a whole text: its outcome by the outcome of its parts, and what an accepted text says of the lent buffers.
use Rattle.std.specs.Prelude.{ℕ, ◌≤◌, min, ◌≡◌, List, length}
use native.Mathlib.Omega.{arith}
use Rattle.std.proofs.Common.{ap, ◌∙◌}
use Rattle.std.proofs.Math.Path.{sym}
use Rattle.std.proofs.Math.ListN.{length-map}
use Rattle.format_survey.proofs.Laws.LinesBody.{lines_sizes, lines_room}
use Rattle.base_limits.specs.Limits.{max_vertices}
use Rattle.base_limits.specs.Verdict.{Outcome, refusal, answer}
use Rattle.format_also.specs.Pair.{owners_of, others_of}
use Rattle.format_read.specs.Step.{Step, found, refused, ◌then◌}
use Rattle.format_survey.specs.Line.{Lengths, pair_room, tests_for, SurveyCounts, counts_at, firsts_of, seconds_of, weights_of, SurveyLines, lines_of, lines_at}
use Rattle.format_survey.specs.Reading.{body_at, body_of, survey_of, survey_at, step_outcome, reading, filled}
use Rattle.format_read.specs.Bytes.{end_at}
use Rattle.format_read.proofs.Laws.Step.{then_value}
use Rattle.format_survey.proofs.Laws.Tests.{counts_passed}

-- A buffer at the end, by the outcome.
module _ {A : Type 0} {o : Outcome A} (values : A → List ℕ) where
  pub buffer_kept : {n p : ℕ} (old : List ℕ) → o ≡ refusal n p → old ≡ filled o values old
  unfolding filled
  buffer_kept old r = sym (ap (λ x. filled x values old) r)

-- Values that lent buffers have room for, and how many pairs there are.
pub record Fits (b : SurveyLines) (lent : Lengths) (pairs : ℕ) : Type 0 where
  pub groups : length b.groups ≤ lent.groups
  pub firsts : length (firsts_of b.edges) ≤ lent.firsts
  pub seconds : length (seconds_of b.edges) ≤ lent.seconds
  pub weights : length (weights_of b.edges) ≤ lent.weights
  pub owners : length (owners_of b.pairs) ≤ lent.owners
  pub others : length (others_of b.pairs) ≤ lent.others
  pub count : length (owners_of b.pairs) ≡ pairs

-- The outcome, by that of the counts and that of the lines after them.
module _ (t : List ℕ) (lent : Lengths) where
  abbrev counts_read : Step SurveyCounts
  counts_read = counts_at (tests_for lent).vertices (tests_for lent).edges t

  abbrev body : (n m at : ℕ) → SurveyLines
  body n m at = body_of (pair_room lent) t n m at

  pub reading_refused : {n p : ℕ} → counts_read ≡ refused n p → reading t lent ≡ refusal n p
  unfolding reading survey_at step_outcome ◌then◌
  reading_refused e = rw e

  pub reading_stopped : {n m at number place : ℕ} → counts_read ≡ found (record { vertices = n; edges = m }) at → (body n m at).end ≡ refused number place → reading t lent ≡ refusal number place
  unfolding reading survey_at step_outcome ◌then◌ tests_for body_of
  reading_stopped e f = rw (e, f)

  pub reading_found : {n m at k p : ℕ} → counts_read ≡ found (record { vertices = n; edges = m }) at → (body n m at).end ≡ found k p
      → reading t lent ≡ answer (survey_of (record { vertices = n; edges = m }) (body n m at).groups (body n m at).pairs (body n m at).edges)
  unfolding reading survey_at step_outcome ◌then◌ tests_for body_of
  reading_found e f = rw (e, f)

  -- What is read fits into the lent buffers.
  pub lines_fit : {n m at k p : ℕ} → counts_read ≡ found (record { vertices = n; edges = m }) at → (body n m at).end ≡ found k p → Fits (body n m at) lent k
  unfolding body_of body_at lines_at lines_of firsts_of seconds_of weights_of owners_of others_of
  lines_fit {n} {m} {at} {k} e b =
      let fit = counts_passed lent t e in
      let lines = then_value (lines_at (pair_room lent) t n m at).end (λ k q. end_at t q then λ z r. found k r) b in
      let end = then_value (end_at t lines.1) (λ z r. found lines.0 r) lines.3 in
      let same : lines.0 ≡ k = cc end.3 in
      let size = lines_sizes (pair_room lent) t n m at lines.2 in
      let es = (body n m at).edges in
      let ps = (body n m at).pairs in
      let few = lines_room (pair_room lent) t n m at in
      record {
        groups = at_most size.groups fit.vertices.room;
        firsts = at_most (length-map es (λ x. x.first) ∙ size.edges) fit.edges.first;
        seconds = at_most (length-map es (λ x. x.second) ∙ size.edges) fit.edges.second;
        weights = at_most (length-map es (λ x. x.weight) ∙ size.edges) fit.edges.weight;
        owners = least_left (length-map ps (λ x. x.owner)) few;
        others = least_right (length-map ps (λ x. x.other)) few;
        count = length-map ps (λ x. x.owner) ∙ size.pairs ∙ same;
      }
    where
      at_most : {x y z : ℕ} → x ≡ y → y ≤ z → x ≤ z
      at_most e h = omega arith

      least_left : {x y : ℕ} → x ≡ y → y ≤ min lent.owners lent.others → x ≤ lent.owners
      least_left e h = omega arith

      least_right : {x y : ℕ} → x ≡ y → y ≤ min lent.owners lent.others → x ≤ lent.others
      least_right e h = omega arith

  -- The counts that are read are within the limits and the group buffer.
  pub counts_read_fit : {n m at : ℕ} → counts_read ≡ found (record { vertices = n; edges = m }) at → (n ≤ max_vertices) × (n ≤ lent.groups)
  counts_read_fit e = let fit = counts_passed lent t e in (fit.vertices.most, fit.vertices.room)
