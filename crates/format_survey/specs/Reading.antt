-- Reading a whole survey text (document 01, 'Survey text and printed plan'; document 02, No. 2): the counts, the lines after them, and the end.
use Rattle.std.specs.Prelude.{ℕ, List, ◌++◌, length, drop}
use Rattle.base_limits.specs.Verdict.{Outcome, refusal, answer}
use Rattle.base_limits.specs.declared.Verdict.{Verdict}
use Rattle.format_also.specs.Pair.{Pair, owners_of, others_of}
use Rattle.format_survey.specs.Line.{Lengths, Tests, group_test, tests_for, Edge, firsts_of, seconds_of, weights_of, SurveyCounts, counts_at, SurveyLines, lines_of}
use Rattle.format_read.specs.Bytes.{end_at}
use Rattle.format_read.specs.Step.{Step, found, refused, ◌then◌}

-- The lines after the counts, to the end of the text.
unfoldable pub body_at : (ℕ → ℕ → Verdict) → (room : ℕ) → List ℕ → SurveyCounts → (at : ℕ) → SurveyLines
body_at test room t counts at =
    let lines = lines_of test room t counts at in
    record { groups = lines.groups; pairs = lines.pairs; edges = lines.edges; end = lines.end then λ k p. end_at t p then λ z q. found k q }

unfoldable pub body_of : (room : ℕ) → List ℕ → (vertices edges at : ℕ) → SurveyLines
body_of room t vertices edges at = body_at group_test room t (record { vertices = vertices; edges = edges }) at

-- What a text says: n and m, a group for each junction, two ends and a price for each track, and the pairs.
pub record SurveyText : Type 0 where
  pub vertices : ℕ
  pub edges : ℕ
  pub groups : List ℕ
  pub firsts : List ℕ
  pub seconds : List ℕ
  pub weights : List ℕ
  pub owners : List ℕ
  pub others : List ℕ

unfoldable pub survey_of : SurveyCounts → (groups : List ℕ) → (pairs : List Pair) → (edges : List Edge) → SurveyText
survey_of counts groups pairs edges =
    record {
      vertices = counts.vertices;
      edges = counts.edges;
      groups = groups;
      firsts = firsts_of edges;
      seconds = seconds_of edges;
      weights = weights_of edges;
      owners = owners_of pairs;
      others = others_of pairs;
    }

unfoldable pub survey_at : Tests → List ℕ → Step SurveyText
survey_at tests t =
    counts_at tests.vertices tests.edges t then λ counts p.
    let body = body_at tests.group tests.room t counts p in
    body.end then λ z q. found (survey_of counts body.groups body.pairs body.edges) q

unfoldable pub step_outcome : {A : Type 0} → Step A → Outcome A
step_outcome (found a next) = answer a
step_outcome (refused number place) = refusal number place

-- Of the lent buffers only the lengths matter.
unfoldable pub reading : List ℕ → Lengths → Outcome SurveyText
reading t lent = step_outcome (survey_at (tests_for lent) t)

-- What a lent buffer holds at the end: the values read and, behind them, what it held; a refusal writes nothing.
unfoldable pub filled : {A : Type 0} → Outcome A → (A → List ℕ) → (old : List ℕ) → List ℕ
filled (refusal number place) values old = old
filled (answer said) values old = values said ++ drop (length (values said)) old
