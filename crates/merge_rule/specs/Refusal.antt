-- What merging refuses, and what it answers and writes (document 02, No. 9), for any two surveys, any ties and result buffers of any length.
use Rattle.std.specs.Prelude.{ℕ, ◌||◌, not, ◌++◌, length, get_or, take, drop, eqb, ltb, leb}
use Rattle.base_limits.specs.Limits.{max_vertices, max_edges, max_pairs}
use Rattle.base_limits.specs.Verdict.{refuse_if, ◌before◌, lowest_below, Outcome, refusal, answer, outcome, written}
use Rattle.base_limits.specs.declared.Verdict.{Verdict}
use Rattle.survey_core.specs.Survey.{Survey, survey_with, vertex_count, edge_count}
use Rattle.survey_core.specs.Refusal.{survey_refusal}
use Rattle.merge_rule.specs.Ties.{Ties, is_tied_below}
use Rattle.merge_rule.specs.Merged.{merged}
use Rattle.merge_rule.specs.declared.Merged.{Merged}
use Rattle.merge_rule.specs.declared.Merged.TheVariants.{Finished, Refused}

-- n, m and the number of pairs: what merging answers of the result, and reading out wants of both surveys.
pub record SurveyCounts : Type 0 where
  pub vertices : ℕ
  pub edges : ℕ
  pub pairs : ℕ

abbrev pub counts_from : (vertices edges pairs : ℕ) → SurveyCounts
counts_from vertices edges pairs = record { vertices = vertices; edges = edges; pairs = pairs }

unfoldable pub counts_of : Survey → SurveyCounts
counts_of s = counts_from (vertex_count s) (edge_count s) (length s.owners)

-- The lengths of the six buffers that are lent for the result.
pub record Room : Type 0 where
  pub groups : ℕ
  pub firsts : ℕ
  pub seconds : ℕ
  pub weights : ℕ
  pub owners : ℕ
  pub others : ℕ

abbrev pub room_from : (groups firsts seconds weights owners others : ℕ) → Room
room_from groups firsts seconds weights owners others =
    record { groups = groups; firsts = firsts; seconds = seconds; weights = weights; owners = owners; others = others }

unfoldable pub room_of : Survey → Room
room_of out =
    room_from
    (length out.groups)
    (length out.firsts)
    (length out.seconds)
    (length out.weights)
    (length out.owners)
    (length out.others)

-- '22 is given at the lowest tie out of range or naming a junction already tied on that side'. Ties count from 0.
unfoldable pub tie_refusal : (n m : ℕ) → Ties → (i : ℕ) → Verdict
tie_refusal n m ties i =
    refuse_if (leb n (get_or ties.firsts i 0) || leb m (get_or ties.seconds i 0)) 22 i
    before refuse_if (is_tied_below ties.firsts i (get_or ties.firsts i 0)) 22 i
    before refuse_if (is_tied_below ties.seconds i (get_or ties.seconds i 0)) 22 i

-- 'then 2 and 22 for the ties'.
unfoldable pub ties_refusal : (n m : ℕ) → Ties → Verdict
ties_refusal n m ties =
    refuse_if (not (eqb (length ties.firsts) (length ties.seconds))) 2 0
    before lowest_below (length ties.firsts) (tie_refusal n m ties)

-- 'then for the result 1, 3, 18 with place 256 for a 257th pair'. It has a junction, since the first survey has.
unfoldable pub large_refusal : SurveyCounts → Verdict
large_refusal c =
    refuse_if (ltb max_vertices c.vertices) 1 0
    before refuse_if (ltb max_edges c.edges) 3 0
    before refuse_if (ltb max_pairs c.pairs) 18 max_pairs

-- 'and 7'.
unfoldable pub room_refusal : SurveyCounts → Room → Verdict
room_refusal c room =
    refuse_if (ltb room.groups c.vertices) 7 0
    before refuse_if (ltb room.firsts c.edges || ltb room.seconds c.edges || ltb room.weights c.edges) 7 0
    before refuse_if (ltb room.owners c.pairs || ltb room.others c.pairs) 7 0

-- 'The first survey's 1 to 6 and 18 come first, then the second's', then the ties', then the result's.
unfoldable pub merge_refusal : (a b : Survey) → Ties → Room → Verdict
merge_refusal a b ties room =
    survey_refusal a
    before survey_refusal b
    before ties_refusal (vertex_count a) (vertex_count b) ties
    before large_refusal (counts_of (merged a b ties))
    before room_refusal (counts_of (merged a b ties)) room

-- 'The answer is its n, m and number of pairs.'
unfoldable pub merging : (a b : Survey) → Ties → Room → Outcome SurveyCounts
merging a b ties room = outcome (merge_refusal a b ties room) (counts_of (merged a b ties))

-- What an answer says in the papers' numbers.
unfoldable pub merged_outcome : Merged → Outcome SurveyCounts
merged_outcome (Finished vertices edges pairs) = answer (counts_from vertices edges pairs)
merged_outcome (Refused number place) = refusal number place

-- A survey at the head of six buffers that are long enough: what is past its end keeps its values.
unfoldable pub over : Survey → (out : Survey) → Survey
over s out =
    survey_with
    (s.groups ++ drop (length s.groups) out.groups)
    (s.firsts ++ drop (length s.firsts) out.firsts)
    (s.seconds ++ drop (length s.seconds) out.seconds)
    (s.weights ++ drop (length s.weights) out.weights)
    (s.owners ++ drop (length s.owners) out.owners)
    (s.others ++ drop (length s.others) out.others)

-- The survey of these counts at the head of six buffers (law `result_stands`).
unfoldable pub head_of : SurveyCounts → (out : Survey) → Survey
head_of c out =
    survey_with
    (take c.vertices out.groups)
    (take c.edges out.firsts)
    (take c.edges out.seconds)
    (take c.edges out.weights)
    (take c.pairs out.owners)
    (take c.pairs out.others)

-- What the six buffers lent for the result hold at the end, each a field: a refusal writes nothing.
unfoldable pub merged_after : (a b : Survey) → Ties → (out : Survey) → Survey
merged_after a b ties out = written (merge_refusal a b ties (room_of out)) (over (merged a b ties) out) out
