-- `large_refusal` meets its contract: each return by its test.
use borrow.Author.Tests.{lt-ltb, le-ltb}
use Rattle.base_limits.specs.Limits.{max_vertices, max_edges, max_pairs}
use Rattle.base_limits.specs.Verdict.{refuse_if, ◌before◌}
use Rattle.merge_rule.specs.Refusal.{large_refusal}
use Rattle.merge_core.proofs.counts.large_refusal.Goals as goal

-- 1
pub returns-then-vertices-gt-MAX_VERTICES : goal.returns-then-vertices-gt-MAX_VERTICES
unfolding large_refusal refuse_if ◌before◌
returns-then-vertices-gt-MAX_VERTICES c = rw (lt-ltb max_vertices _ c.if-vertices-gt-MAX_VERTICES.true)

-- 3
pub returns-then-edges-gt-MAX_EDGES : goal.returns-then-edges-gt-MAX_EDGES
unfolding large_refusal refuse_if ◌before◌
returns-then-edges-gt-MAX_EDGES c = rw (le-ltb max_vertices _ c.if-vertices-gt-MAX_VERTICES.false, lt-ltb max_edges _ c.if-edges-gt-MAX_EDGES.true)

-- 18
pub returns-then-pairs-gt-MAX_PAIRS : goal.returns-then-pairs-gt-MAX_PAIRS
unfolding large_refusal refuse_if ◌before◌
returns-then-pairs-gt-MAX_PAIRS c = rw (le-ltb max_vertices _ c.if-vertices-gt-MAX_VERTICES.false, le-ltb max_edges _ c.if-edges-gt-MAX_EDGES.false, lt-ltb max_pairs _ c.if-pairs-gt-MAX_PAIRS.true)

pub returns : goal.returns
unfolding large_refusal refuse_if ◌before◌
returns c = rw (le-ltb max_vertices _ c.if-vertices-gt-MAX_VERTICES.false, le-ltb max_edges _ c.if-edges-gt-MAX_EDGES.false, le-ltb max_pairs _ c.if-pairs-gt-MAX_PAIRS.false)
