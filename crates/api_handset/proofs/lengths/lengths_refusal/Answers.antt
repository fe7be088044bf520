-- `lengths_refusal` meets its contract: one test after the other.
use mathlib.Core.Path.{sym, ◌∙◌}
use Rattle.api_handset.proofs.Laws.Lengths.{size_none, size_many, found_ragged, found_uneven, found_many, found_none}
use Rattle.api_handset.proofs.lengths.lengths_refusal.Goals as goal

-- 1: no vertex
pub returns-then-groups-eq0 : goal.returns-then-groups-eq0
returns-then-groups-eq0 c = size_none _ _ _ _ _ _ c.if-groups-eq0.true

-- 1: too many
pub returns-then-groups-gt-MAX_VERTICES : goal.returns-then-groups-gt-MAX_VERTICES
returns-then-groups-gt-MAX_VERTICES c = size_many _ _ _ _ _ _ c.if-groups-eq0.false c.if-groups-gt-MAX_VERTICES.true

-- 2: not a multiple of four long
pub returns-then-any_ragged : goal.returns-then-any_ragged
returns-then-any_ragged c =
    found_ragged _ _ _ _ _ _ c.if-groups-eq0.false c.if-groups-gt-MAX_VERTICES.false
    (sym c.any_ragged.ensures ∙ c.if-any_ragged.true)

-- 2: not side by side
pub returns-then-are_uneven : goal.returns-then-are_uneven
returns-then-are_uneven c =
    found_uneven _ _ _ _ _ _ c.if-groups-eq0.false c.if-groups-gt-MAX_VERTICES.false (sym c.any_ragged.ensures ∙ c.if-any_ragged.false)
    (sym c.are_uneven.ensures ∙ c.if-are_uneven.true)

-- 3
pub returns-then-firsts-gt-MAX_EDGES : goal.returns-then-firsts-gt-MAX_EDGES
returns-then-firsts-gt-MAX_EDGES c =
    found_many _ _ _ _ _ _ c.if-groups-eq0.false c.if-groups-gt-MAX_VERTICES.false
    (sym c.any_ragged.ensures ∙ c.if-any_ragged.false)
    (sym c.are_uneven.ensures ∙ c.if-are_uneven.false) c.if-firsts-gt-MAX_EDGES.true

-- nothing
pub returns : goal.returns
returns c =
    found_none _ _ _ _ _ _ c.if-groups-eq0.false c.if-groups-gt-MAX_VERTICES.false
    (sym c.any_ragged.ensures ∙ c.if-any_ragged.false)
    (sym c.are_uneven.ensures ∙ c.if-are_uneven.false) c.if-firsts-gt-MAX_EDGES.false
