-- `look_at` meets its contract: the vertex is looked at, once.
use Rattle.floor_core.specs.Laws.Walk.{next_ready, look_again, look_next}
use Rattle.floor_core.proofs.walk.look_at.Goals as goal

pub returns-then-at-eq2 : goal.returns-then-at-eq2
returns-then-at-eq2 c = look_again _ _ _ _ _ _ _ _ _ c.at.ensures c.if-at-eq2.true

pub look-requires : goal.look-requires
look-requires c = let whole = next_ready _ _ _ _ _ _ _ _ _ c.requires c.at-2.ensures in record { vertices_le_max_vertices = whole.0; by_index = whole.1 }

pub returns : goal.returns
returns c =
    look_next _ _ _ _ _ _ _ _ _ c.at.ensures c.if-at-eq2.false c.put.ensures c.at-2.ensures c.look.ensures
