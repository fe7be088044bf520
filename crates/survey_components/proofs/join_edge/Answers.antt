-- `join_edge` meets its contract: a branch on whether the edge is in the set.
use Rattle.survey_components.specs.Labels.{chosen}
use Rattle.survey_components.proofs.join_edge.Goals as goal

pub returns-then-is_chosen : goal.returns-then-is_chosen
unfolding chosen
returns-then-is_chosen c = rw (← c.at.ensures, ← c.is_chosen.ensures, c.if-is_chosen.true) (rw (← c.at-then-is_chosen.ensures, ← c.at-then-is_chosen-2.ensures) c.join_ends.ensures)

pub returns-else-is_chosen : goal.returns-else-is_chosen
unfolding chosen
returns-else-is_chosen c = rw (← c.at.ensures, ← c.is_chosen.ensures, c.if-is_chosen.false)
