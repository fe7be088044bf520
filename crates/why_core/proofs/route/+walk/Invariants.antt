-- `walk`: fewer vertices are unvisited at each call; before each turn the edges below e lead to visited vertices, and nothing is stored yet.
use Rattle.std.proofs.Common.{◌≡◌, length}
use Rattle.survey_components.specs.Labels.{picked_in}
use Rattle.why_core.specs.Visit.{end_in}
use Rattle.why_core.specs.Walk.{unvisited}
use Rattle.why_core.specs.Laws.Walk.{Walking}
use Rattle.why_core.proofs.route.+walk.Given as goal

abbrev pub decreases-walk : goal.decreases-walk
decreases-walk l = unvisited l.visited.now

abbrev pub invariant-loop-e : goal.invariant-loop-e
invariant-loop-e l =
    Walking (end_in l.firsts) (end_in l.seconds) (picked_in l.kept) l.v l.goal (length l.firsts) l.initial.visited l.visited l.e × (l.route ≡ l.initial.route)
