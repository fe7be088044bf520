-- `label_components` meets its contract: after e edges there are the trees of the edges below e.
use Prim.Native.Nat.{◌≤◌}
use lib.ListN.{length, get_or}
use Rattle.theory_graph.specs.Component.{components}
use Rattle.base_limits.specs.Limits.{max_vertices}
use Rattle.survey_components.specs.Labels.{chosen}
use Rattle.survey_components.specs.Laws.Roots.{Trees}
use Rattle.survey_components.proofs.label_components.Given as goal

abbrev pub invariant-loop-e : goal.invariant-loop-e
invariant-loop-e l =
    (l.e ≤ length l.firsts)
    × Trees (length l.initial.labels) (components max_vertices (λ e. get_or l.firsts e 0) (λ e. get_or l.seconds e 0) (chosen l.set l.marks) l.e) l.e l.labels
