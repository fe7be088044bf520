-- `loop_refusal` meets its contract: a scan of the picked tracks, which leaves the trees whose roots decide about the groups.
use Rattle.survey_components.specs.Laws.Forest.{Joining}
use Rattle.survey_components.proofs.forest.loop_refusal.Given as goal

abbrev pub invariant-loop-e : goal.invariant-loop-e
invariant-loop-e l = Joining l.groups l.firsts l.seconds l.picked l.labels l.e
