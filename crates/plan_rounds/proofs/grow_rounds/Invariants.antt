-- `grow_rounds` meets its contract: before each turn the arrays represent the state of the definition.
use Rattle.std.proofs.Common.{◌-◌}
use Rattle.survey_core.specs.Survey.{survey_from}
use Rattle.plan_active.specs.Flags.{MatesListed}
use Rattle.plan_rounds.specs.Represents.{arrays_from, Represents}
use Rattle.plan_rounds.proofs.grow_rounds.Given as goal

abbrev pub invariant-loop-r : goal.invariant-loop-r
invariant-loop-r l =
    Represents (survey_from l.groups l.firsts l.seconds l.weights) l.r l.time (arrays_from l.labels l.loads l.values l.picked l.order l.keys l.floors l.flags) × MatesListed l.groups l.mates l.members l.count

abbrev pub decreases-loop-r : goal.decreases-loop-r
decreases-loop-r l =
    l.most - l.r
