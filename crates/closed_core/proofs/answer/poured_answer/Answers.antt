-- `poured_answer` meets its contract: the growth's picks and its bound are the plan's.
use mathlib.Core.Path.{refl}
use Rattle.theory_steiner.specs.Growth.{grown}
use Rattle.theory_steiner.specs.Pruning.{picked}
use Rattle.survey_core.specs.Survey.{vertex_count, problem_of}
use Rattle.plan_rule.specs.Plan.{plan_of}
use Rattle.closed_core.proofs.answer.poured_answer.Goals as goal

pub grow_rounds-grown-requires : goal.grow_rounds-grown-requires
grow_rounds-grown-requires c = record { survey_sound = c.requires; values_value = (refl, refl, refl) }

pub kept_alone-requires : goal.kept_alone-requires
unfolding picked grown problem_of vertex_count plan_of
kept_alone-requires c =
    record { survey_sound = c.requires; picks_value = c.grow_rounds-grown.ensures.picked_are; bound_value = c.grow_rounds-grown.ensures.bound_is }
