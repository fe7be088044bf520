-- `is_chosen` meets its contract: an arm for each set.
use Rattle.survey_components.specs.Labels.{chosen_mark}
use Rattle.survey_components.proofs.is_chosen.Goals as goal

pub returns-in-All : goal.returns-in-All
unfolding chosen_mark
returns-in-All c = rw c.in-All.is

pub returns-in-Kept : goal.returns-in-Kept
unfolding chosen_mark
returns-in-Kept c = rw c.in-Kept.is c.is_kept.ensures
