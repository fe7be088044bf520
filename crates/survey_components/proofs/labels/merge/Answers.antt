-- `merge` meets its contract: the two labels are read, then relabelled.
use Rattle.survey_components.proofs.labels.merge.Goals as goal

pub returns : goal.returns
returns c = rw (← c.at-x.ensures, ← c.at-y.ensures) c.relabel.ensures
