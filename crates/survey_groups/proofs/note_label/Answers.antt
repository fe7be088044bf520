-- `note_label` meets its contract: `note` with the label as it is.
use Rattle.survey_groups.proofs.note_label.Goals as goal

pub returns : goal.returns
returns c = rw (← c.from.ensures) c.note.ensures
