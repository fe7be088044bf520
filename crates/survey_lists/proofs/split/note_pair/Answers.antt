-- `note_pair` meets its contract: the pair's group is noted with the label of its vertex.
use Rattle.survey_core.proofs.Laws.Pairs.{own_read}
use Rattle.survey_lists.proofs.Laws.Split.{noted_by}
use Rattle.survey_lists.proofs.split.note_pair.Goals as goal

pub returns : goal.returns
returns c =
    let args = c.args in
    noted_by
    args.table.now
    c.note_label.ensures
    c.pair_group-group.ensures
    (own_read args.labels.now (c.at.ensures) c.at-label.ensures)
