-- `read_call` meets its contract: what `read` answers where so much of the group buffer is lent on.
use Rattle.api_code.specs.Laws.Lending.{lent_le}
use Rattle.api_read.specs.Laws.Call.{read_into}
use Rattle.api_read.proofs.read_call.Goals as goal

pub slice_bounds-read-end : goal.slice_bounds-read-end
slice_bounds-read-end c = lent_le _ _ _ c.lent_on-room.ensures

pub returns : goal.returns
returns c =
    let a = c.args in
    let whole = read_into a.text.now a.groups.now a.firsts.now a.seconds.now a.weights.now a.owners.now a.others.now a.counts.now c.lent_on-room.ensures
    record {
      told = c.read-answer.ensures.result_value;
      groups_read = c.read-answer.ensures.groups_value;
      firsts_read = c.read-answer.ensures.firsts_value;
      seconds_read = c.read-answer.ensures.seconds_value;
      weights_read = c.read-answer.ensures.weights_value;
      owners_read = c.read-answer.ensures.owners_value;
      others_read = c.read-answer.ensures.others_value;
    }
    c.read_code.ensures.value
    c.read_code.ensures.counts_value in record { code = whole.0; groups = whole.1.0; firsts = whole.1.1.0; seconds = whole.1.1.1.0; weights = whole.1.1.1.1.0; owners = whole.1.1.1.1.1.0; others = whole.1.1.1.1.1.1.0; counts = whole.1.1.1.1.1.1.1 }

pub shape_of-groups : goal.shape_of-groups
shape_of-groups c = c.groups-1.given.1

pub shape_of-firsts : goal.shape_of-firsts
shape_of-firsts c = c.firsts-1.given

pub shape_of-seconds : goal.shape_of-seconds
shape_of-seconds c = c.seconds-1.given

pub shape_of-weights : goal.shape_of-weights
shape_of-weights c = c.weights-1.given

pub shape_of-owners : goal.shape_of-owners
shape_of-owners c = c.owners-1.given

pub shape_of-others : goal.shape_of-others
shape_of-others c = c.others-1.given

pub shape_of-counts : goal.shape_of-counts
shape_of-counts c = c.counts-1.given
