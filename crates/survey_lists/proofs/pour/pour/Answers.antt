-- `pour` meets its contract: without pairs nothing is poured.
use Rattle.survey_core.specs.Lists.{lists_from}
use Rattle.survey_lists.proofs.Laws.Room.{unpaired_room}
use Rattle.survey_lists.proofs.pour.pour.Goals as goal

pub returns-then-owners-eq0 : goal.returns-then-owners-eq0
returns-then-owners-eq0 c =
    let args = c.args in
    unpaired_room (lists_from args.groups.now args.owners.now args.others.now) c.if-owners-eq0.true c.own_groups.ensures
