-- `strength_of` meets its contract: group 1 stands first.
use Rattle.winter_core.proofs.Laws.Call.{strength_none, strength_some}
use Rattle.winter_core.proofs.bit.strength_of.Goals as goal

pub returns-then-group-lt1 : goal.returns-then-group-lt1
returns-then-group-lt1 c =
    strength_none c.args.strengths.now c.if-group-lt1.true c.at.ensures

pub returns : goal.returns
returns c =
    strength_some c.args.strengths.now c.from.ensures c.at-2.ensures
