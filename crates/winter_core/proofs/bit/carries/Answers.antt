-- `carries` meets its contract: the bit of the group's strength.
use Rattle.winter_core.proofs.Laws.Call.{carries_read}
use Rattle.winter_core.proofs.bit.carries.Goals as goal

pub returns : goal.returns
returns c =
    let a = c.args in
    carries_read a.strengths.now a.bit a.group c.strength_of.ensures c.has_bit.ensures
