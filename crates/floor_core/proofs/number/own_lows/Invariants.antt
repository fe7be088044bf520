-- `own_lows` meets its contract: one vertex after the other.
use Rattle.floor_core.specs.Tables.{OwnLows}
use Rattle.floor_core.proofs.number.own_lows.Given as goal

abbrev pub invariant-loop-v : goal.invariant-loop-v
invariant-loop-v l = OwnLows l.poured l.groups l.v l.lows
