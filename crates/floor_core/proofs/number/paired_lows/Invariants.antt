-- `paired_lows` meets its contract: one pair after the other.
use Rattle.floor_core.specs.Tables.{PairedLows}
use Rattle.floor_core.proofs.number.paired_lows.Given as goal

abbrev pub invariant-loop-i : goal.invariant-loop-i
invariant-loop-i l = PairedLows l.poured l.groups l.owners l.others l.i l.lows
