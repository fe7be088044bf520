-- `pass` meets its contract: one group after the other.
use mathlib.Core.Path.{◌≡◌}
use mathlib.Core.Bool.{false}
use lib.ListN.{length}
use Rattle.floor_rule.specs.Ascent.{state_with, visit_groups}
use Rattle.floor_core.specs.Done.{Done}
use Rattle.floor_core.proofs.ascent.pass.Given as goal

abbrev pub invariant-loop-l : goal.invariant-loop-l
invariant-loop-l l = (state_with l.rests l.got ≡ visit_groups l.groups l.firsts l.seconds l.share l.root l.k l.l (state_with l.initial.rests l.initial.got)) × (l.more ≡ false → state_with l.rests l.got ≡ state_with l.initial.rests l.initial.got) × Done l.firsts l.seconds (length l.groups) l.root l.rests l.done
