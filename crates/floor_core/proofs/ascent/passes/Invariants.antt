-- `passes` meets its contract: passes until one changes nothing, or so many.
use mathlib.Core.Path.{◌≡◌}
use lib.ListN.{length}
use Rattle.floor_rule.specs.Ascent.{state_with, passes}
use Rattle.floor_core.specs.Done.{Done}
use Rattle.floor_core.proofs.ascent.passes.Given as goal

abbrev pub invariant-loop : goal.invariant-loop
invariant-loop l = (state_with l.rests l.got ≡ passes l.groups l.firsts l.seconds l.share l.root l.k l.counter (state_with l.initial.rests l.initial.got)) × Done l.firsts l.seconds (length l.groups) l.root l.rests l.done
