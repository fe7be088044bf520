-- `visit_members` meets its contract: one vertex after the other.
use mathlib.Core.Path.{◌≡◌}
use mathlib.Core.Bool.{false}
use lib.ListN.{length}
use Rattle.floor_rule.specs.Ascent.{state_with, visit_members}
use Rattle.floor_core.specs.Done.{Done}
use Rattle.floor_core.proofs.ascent.visit_members.Given as goal

abbrev pub invariant-loop-v : goal.invariant-loop-v
invariant-loop-v l = (state_with l.rests l.got ≡ visit_members l.groups l.firsts l.seconds l.share l.root l.l l.v (state_with l.initial.rests l.initial.got)) × (l.more ≡ false → (l.before ≡ false) × (state_with l.rests l.got ≡ state_with l.initial.rests l.initial.got)) × Done l.firsts l.seconds (length l.groups) l.root l.rests l.done
