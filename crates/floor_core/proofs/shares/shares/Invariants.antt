-- `shares` meets its contract: one list after the other, from the last group down.
use Prim.Native.Nat.{◌-◌}
use mathlib.Core.Path.{◌≡◌}
use Rattle.base_limits.specs.Limits.{group_numbers}
use Rattle.floor_rule.specs.Ascent.{shares_after}
use Rattle.floor_core.proofs.shares.shares.Given as goal

abbrev pub invariant-loop-k : goal.invariant-loop-k
invariant-loop-k l = l.share ≡ shares_after l.groups l.firsts l.seconds l.weights (group_numbers - l.k)
