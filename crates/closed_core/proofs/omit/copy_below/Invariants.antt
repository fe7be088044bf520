-- `copy_below` meets its contract: it stores at rising places, and below c old and new numbers are the same.
use Prim.Native.Nat.{◌≤◌, ◌-◌}
use mathlib.Core.Path.{◌≡◌}
use lib.ListN.{get_or}
use Rattle.base_buffer.specs.Store.{remade}
use Rattle.theory_steiner.specs.Closed.{skipping}
use Rattle.closed_core.proofs.omit.copy_below.Given as goal

abbrev pub invariant-loop-e : goal.invariant-loop-e
invariant-loop-e l = (l.e ≤ l.c) × (l.left ≡ remade (λ e x. get_or l.list (skipping l.c e) 0) l.e l.initial.left)
