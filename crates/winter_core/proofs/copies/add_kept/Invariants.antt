-- `add_kept` meets its contract: it stores at rising places.
use Prim.Native.Nat.{◌≤◌, ◌+◌}
use mathlib.Core.Path.{◌≡◌}
use lib.ListN.{get_or}
use lib.Dec.{eqb}
use Rattle.base_finite.specs.Below.{counted}
use Rattle.base_buffer.specs.Store.{remade}
use Rattle.winter_core.proofs.copies.add_kept.Given as goal

abbrev pub invariant-loop-e : goal.invariant-loop-e
invariant-loop-e l =
    (l.e ≤ l.m) × (l.copies ≡ remade (λ e x. x + counted (eqb (get_or l.marks e 0) 2) l.power) l.e l.initial.copies)
