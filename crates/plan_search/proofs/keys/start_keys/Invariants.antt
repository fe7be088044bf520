-- `start_keys` meets its contract: it stores at rising places.
use Prim.Native.Nat.{◌≤◌}
use mathlib.Core.Path.{◌≡◌}
use lib.ListN.{length}
use Rattle.base_buffer.specs.Store.{remade}
use Rattle.plan_search.specs.Keys.{start_key_of}
use Rattle.plan_search.proofs.keys.start_keys.Given as goal

abbrev pub invariant-loop-e : goal.invariant-loop-e
invariant-loop-e l =
    (l.e ≤ length l.firsts) × (l.keys ≡ remade (λ e x. start_key_of l.firsts l.seconds l.weights l.flags e) l.e l.initial.keys)
