-- `copy_above` meets its contract: it stores at rising places, and from c on the old number is one more.
use Prim.Native.Nat.{◌≤◌, ◌-◌}
use mathlib.Core.Path.{◌≡◌}
use lib.ListN.{get_or, replicate}
use Rattle.base_limits.specs.Limits.{max_edges}
use Rattle.base_buffer.specs.Store.{remade}
use Rattle.theory_steiner.specs.Closed.{skipping}
use Rattle.closed_core.proofs.omit.copy_above.Given as goal

abbrev pub invariant-loop-e : goal.invariant-loop-e
invariant-loop-e l = ((l.c ≤ l.e) × (l.e ≤ l.count)) × (l.left ≡ remade (λ e x. get_or l.list (skipping l.c e) 0) l.e (replicate max_edges 0))
