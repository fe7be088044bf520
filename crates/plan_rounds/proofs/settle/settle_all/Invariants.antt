-- `settle_all` meets its contract: it stores at rising places.
use Rattle.std.proofs.Common.{◌≡◌, ◌≤◌, eqb, get_or}
use Rattle.base_buffer.specs.Store.{remade}
use Rattle.plan_search.specs.Held.{settled_by}
use Rattle.plan_rounds.proofs.settle.settle_all.Given as goal

abbrev pub invariant-loop-c : goal.invariant-loop-c
invariant-loop-c l = (l.c ≤ l.count) × (l.values ≡ remade (λ c x. settled_by l.time (eqb (get_or l.flags c 0) 1) x) l.c l.initial.values)
