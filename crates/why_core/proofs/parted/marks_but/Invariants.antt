-- `marks_but` meets its contract: it stores at rising places.
use mathlib.Core.Path.{◌≡◌}
use lib.ListN.{replicate}
use Rattle.base_finite.specs.Below.{counted}
use Rattle.base_limits.specs.Limits.{max_edges}
use Rattle.base_buffer.specs.Store.{remade}
use Rattle.why_core.specs.Parted.{least_mark, marked_but}
use Rattle.why_core.proofs.parted.marks_but.Given as goal

abbrev pub invariant-loop-e : goal.invariant-loop-e
invariant-loop-e l =
    l.chosen ≡ remade (λ e x. counted (marked_but l.marks (least_mark l.set) l.out e) 2) l.e (replicate max_edges 0)
