-- `sides` meets its contract: while it runs, the labels below v are the sides.
use mathlib.Core.Path.{◌≡◌}
use Rattle.base_finite.specs.Below.{counted}
use Rattle.format_record.specs.Record.{member_in}
use Rattle.base_buffer.specs.Store.{remade}
use Rattle.check_core.proofs.cuts.sides.Given as goal

abbrev pub invariant-loop-v : goal.invariant-loop-v
invariant-loop-v l = l.label-items ≡ remade (λ v x. counted (member_in l.part v) 1) l.v l.initial.label-items
