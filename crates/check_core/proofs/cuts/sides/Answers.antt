-- `sides` meets its contract: while it runs, the labels below v are the sides.
use mir.Val.{bool_byte}
use native.Mathlib.Omega.{arith}
use mathlib.Core.Path.{refl, ap, ◌∙◌}
use lib.ListN.{length-replicate}
use Rattle.std.specs.Prelude.{ℕ, ◌≡◌, Bool, true, false}
use Rattle.base_finite.specs.Below.{counted}
use Rattle.base_limits.specs.Limits.{max_vertices}
use Rattle.base_buffer.proofs.Laws.Store.{remade_more, stored_table}
use Rattle.base_buffer.specs.Store.{remade}
use Rattle.check_core.proofs.cuts.sides.Goals as goal

as_counted : (t : Bool) → bool_byte t ≡ counted t 1
unfolding counted
as_counted true = refl
as_counted false = refl

pub loop-v-init : goal.loop-v-init
unfolding remade
loop-v-init c = refl

pub loop-v-preserved : goal.loop-v-preserved
loop-v-preserved c = remade_more _ _ _ _ _ c.loop-v.invariant (c.from.ensures ∙ as_counted _ ∙ ap (λ t. counted t 1) c.member.ensures)

pub returns : goal.returns
returns c = stored_table _ max_vertices c.loop-v.v _ _ (omega arith) (omega arith) (length-replicate {A = ℕ} max_vertices 0) (λ k b. refl) c.loop-v.invariant
