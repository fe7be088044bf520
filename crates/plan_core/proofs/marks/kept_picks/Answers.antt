-- `kept_picks` meets its contract: it stores at rising places.
use Prim.Native.Nat.{ℕ}
use mathlib.Core.Path.{refl, ap, sym, ◌∙◌}
use mathlib.Core.Path.{◌≡◌}
use Prim.Native.Nat.{◌*◌}
use mathlib.Core.Bool.{Bool, true, false}
use Rattle.std.specs.Int.{from_bool}
use Rattle.base_finite.specs.Below.{counted}
use lib.ListN.{length, replicate, length-replicate}
use Rattle.base_limits.specs.Limits.{max_edges}
use Rattle.base_buffer.specs.Store.{remade}
use Rattle.base_buffer.proofs.Laws.Store.{length_remade, remade_more, remade_end}
use Rattle.plan_core.proofs.marks.kept_picks.Goals as goal

-- 2 for a picked track, else 0
twice : (F : Bool) {t : Bool} {one : ℕ} → t ≡ F → one ≡ from_bool t → 2 * one ≡ counted F 2
unfolding counted
twice true e o = rw (o, e)
twice false e o = rw (o, e)

pub loop-e-init : goal.loop-e-init
unfolding remade
loop-e-init c = refl

pub slice_bounds-put-end : goal.slice_bounds-put-end
slice_bounds-put-end c = sym (ap length c.loop-e.invariant ∙ length_remade _ _ (replicate max_edges 0) ∙ length-replicate {A = ℕ} max_edges 0)

pub loop-e-preserved : goal.loop-e-preserved
loop-e-preserved c =
    c.put.ensures ∙ remade_more _ _ _ _ _ c.loop-e.invariant (twice _ c.is_picked.ensures c.from.ensures)

pub returns : goal.returns
returns c = c.loop-e.invariant ∙ remade_end _ _ _ _ c.loop-e.auto.e-end c.loop-e-test.false
