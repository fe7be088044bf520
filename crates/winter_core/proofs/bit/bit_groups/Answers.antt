-- `bit_groups` meets its contract: it stores at rising places.
use Prim.Native.Nat.{ℕ}
use native.Mathlib.Omega.{arith}
use mathlib.Core.Path.{refl, ap, sym, ◌∙◌}
use lib.ListN.{length, replicate, length-replicate}
use Rattle.base_limits.specs.Limits.{max_vertices}
use Rattle.base_buffer.specs.Store.{remade}
use Rattle.base_buffer.proofs.Laws.Store.{length_remade, remade_more, remade_end}
use Rattle.winter_core.proofs.Laws.Call.{group_at}
use Rattle.winter_core.proofs.bit.bit_groups.Goals as goal

pub loop-v-init : goal.loop-v-init
unfolding remade
loop-v-init c =
    refl

pub slice_bounds-put-end : goal.slice_bounds-put-end
slice_bounds-put-end c =
    sym (ap length c.loop-v.invariant ∙ length_remade _ _ (replicate max_vertices 0) ∙ length-replicate {A = ℕ} max_vertices 0)

pub loop-v-preserved : goal.loop-v-preserved
loop-v-preserved c =
    let a = c.args in
    c.put.ensures ∙ remade_more _ _ _ _ _ c.loop-v.invariant (group_at a.strengths.now a.bit refl c.bit_group.ensures)

pub returns : goal.returns
returns c =
    c.loop-v.invariant ∙ remade_end _ _ _ _ (omega arith) (omega arith)
