-- `mates` meets its contract: before each turn the table holds the last members below v, and the mates below v are stored; from the end of the groups on each is its own.
use mathlib.Core.Path.{refl, ap, sym, ◌∙◌}
use lib.ListN.{length}
use native.Mathlib.Omega.{arith}
use Rattle.base_finite.specs.Laws.Below.{length_tabulate}
use Rattle.base_limits.specs.Limits.{max_vertices, group_numbers}
use Rattle.base_buffer.specs.Store.{remade}
use Rattle.base_buffer.proofs.Laws.Store.{remade_more, replicate_table}
use Rattle.survey_groups.specs.Laws.Mate.{last_none, last_step, mate_read, mate_past, mates_stored}
use Rattle.survey_groups.proofs.mates.mates.Goals as goal

pub loop-v-init : goal.loop-v-init
unfolding remade
loop-v-init c = (replicate_table group_numbers 0 ∙ last_none _, refl)

pub slice_bounds-at-end : goal.slice_bounds-at-end
slice_bounds-at-end c = sym (ap length c.loop-v.invariant.0 ∙ length_tabulate group_numbers _)

pub loop-v-preserved : goal.loop-v-preserved
loop-v-preserved c =
    let group = c.at-group.ensures in
    let bytes = c.type_inv.groups c.loop-v.v in (
      last_step _ _ c.loop-v.invariant.0 c.note_last.ensures group refl,
      remade_more _ _ _ _ _ c.loop-v.invariant.1
          (c.mate.ensures ∙ mate_read _ _ c.loop-v.invariant.0 c.at.ensures (c.from.ensures ∙ group) (omega (arith, bytes))),
    )

pub returns : goal.returns
returns c =
    mates_stored _ max_vertices c.loop-v.v c.own_mates-mates.ensures (omega arith)
    (λ v b l. mate_past _ v (omega arith))
    c.loop-v.invariant.1
