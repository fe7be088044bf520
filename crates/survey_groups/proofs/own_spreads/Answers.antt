-- `own_spreads` meets its contract: after v vertices the table holds the groups over the vertices below v.
use mathlib.Core.Path.{refl, ap, sym, ◌∙◌}
use lib.ListN.{length}
use Rattle.base_finite.specs.Laws.Below.{length_tabulate}
use Rattle.base_limits.specs.Limits.{group_numbers}
use Rattle.survey_groups.specs.Laws.Spread.{spread_step, spread_none, spread_end}
use Rattle.base_buffer.proofs.Laws.Store.{replicate_table}
use native.Mathlib.Omega.{arith}
use Rattle.survey_groups.proofs.own_spreads.Goals as goal

pub loop-v-init : goal.loop-v-init
loop-v-init c = (omega arith, replicate_table group_numbers 0 ∙ spread_none _ _)

pub slice_bounds-note-end : goal.slice_bounds-note-end
slice_bounds-note-end c = sym (ap length c.loop-v.invariant.1 ∙ length_tabulate group_numbers _)

pub loop-v-preserved : goal.loop-v-preserved
loop-v-preserved c =
    (omega arith, spread_step _ refl _ _ c.loop-v.invariant.1 c.note.ensures refl refl (omega arith))

pub returns : goal.returns
returns c = c.loop-v.invariant.1 ∙ spread_end _ _ _ _ (omega arith) (omega arith)
