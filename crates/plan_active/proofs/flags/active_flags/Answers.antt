-- `active_flags` meets its contract: after v vertices the flags say which components those make active.
use mathlib.Core.Path.{refl, ap, sym, ◌∙◌}
use lib.ListN.{length, get_or}
use lib.Dec.{eqb}
use Rattle.base_finite.specs.Laws.Below.{length_tabulate}
use Rattle.base_limits.specs.Limits.{max_duals, group_numbers}
use Rattle.survey_core.specs.Survey.{vertex_count}
use Rattle.survey_groups.specs.Laws.Spread.{split_read}
use Rattle.base_buffer.proofs.Laws.Store.{replicate_table}
use Rattle.plan_active.specs.Flags.{active_flags}
use Rattle.plan_active.specs.Laws.Flags.{flags_none, flags_step, flags_end, flags_active}
use native.Mathlib.Omega.{arith}
use Rattle.plan_active.proofs.flags.active_flags.Goals as goal

pub loop-v-init : goal.loop-v-init
loop-v-init c = (omega arith, replicate_table max_duals 0 ∙ flags_none _ _)

pub slice_bounds-at-end : goal.slice_bounds-at-end
slice_bounds-at-end c = sym (ap length c.spreads-table.ensures ∙ length_tabulate group_numbers _)

pub loop-v-preserved : goal.loop-v-preserved
unfolding vertex_count
loop-v-preserved c = (
  omega arith,
  flags_step
      _
      _
      _
      _
      _
      c.loop-v.invariant.1
      c.flag_label.ensures
      (ap (λ x. eqb x 1) (c.at-summary.ensures ∙ ap (λ g. get_or c.spreads-table.result g 0) (c.from.ensures ∙ c.at.ensures))
      ∙ split_read _ _ c.spreads-table.ensures _ (omega arith))
      c.at-in-loop-v.ensures,
)

pub returns : goal.returns
unfolding vertex_count active_flags
returns c = c.loop-v.invariant.1 ∙ flags_end _ _ _ _ (omega arith) (omega arith) ∙ flags_active _ _ refl
