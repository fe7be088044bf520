-- `poured_plan` meets its contract: 8 without a place (`plan_parted`), or the plan's counts, marks and moats (`plan_joined`).
use mathlib.Core.Path.{refl, ap, sym, ◌∙◌}
use lib.ListN.{length}
use borrow.Author.Tests.{not-true, not-false}
use Rattle.base_finite.specs.Laws.Below.{length_tabulate}
use Rattle.base_limits.specs.Limits.{max_vertices, max_duals}
use Rattle.survey_core.specs.Survey.{edge_count}
use Rattle.check_core.specs.Cost.{kept_cost_all}
use Rattle.plan_rule.specs.Answer.{planned_outcome}
use Rattle.plan_rule.proofs.Laws.Same.{plan_terminals}
use Rattle.plan_core.specs.Laws.Whole.{plan_parted, plan_joined}
use Rattle.plan_core.proofs.whole.poured_plan.Goals as goal

pub grow_marks-marked-requires : goal.grow_marks-marked-requires
unfolding edge_count
grow_marks-marked-requires c = record { survey_sound = c.requires.survey; values_value = (refl, refl); firsts_in_bounds = c.requires.marks_fit }

-- 8
pub returns-then-not-marked : goal.returns-then-not-marked
unfolding planned_outcome
returns-then-not-marked c =
    let parted = plan_parted _ _ _ c.requires c.grow_marks-marked.ensures (not-true _ c.if-not-marked.true) in
    record { result_value = parted.0; marks_value = c.grow_marks-marked.ensures.marks_are; records_value = parted.1 }

pub slice_bounds-draw-end : goal.slice_bounds-draw-end
slice_bounds-draw-end c = sym (ap length c.grow_marks-marked.ensures.grew.values_are ∙ length_tabulate max_duals _)

pub slice_bounds-draw-end-2 : goal.slice_bounds-draw-end-2
slice_bounds-draw-end-2 c = sym (ap length c.grow_marks-marked.ensures.grew.order_is ∙ length_tabulate max_vertices _)

-- finished
pub returns : goal.returns
unfolding planned_outcome
returns c =
    let joined =
    plan_joined _ _ _ c.requires c.grow_marks-marked.ensures (not-false _ c.if-not-marked.false) (c.terminals.ensures ∙ plan_terminals _ _ _ _)
    (kept_cost_all _ _ _ c.requires.survey.edges_few c.kept_cost.ensures) refl c.draw-duals.ensures.count refl c.draw-duals.ensures.written in
    record { result_value = joined.0; marks_value = c.grow_marks-marked.ensures.marks_are; records_value = joined.1 }
