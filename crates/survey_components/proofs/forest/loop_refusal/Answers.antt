-- `loop_refusal` meets its contract: a scan of the picked tracks, which leaves the trees whose roots decide about the groups.
use mathlib.Core.Path.{refl, ◌∙◌}
use Rattle.base_limits.specs.Limits.{max_vertices}
use Rattle.base_buffer.proofs.Laws.Store.{remade_table}
use Rattle.survey_components.specs.Laws.Forest.{joining_start, joining_found, joining_turn, joining_long, joining_end}
use native.Mathlib.Omega.{arith}
use Rattle.survey_components.proofs.forest.loop_refusal.Goals as goal

pub loop-e-init : goal.loop-e-init
loop-e-init c =
    joining_start _ _ _ _ c.requires (c.own_labels.ensures ∙ remade_table (λ v x. v) max_vertices _ (λ v. v) refl (λ v b. refl))

pub slice_bounds-labels-end : goal.slice_bounds-labels-end
slice_bounds-labels-end c =
    let few = c.requires.few in
    omega (arith, c.loop-e.invariant.long)

-- 21
pub returns-in_default : goal.returns-in_default
returns-in_default c =
    joining_found _ _ _ _ c.requires c.loop-e.invariant c.loop-e-test.true c.join_picked-found.ensures.closed c.in_default.is

pub loop-e-preserved : goal.loop-e-preserved
loop-e-preserved c =
    joining_turn _ _ _ _ c.requires c.loop-e.invariant c.loop-e-test.true c.join_picked-found.ensures.closed c.in-Fine.is
    c.join_picked-found.ensures.joined

pub slice_bounds-labels-end-2 : goal.slice_bounds-labels-end-2
slice_bounds-labels-end-2 c =
    let few = c.requires.few in
    omega (arith, c.loop-e.invariant.long)

pub slice_bounds-split_refusal-end : goal.slice_bounds-split_refusal-end
slice_bounds-split_refusal-end c = joining_long _ _ _ _ c.requires c.loop-e.invariant c.loop-e-test.false c.level.ensures

-- a group, or nothing
pub returns : goal.returns
returns c = joining_end _ _ _ _ c.requires c.loop-e.invariant c.loop-e-test.false c.level.ensures c.split_refusal.ensures
