-- `find_round` meets its contract: before each turn the labels are those of r picks, and none of them links the ends.
use Prim.Native.Nat.{ℕ}
use mathlib.Core.Path.{ap, sym, ◌∙◌}
use lib.ListN.{length, replicate, length-replicate}
use Rattle.base_finite.specs.Laws.Below.{length_tabulate}
use Rattle.base_limits.specs.Limits.{max_vertices}
use Rattle.why_core.specs.Laws.Replay.{own_after, joined_at_once, replay_start, replay_turn, replay_found, replay_end}
use Rattle.why_core.proofs.round.find_round.Goals as goal

pub slice_bounds-are_joined-end : goal.slice_bounds-are_joined-end
slice_bounds-are_joined-end c = sym (ap length (own_after c.args.firsts.now c.args.seconds.now c.args.order.now c.args.e c.requires (replicate max_vertices 0) (length-replicate {A = ℕ} max_vertices 0) c.own_labels.ensures) ∙ length_tabulate max_vertices _)

-- the ends of the edge are one
pub returns-then-are_joined : goal.returns-then-are_joined
returns-then-are_joined c = joined_at_once c.args.firsts.now c.args.seconds.now c.args.order.now c.args.e c.requires (own_after c.args.firsts.now c.args.seconds.now c.args.order.now c.args.e c.requires (replicate max_vertices 0) (length-replicate {A = ℕ} max_vertices 0) c.own_labels.ensures) c.are_joined.ensures c.if-are_joined.true

pub loop-r-init : goal.loop-r-init
loop-r-init c = replay_start c.args.firsts.now c.args.seconds.now c.args.order.now c.args.e c.requires (own_after c.args.firsts.now c.args.seconds.now c.args.order.now c.args.e c.requires (replicate max_vertices 0) (length-replicate {A = ℕ} max_vertices 0) c.own_labels.ensures) c.are_joined.ensures c.if-are_joined.false

pub slice_bounds-merge_pick-end : goal.slice_bounds-merge_pick-end
slice_bounds-merge_pick-end c = sym (ap length c.loop-r.invariant.labels_are ∙ length_tabulate max_vertices _)

pub slice_bounds-are_joined-end-in-loop-r : goal.slice_bounds-are_joined-end-in-loop-r
slice_bounds-are_joined-end-in-loop-r c = sym (c.merge_pick.auto.labels ∙ ap length c.loop-r.invariant.labels_are ∙ length_tabulate max_vertices _)

-- linked by this pick
pub returns-then-are_joined-2 : goal.returns-then-are_joined-2
returns-then-are_joined-2 c = replay_found c.args.firsts.now c.args.seconds.now c.args.order.now c.args.e c.requires c.loop-r.invariant c.loop-r-test.true c.merge_pick.ensures c.are_joined-in-loop-r.ensures c.if-are_joined-2.true

pub loop-r-preserved : goal.loop-r-preserved
loop-r-preserved c = replay_turn c.args.firsts.now c.args.seconds.now c.args.order.now c.args.e c.requires c.loop-r.invariant c.loop-r-test.true c.merge_pick.ensures c.are_joined-in-loop-r.ensures c.if-are_joined-2.false

-- never
pub returns : goal.returns
returns c = replay_end c.args.firsts.now c.args.seconds.now c.args.order.now c.args.e c.requires c.loop-r.invariant c.loop-r-test.false
