-- `queue_leaves` meets its contract: after v vertices the order is that of the definition.
use Rattle.std.proofs.Common.{◌≡◌}
use Rattle.base_limits.specs.Limits.{max_vertices}
use Rattle.plan_drop.specs.Peel.{queue_of, leaves_queued}
use Rattle.plan_drop.proofs.peel.queue_leaves.Given as goal

abbrev pub invariant-loop-v : goal.invariant-loop-v
invariant-loop-v l =
    queue_of l.order l.count ≡ leaves_queued max_vertices l.degrees l.v (queue_of l.initial.order 0)
