-- `peel` meets its contract: after k vertices the buffers are those of the definition, and behind the last nothing changes.
use Rattle.std.proofs.Common.{◌≡◌, ◌-◌, ◌≤◌, length, get_or}
use Rattle.base_limits.specs.Limits.{max_vertices}
use Rattle.survey_components.specs.Labels.{picked_in}
use Rattle.plan_drop.specs.Peel.{ends_of, queue_of, peel_of, leaves_taken, unpeeled}
use Rattle.plan_drop.proofs.peel.peel.Given as goal

abbrev pub invariant-loop-k : goal.invariant-loop-k
invariant-loop-k l =
    (l.k ≤ max_vertices)
    × (peel_of (ends_of l.degrees l.others l.marks) (queue_of l.order l.count)
    ≡ leaves_taken max_vertices l.k (unpeeled max_vertices l.n (λ e. get_or l.firsts e 0) (λ e. get_or l.seconds e 0) (picked_in l.picked) (length l.firsts)))

abbrev pub decreases-loop-k : goal.decreases-loop-k
decreases-loop-k l = max_vertices - l.k
