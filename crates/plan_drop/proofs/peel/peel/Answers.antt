-- `peel` meets its contract: after k vertices the buffers are those of the definition, and behind the last nothing changes.
use Rattle.std.proofs.Common.{ap, arith}
use Rattle.base_limits.specs.Limits.{max_vertices}
use Rattle.plan_drop.specs.Peel.{Peel}
use Rattle.plan_drop.specs.Laws.Peel.{peel_more, peel_start, peel_few, peel_end}
use Rattle.plan_drop.proofs.peel.peel.Goals as goal

pub loop-k-init : goal.loop-k-init
loop-k-init c = (omega arith, peel_start max_vertices _ _ _ _ _ c.note_edges.ensures.marks_value c.queue_leaves-count.ensures)

pub loop-k-smaller : goal.loop-k-smaller
loop-k-smaller c = omega (arith, peel_few max_vertices _ _ _ _ _ _ c.loop-k.invariant.1)

pub loop-k-preserved : goal.loop-k-preserved
loop-k-preserved c = (
  omega (arith, peel_few max_vertices _ _ _ _ _ _ c.loop-k.invariant.1),
  peel_more max_vertices _ _ c.loop-k.invariant.1 c.loop-k-test.true c.take_leaf-count.ensures,
)

pub returns : goal.returns
returns c =
    let end = peel_end max_vertices _ _ _ _ _ _ c.loop-k.invariant.0 c.loop-k.invariant.1 c.loop-k-test.false in
    (ap (λ (s : Peel). s.queue.count) end, ap (λ (s : Peel). s.queue.order) end, ap (λ (s : Peel). s.ends.others) end, ap (λ (s : Peel). s.ends.marks) end)
