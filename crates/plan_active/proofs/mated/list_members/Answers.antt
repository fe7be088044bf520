-- `list_members` meets its contract: before each turn the members below v are listed and counted.
use mathlib.Core.Path.{refl}
use native.Mathlib.Omega.{arith}
use Rattle.base_finite.specs.Below.{sum_below, count_below}
use Rattle.base_finite.specs.Laws.Below.{count_le}
use Rattle.base_finite.specs.Laws.Count.{count_end}
use Rattle.plan_active.specs.Flags.{has_mate, gathered}
use Rattle.plan_active.specs.Laws.Listed.{count_next, gathered_more, gathered_end}
use Rattle.plan_active.proofs.mated.list_members.Goals as goal

pub loop-v-init : goal.loop-v-init
unfolding count_below sum_below gathered
loop-v-init c = (omega arith, refl, refl)

pub list_vertex-count-requires : goal.list_vertex-count-requires
list_vertex-count-requires c =
    omega (arith, c.loop-v.invariant.1, count_le c.loop-v.v (has_mate c.args.mates.now))

pub loop-v-preserved : goal.loop-v-preserved
loop-v-preserved c =
    let t = has_mate c.args.mates.now in (
      omega arith,
      count_next c.loop-v.v t c.loop-v.invariant.1 c.list_vertex-count.ensures.value,
      gathered_more t c.args.members.now c.loop-v.v c.loop-v.invariant.2 c.loop-v.invariant.1 c.list_vertex-count.ensures.members_value,
    )

pub returns : goal.returns
returns c =
    let t = has_mate c.args.mates.now in
    record { value = count_end c.args.n c.loop-v.v t (omega arith) (omega arith) c.loop-v.invariant.1; members_value = gathered_end t _ c.args.n c.loop-v.v (omega arith) (omega arith) c.loop-v.invariant.2 }
