-- `is_any_parted` meets its contract: before each turn none of the first k listed is parted from its mate.
use mathlib.Core.Path.{refl, sym}
use lib.ListN.{get_or}
use native.Mathlib.Omega.{arith}
use Rattle.base_finite.specs.Below.{any_below}
use Rattle.base_finite.specs.Laws.Below.{any_intro}
use Rattle.base_finite.specs.Laws.Count.{any_more, any_end}
use Rattle.plan_active.specs.Flags.{apart_from_mate}
use Rattle.plan_active.specs.Laws.Merged.{apart_by}
use Rattle.plan_active.proofs.parted.is_any_parted.Goals as goal

pub loop-k-init : goal.loop-k-init
unfolding any_below
loop-k-init c = (omega arith, refl)

-- found
pub returns-then-is_parted : goal.returns-then-is_parted
returns-then-is_parted c =
    let args = c.args in
    sym
    (any_intro args.count (λ k. apart_from_mate args.mates.now args.labels.now args.x args.y (get_or args.members.now k 0)) c.loop-k.k (omega arith)
    (apart_by args.mates.now args.labels.now args.x args.y c.is_parted.ensures c.at.ensures c.if-is_parted.true))

pub loop-k-preserved : goal.loop-k-preserved
loop-k-preserved c =
    let args = c.args in (
      omega arith,
      any_more c.loop-k.k (λ k. apart_from_mate args.mates.now args.labels.now args.x args.y (get_or args.members.now k 0)) c.loop-k.invariant.1
          (apart_by args.mates.now args.labels.now args.x args.y c.is_parted.ensures c.at.ensures c.if-is_parted.false),
    )

-- none
pub returns : goal.returns
returns c = sym (any_end _ c.loop-k.k _ (omega arith) (omega arith) c.loop-k.invariant.1)
