-- `shares` meets its contract: one list after the other, from the last group down.
use Prim.Native.Nat.{◌+◌, ◌-◌}
use native.Mathlib.Omega.{arith}
use mathlib.Core.Path.{◌≡◌, ap, ◌∙◌}
use Rattle.base_limits.specs.Limits.{group_numbers}
use Rattle.floor_rule.specs.Ascent.{shares_after}
use Rattle.floor_core.specs.Laws.Shares.{shares_more, shares_end}
use Rattle.floor_core.proofs.shares.shares.Goals as goal

pub loop-k-init : goal.loop-k-init
unfolding shares_after
loop-k-init c = c.first_shares-share.ensures

pub loop-k-preserved : goal.loop-k-preserved
loop-k-preserved c =
    let lists = group_numbers - c.loop-k.k in
    let e : lists + 1 ≡ group_numbers - (c.loop-k.k - 1) = omega arith in
    shares_more _ _ _ _ lists c.loop-k.invariant (omega arith) c.after_list.ensures ∙ ap (shares_after _ _ _ _) e

pub returns : goal.returns
returns c = shares_end _ _ _ _ (group_numbers - c.loop-k.k) (omega arith) (omega arith) c.loop-k.invariant
