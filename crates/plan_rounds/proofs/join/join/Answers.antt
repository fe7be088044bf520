-- `join` meets its contract: the loads are turned and the two values settled before the components are merged, the new value after.
use Rattle.std.proofs.Common.{refl}
use Rattle.plan_rounds.specs.Laws.Clock.{settled_three}
use Rattle.plan_rounds.specs.Laws.Loads.{turned_both, merged_both}
use Rattle.plan_rounds.proofs.join.join.Goals as goal

pub returns : goal.returns
returns c =
    let args = c.args in
    let x = c.at-x.ensures in
    let y = c.at-y.ensures in record { fact = merged_both _ _ _ _ x y c.joined_flag-flag.ensures (c.merge.ensures.labels_value, c.merge.ensures.flags_value); values_value = settled_three _ _ _ _ _ x y refl c.settle_both.ensures c.settle.ensures; loads_value = turned_both _ _ _ _ _ x y c.joined_flag-flag.ensures refl c.turn_both.ensures }
