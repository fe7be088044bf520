-- `ascent_floor` meets its contract: the sum of the shares, with the arcs linked once.
use mathlib.Core.Path.{refl}
use Rattle.floor_core.specs.Laws.Chain.{ends_room}
use Rattle.floor_core.specs.Laws.Shares.{shares_fit, floor_total}
use Rattle.floor_core.proofs.shares.ascent_floor.Goals as goal

pub chain-requires : goal.chain-requires
chain-requires c = record { arcs_value = refl; ends = ends_room _ _ c.requires; tops_value = refl }

pub total-requires : goal.total-requires
total-requires c = shares_fit _ _ _ _ c.requires.few c.requires.short _ c.shares-share.ensures

pub returns : goal.returns
returns c = floor_total _ _ _ _ c.shares-share.ensures c.total.ensures
