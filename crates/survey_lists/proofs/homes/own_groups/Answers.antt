-- `own_groups` meets its contract: it stores at rising places.
use mathlib.Core.Path.{refl, ap, sym, ◌∙◌}
use lib.ListN.{length}
use Rattle.survey_lists.proofs.Laws.Room.{length_room, filled_start, filled_turn, filled_end}
use Rattle.survey_lists.proofs.homes.own_groups.Goals as goal

pub loop-v-init : goal.loop-v-init
loop-v-init c = filled_start _ _

pub slice_bounds-put-end : goal.slice_bounds-put-end
slice_bounds-put-end c = sym (ap length c.loop-v.invariant.made ∙ length_room _ _)

pub loop-v-preserved : goal.loop-v-preserved
loop-v-preserved c =
    filled_turn _ _ c.loop-v.invariant c.loop-v-test.true refl c.put.ensures

pub returns : goal.returns
returns c = filled_end _ _ c.loop-v.invariant c.loop-v-test.false
