-- `homes` meets its contract: after i pairs the homes are those by the pairs below i.
use mathlib.Core.Path.{ap, sym, ◌∙◌}
use lib.ListN.{length}
use Rattle.base_finite.specs.Laws.Below.{length_tabulate}
use Rattle.base_limits.specs.Limits.{max_vertices}
use Rattle.survey_lists.proofs.Laws.Room.{housed_start, housed_turn, housed_end}
use Rattle.survey_lists.proofs.homes.homes.Goals as goal

pub loop-i-init : goal.loop-i-init
loop-i-init c = housed_start _ c.own_groups-housed.ensures

pub slice_bounds-note_home-end : goal.slice_bounds-note_home-end
slice_bounds-note_home-end c = sym (ap length c.loop-i.invariant.made ∙ length_tabulate max_vertices _)

pub loop-i-preserved : goal.loop-i-preserved
loop-i-preserved c =
    housed_turn _ c.loop-i.invariant c.loop-i-test.true c.at.ensures c.at-in-loop-i.ensures c.note_home.ensures

pub returns : goal.returns
returns c = housed_end _ c.loop-i.invariant c.loop-i-test.false
