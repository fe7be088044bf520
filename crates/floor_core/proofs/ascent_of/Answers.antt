-- `ascent_of` meets its contract: the poured lists, numbered.
use Rattle.survey_core.specs.Survey.{survey_with}
use Rattle.floor_core.specs.Laws.Number.{ascent_is, numbered_ends}
use borrow.Author.Rules.{rules}
use Rattle.floor_core.proofs.ascent_of.Goals as goal

pub slice_bounds-numbered-end : goal.slice_bounds-numbered-end
slice_bounds-numbered-end c = let few = c.requires.few in search (rules, few)

pub slice_bounds-ascent_floor-end : goal.slice_bounds-ascent_floor-end
slice_bounds-ascent_floor-end c = let few = c.requires.few in search (rules, few)

pub ascent_floor-requires : goal.ascent_floor-requires
ascent_floor-requires c = numbered_ends (survey_with c.args.groups.now c.args.firsts.now c.args.seconds.now c.args.weights.now c.args.owners.now c.args.others.now) c.requires.few c.pour-poured.ensures c.numbered-room.ensures c.requires

pub returns : goal.returns
returns c = ascent_is (survey_with c.args.groups.now c.args.firsts.now c.args.seconds.now c.args.weights.now c.args.owners.now c.args.others.now) c.requires.few c.pour-poured.ensures c.numbered-room.ensures c.ascent_floor.ensures
