-- `ascend` meets its contract: all passes over the prices, with no vertex done at first.
use mathlib.Core.Path.{refl}
use Rattle.floor_core.specs.Laws.State.{ascended_is}
use Rattle.floor_core.specs.Laws.Done.{none_done}
use Rattle.floor_core.proofs.ascent.ascend.Goals as goal

pub passes-requires : goal.passes-requires
passes-requires c = record { ends = c.requires.ends; chained = c.requires.chained; done = none_done _ _ _ _ _ c.requires.ends.few refl }

pub returns : goal.returns
returns c = ascended_is _ _ _ _ _ _ c.prices-rests.ensures c.root_of-root.ensures refl c.passes.ensures
