-- `note` meets its contract: the lower of two numbers is stored.
use Rattle.floor_core.specs.Laws.Number.{noted_at}
use Rattle.floor_core.proofs.number.note.Goals as goal

pub returns : goal.returns
returns c = noted_at c.args.lows.now _ _ c.from.ensures c.at.ensures c.lower_number-low.ensures c.from-2.ensures c.put.ensures
