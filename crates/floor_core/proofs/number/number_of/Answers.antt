-- `number_of` meets its contract, case by case.
use Rattle.floor_core.specs.Laws.Number.{number_none, number_some}
use Rattle.floor_core.proofs.number.number_of.Goals as goal

pub returns-then-c-eq0 : goal.returns-then-c-eq0
returns-then-c-eq0 c = number_none c.args.lows.now _ c.if-c-eq0.true

pub returns : goal.returns
returns c = number_some c.args.lows.now _ c.if-c-eq0.false c.from.ensures c.at.ensures
