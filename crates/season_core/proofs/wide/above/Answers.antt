-- `above` meets its contract: by the high words, and where they are equal by the low ones.
use borrow.Author.Rules.{rules}
use Rattle.season_core.specs.Laws.Columns.{high_above, high_below, same_high}
use Rattle.season_core.proofs.wide.above.Goals as goal

pub returns-then-y-x : goal.returns-then-y-x
returns-then-y-x c =
    high_above c.times-x.result.high c.times-x.result.low c.times-y.result.high c.times-y.result.low (search rules) (search rules) c.times-x.ensures c.times-y.ensures (search rules)

pub returns-then-x-y : goal.returns-then-x-y
returns-then-x-y c =
    high_below c.times-x.result.high c.times-x.result.low c.times-y.result.high c.times-y.result.low (search rules) (search rules) c.times-x.ensures c.times-y.ensures (search rules)

pub returns : goal.returns
returns c =
    same_high c.times-x.result.high c.times-x.result.low c.times-y.result.high c.times-y.result.low (search rules) (search rules) c.times-x.ensures c.times-y.ensures (search rules) (search rules)
