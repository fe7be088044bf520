-- `lent_on` meets its contract: nothing where the counts do not fit, else the whole.
use Rattle.api_code.specs.Laws.Lending.{lent_none, lent_whole}
use Rattle.api_code.proofs.lent_on.Goals as goal

pub returns-then-long-wanted : goal.returns-then-long-wanted
returns-then-long-wanted c = lent_none _ _ _ c.if-long-wanted.true

pub returns : goal.returns
returns c = lent_whole _ _ _ c.if-long-wanted.false
