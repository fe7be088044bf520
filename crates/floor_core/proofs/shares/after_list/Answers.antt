-- `after_list` meets its contract: a group without a share has no list.
use Rattle.floor_core.specs.Laws.Shares.{list_none, list_some}
use Rattle.floor_core.proofs.shares.after_list.Goals as goal

pub returns-then-at-eq0 : goal.returns-then-at-eq0
returns-then-at-eq0 c = list_none _ _ _ _ _ _ c.at.ensures c.if-at-eq0.true

pub returns : goal.returns
returns c = list_some _ _ _ _ _ _ c.at.ensures c.if-at-eq0.false c.ascend-got.ensures c.lower.ensures
