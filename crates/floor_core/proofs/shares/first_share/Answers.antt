-- `first_share` meets its contract, case by case.
use Rattle.floor_core.specs.Laws.Shares.{share_none, share_alone, share_company}
use Rattle.floor_core.proofs.shares.first_share.Goals as goal

pub returns-then-l-eq0 : goal.returns-then-l-eq0
returns-then-l-eq0 c = share_none c.args.counts.now _ c.if-l-eq0.true

pub returns-then-at-le1 : goal.returns-then-at-le1
returns-then-at-le1 c = share_alone c.args.counts.now _ c.if-l-eq0.false c.at.ensures c.if-at-le1.true

pub returns : goal.returns
returns c = share_company c.args.counts.now _ c.if-l-eq0.false c.at.ensures c.if-at-le1.false
