-- `end_at` meets its contract: what it reads, read by read.
use mathlib.Core.Path.{refl}
use Rattle.plan_search.proofs.Laws.Between.{end_read}
use Rattle.plan_search.proofs.delay.end_at.Goals as goal

pub returns : goal.returns
returns c =
    end_read _ _ _ _ _ c.at-label.ensures refl c.at-flag.ensures c.at.ensures c.settled-load.ensures
