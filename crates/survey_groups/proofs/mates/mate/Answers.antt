-- `mate` meets its contract: each return by its test.
use mathlib.Core.Path.{sym}
use native.Mathlib.Omega.{arith}
use Rattle.survey_groups.specs.Laws.Mate.{mate_none, mate_some}
use Rattle.survey_groups.proofs.mates.mate.Goals as goal

-- none was noted
pub returns-then-last-eq0 : goal.returns-then-last-eq0
returns-then-last-eq0 c = sym (mate_none _ c.if-last-eq0.true)

pub returns : goal.returns
returns c = let some = c.if-last-eq0.false in sym (mate_some _ _ (omega arith))
