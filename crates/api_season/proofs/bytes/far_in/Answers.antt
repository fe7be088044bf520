-- `far_in` meets its contract.
use Rattle.api_season.specs.Laws.Bytes.{far_some, far_none}
use Rattle.api_season.proofs.bytes.far_in.Goals as goal

pub returns-then-bound-gt0 : goal.returns-then-bound-gt0
returns-then-bound-gt0 c = far_some _ _ _ c.if-bound-gt0.true

pub returns : goal.returns
returns c = far_none _ _ _ c.if-bound-gt0.false
