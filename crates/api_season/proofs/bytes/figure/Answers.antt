-- `figure` meets its contract.
use Rattle.api_season.specs.Laws.Bytes.{figure_past, figure_read}
use Rattle.api_season.proofs.bytes.figure.Goals as goal

-- past the end
pub returns-then-n-i : goal.returns-then-n-i
returns-then-n-i c = figure_past _ _ c.if-n-i.true

pub returns : goal.returns
returns c = figure_read _ _ c.value.ensures
