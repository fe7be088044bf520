-- `write_figure` meets its contract: eight bytes of the result are lent on.
use native.Mathlib.Omega.{arith}
use Rattle.api_handset.proofs.Laws.Words.{figure_written}
use Rattle.api_handset.proofs.counts.write_figure.Goals as goal

pub returns : goal.returns
returns c = figure_written _ _ _ (omega arith) c.write_value.ensures
