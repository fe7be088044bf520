-- `store_row` meets its contract: an arm for each answer.
use mathlib.Core.Path.{refl}
use Rattle.closed_core.specs.Laws.Call.{row_finished, row_refused}
use Rattle.closed_core.proofs.row.store_row.Goals as goal

-- a plan
pub returns-in-Finished : goal.returns-in-Finished
returns-in-Finished c = row_finished _ _ c.in-Finished.is c.store_four.ensures

-- 19 or 8
pub returns-in-Refused : goal.returns-in-Refused
returns-in-Refused c = row_refused _ _ c.in-Refused.is refl c.store_four-in-Refused.ensures
