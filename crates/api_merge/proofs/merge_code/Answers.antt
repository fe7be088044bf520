-- `merge_code` meets its contract: n, m and the number of pairs are stored, or the refusal is answered.
use mathlib.Core.Path.{refl}
use Rattle.api_merge.specs.Laws.Call.{code_merged, code_refused}
use Rattle.api_merge.proofs.merge_code.Goals as goal

-- merged
pub returns-in-Finished : goal.returns-in-Finished
returns-in-Finished c = let whole = code_merged c.args.counts.now c.in-Finished.is refl refl refl c.store_three.ensures in record { value = whole.0; counts_value = whole.1 }

-- refused
pub returns-in-Refused : goal.returns-in-Refused
returns-in-Refused c = let whole = code_refused c.args.counts.now c.in-Refused.is c.code.ensures in record { value = whole.0; counts_value = whole.1 }
