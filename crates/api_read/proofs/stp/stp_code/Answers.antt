-- `stp_code` meets its contract: n and m are stored, or the refusal is answered.
use mathlib.Core.Path.{refl}
use Rattle.api_read.specs.Laws.StpCall.{stp_refused_answers, stp_answers}
use Rattle.api_read.proofs.stp.stp_code.Goals as goal

-- read
pub returns-in-Survey : goal.returns-in-Survey
returns-in-Survey c = let whole = stp_answers c.args.counts.now c.in-Survey.is refl refl c.store_two.ensures in record { value = whole.0; counts_value = whole.1 }

-- refused
pub returns-in-Refused : goal.returns-in-Refused
returns-in-Refused c = let whole = stp_refused_answers c.args.counts.now c.in-Refused.is c.code.ensures in record { value = whole.0; counts_value = whole.1 }
