-- `printed_code` meets its contract: the length is stored, or the refusal is answered.
use mathlib.Core.Path.{refl}
use Rattle.api_print.specs.Laws.Call.{refused_answers, length_answers}
use Rattle.api_print.proofs.printed_code.Goals as goal

-- printed
pub returns-in-Length : goal.returns-in-Length
returns-in-Length c =
    let whole = length_answers c.args.counts.now c.in-Length.is refl c.put.ensures in record { value = whole.0; counts_value = whole.1 }

-- refused
pub returns-in-Refused : goal.returns-in-Refused
returns-in-Refused c = let whole = refused_answers c.args.counts.now c.in-Refused.is c.code.ensures in record { value = whole.0; counts_value = whole.1 }
