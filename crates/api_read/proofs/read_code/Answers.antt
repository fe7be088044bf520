-- `read_code` meets its contract: n, m and the number of pairs are stored, or the refusal is answered.
use mathlib.Core.Path.{refl}
use Rattle.api_read.specs.Laws.Call.{read_refused_answers, read_answers}
use Rattle.api_read.proofs.read_code.Goals as goal

-- read
pub returns-in-Survey : goal.returns-in-Survey
returns-in-Survey c =
    let whole = read_answers c.args.counts.now c.in-Survey.is
    refl
    refl
    refl
    c.store_three.ensures in record { value = whole.0; counts_value = whole.1 }

-- refused
pub returns-in-Refused : goal.returns-in-Refused
returns-in-Refused c = let whole = read_refused_answers c.args.counts.now c.in-Refused.is c.code.ensures in record { value = whole.0; counts_value = whole.1 }
