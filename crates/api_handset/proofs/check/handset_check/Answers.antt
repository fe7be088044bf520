-- `handset_check` meets its contract: refused for its lengths, or the check of the bytes.
use mathlib.Core.Path.{sym, ◌∙◌}
use Rattle.api_handset.specs.Slices.{Slices}
use Rattle.api_handset.proofs.Laws.Call.{check_odd_code, check_odd_kept}
use Rattle.api_handset.proofs.check.handset_check.Goals as goal

-- refused for its lengths
pub returns-in-Refused : goal.returns-in-Refused
returns-in-Refused c =
    let a = c.args in
    let b : Slices = record { groups = a.groups.now; firsts = a.firsts.now; seconds = a.seconds.now; weights = a.weights.now; owners = a.owners.now; others = a.others.now } in
    let refused = sym c.lengths_refusal-odd.ensures ∙ c.in-Refused.is in
    record { code = check_odd_code b _ _ _ refused c.code.ensures; res = check_odd_kept b _ _ _ refused }

-- the lengths are in order
pub check_bytes-requires : goal.check_bytes-requires
check_bytes-requires c = sym c.lengths_refusal-odd.ensures ∙ c.in_default.is

pub returns : goal.returns
returns c = record { code = c.check_bytes.ensures.code; res = c.check_bytes.ensures.res }
