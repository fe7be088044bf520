-- `handset_plan` meets its contract: refused for its lengths, or the plan of the bytes.
use mathlib.Core.Path.{sym, ◌∙◌}
use Rattle.api_handset.specs.Slices.{Slices}
use Rattle.api_handset.proofs.Laws.Call.{plan_odd_code, plan_odd_marks, plan_odd_records, plan_odd_result}
use Rattle.api_handset.proofs.plan.handset_plan.Goals as goal

-- refused for its lengths
pub returns-in-Refused : goal.returns-in-Refused
returns-in-Refused c =
    let a = c.args in
    let b : Slices = record { groups = a.groups.now; firsts = a.firsts.now; seconds = a.seconds.now; weights = a.weights.now; owners = a.owners.now; others = a.others.now } in
    let refused = sym c.lengths_refusal-odd.ensures ∙ c.in-Refused.is in
    record { code = plan_odd_code b _ _ _ refused c.code.ensures; marks = plan_odd_marks b _ _ _ refused; records = plan_odd_records b _ _ _ refused; res = plan_odd_result b _ _ _ refused }

-- the lengths are in order
pub plan_bytes-requires : goal.plan_bytes-requires
plan_bytes-requires c = sym c.lengths_refusal-odd.ensures ∙ c.in_default.is

pub returns : goal.returns
returns c = record { code = c.plan_bytes.ensures.code; marks = c.plan_bytes.ensures.marks; records = c.plan_bytes.ensures.records; res = c.plan_bytes.ensures.res }
