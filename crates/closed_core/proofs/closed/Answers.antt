-- `closed` meets its contract: refused with nothing written (`closed_stops`), or a row for each track (`closed_goes`).
use native.Mathlib.Omega.{arith}
use mathlib.Core.Path.{sym, ◌∙◌}
use Rattle.closed_rule.proofs.Laws.Promise.{fine_ready}
use Rattle.closed_core.specs.Laws.Call.{closed_stops, closed_goes}
use Rattle.closed_core.proofs.closed.Goals as goal

-- 1 to 6, 18, 7
pub returns-in_default : goal.returns-in_default
returns-in_default c = let whole = closed_stops _ (record { own_byte = λ v. omega (arith, c.shared_slice_known-1.given v); other_byte = λ i. omega (arith, c.shared_slice_known-6-1.given i) }) _ _ c.closed_refusal-found.ensures c.in_default.is in record { result_value = whole.0; res_value = whole.1.0; promises = whole.1.1 }

pub store_rows-requires : goal.store_rows-requires
store_rows-requires c =
    let ready = fine_ready _ _ _ (sym c.closed_refusal-found.ensures ∙ c.in-Fine.is) in
    record { survey_sound = ready.survey; tracks_len_bound = ready.tracks_few; tracks_in_bounds = ready.result_long }

pub returns : goal.returns
returns c = let whole = closed_goes _ (record { own_byte = λ v. omega (arith, c.shared_slice_known-1.given v); other_byte = λ i. omega (arith, c.shared_slice_known-6-1.given i) }) _ _ c.closed_refusal-found.ensures c.in-Fine.is c.store_rows.ensures in record { result_value = whole.0; res_value = whole.1.0; promises = whole.1.1 }
