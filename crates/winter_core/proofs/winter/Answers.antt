-- `winter` meets its contract: refused with nothing written (`winter_stops`), or the copies and their price (`winter_goes`).
use native.Mathlib.Omega.{arith}
use mathlib.Core.Path.{sym, ◌∙◌}
use lib.ListN.{length}
use Rattle.survey_core.specs.Survey.{survey_with}
use Rattle.survey_core.specs.Sound.{ByteGroups}
use Rattle.winter_rule.proofs.Laws.Refusal.{fine_ready}
use Rattle.winter_core.proofs.Laws.Call.{winter_stops, winter_goes}
use Rattle.winter_core.proofs.winter.Goals as goal

-- 1 to 6, 18, 24, 7, 8
pub returns-in-Refused : goal.returns-in-Refused
returns-in-Refused c =
    let a = c.args in
    let s = survey_with a.groups.now a.firsts.now a.seconds.now a.weights.now a.owners.now a.others.now in
    let whole = winter_stops s (record { own_byte = λ v. omega (arith, c.shared_slice_known-1.given v); other_byte = λ i. omega (arith, c.shared_slice_known-6-1.given i) }) a.strengths.now a.copies.now c.winter_refusal-found.ensures c.in-Refused.is in record { result_value = whole.0; copies_value = whole.1.0; promises = whole.1.1 }

pub add_bits-total-requires : goal.add_bits-total-requires
add_bits-total-requires c =
    let a = c.args in
    let s = survey_with a.groups.now a.firsts.now a.seconds.now a.weights.now a.owners.now a.others.now in
    let numbered : ByteGroups s = (record { own_byte = λ v. omega (arith, c.shared_slice_known-1.given v); other_byte = λ i. omega (arith, c.shared_slice_known-6-1.given i) }) in
    record { byte_groups = numbered; winter_ready = fine_ready s a.strengths.now (length a.copies.now) numbered (sym c.winter_refusal-found.ensures ∙ c.in_default.is) }

pub returns : goal.returns
returns c =
    let a = c.args in
    let s = survey_with a.groups.now a.firsts.now a.seconds.now a.weights.now a.owners.now a.others.now in
    let whole = winter_goes s (record { own_byte = λ v. omega (arith, c.shared_slice_known-1.given v); other_byte = λ i. omega (arith, c.shared_slice_known-6-1.given i) }) a.strengths.now a.copies.now c.winter_refusal-found.ensures c.in_default.is c.add_bits-total.ensures.result_value c.add_bits-total.ensures.copies_value in record { result_value = whole.0; copies_value = whole.1.0; promises = whole.1.1 }
