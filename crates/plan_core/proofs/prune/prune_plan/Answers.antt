-- `prune_plan` meets its contract: a refusal up to 10 stops it with nothing written, and otherwise `prune_marked` answers (`promised_call`).
use mathlib.Core.Path.{refl, sym, ◌∙◌}
use native.Mathlib.Omega.{arith}
use Rattle.plan_core.specs.Laws.Picks.{marked_fine, marked_stops, refused_answer, refused_marks, promised_call}
use Rattle.plan_core.proofs.prune.prune_plan.Goals as goal

-- 1 to 6, 18, 9, 10
pub returns-in-Refused : goal.returns-in-Refused
returns-in-Refused c =
    let stop = sym (marked_stops _ _ (sym c.marked_refusal-unfit.ensures ∙ c.in-Refused.is)) in
    let whole = promised_call _ (record { own_byte = λ v. omega (arith, c.shared_slice_known-1.given v); other_byte = λ i. omega (arith, c.shared_slice_known-6-1.given i) }) _ (refused_answer _ _ stop refl) (refused_marks _ _ stop refl) in record { result_value = whole.0; marks_value = whole.1.0; promises = whole.1.1 }

pub prune_marked-requires : goal.prune_marked-requires
prune_marked-requires c = marked_fine _ _ (sym c.marked_refusal-unfit.ensures ∙ c.in_default.is)

-- all others
pub returns : goal.returns
returns c = let whole = promised_call _ (record { own_byte = λ v. omega (arith, c.shared_slice_known-1.given v); other_byte = λ i. omega (arith, c.shared_slice_known-6-1.given i) }) _ c.prune_marked.ensures.result_value c.prune_marked.ensures.marks_value in record { result_value = whole.0; marks_value = whole.1.0; promises = whole.1.1 }
