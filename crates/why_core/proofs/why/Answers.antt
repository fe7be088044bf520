-- `why` meets its contract: a refusal stops it with nothing written (`refused_call`), and otherwise the reason over the poured lists is explained (`answered_call`).
use mathlib.Core.Path.{sym, ◌∙◌}
use native.Mathlib.Omega.{arith}
use Rattle.why_rule.specs.Answer.{why_outcome}
use Rattle.why_core.specs.Laws.Call.{few_by, asked_by, refused_call, answered_call}
use borrow.Author.Rules.{rules}
use Rattle.why_core.proofs.why.Goals as goal

-- refused
pub returns-in-Refused : goal.returns-in-Refused
unfolding why_outcome
returns-in-Refused c =
    let whole = refused_call _ (record { own_byte = λ v. omega (arith, c.shared_slice_known-1.given v); other_byte = λ i. omega (arith, c.shared_slice_known-6-1.given i) }) _ _
    (sym c.why_refusal-found.ensures ∙ c.in-Refused.is) in record { result_value = whole.0; route_value = whole.1.0; promises = whole.1.1 }

pub slice_bounds-lists-end : goal.slice_bounds-lists-end
slice_bounds-lists-end c =
    let few = few_by _ _ _ (sym c.why_refusal-found.ensures ∙ c.in_default.is) in
    search (rules, few)

pub explain-requires : goal.explain-requires
explain-requires c =
    asked_by _ (record { own_byte = λ v. omega (arith, c.shared_slice_known-1.given v); other_byte = λ i. omega (arith, c.shared_slice_known-6-1.given i) }) _ _
    (sym c.why_refusal-found.ensures ∙ c.in_default.is) c.pour-poured.ensures

-- answered
pub returns : goal.returns
returns c =
    let whole = answered_call _ (record { own_byte = λ v. omega (arith, c.shared_slice_known-1.given v); other_byte = λ i. omega (arith, c.shared_slice_known-6-1.given i) }) _ _
    (sym c.why_refusal-found.ensures ∙ c.in_default.is) c.explain.ensures.result_value c.explain.ensures.route_value in record { result_value = whole.0; route_value = whole.1.0; promises = whole.1.1 }
