-- `check` meets its contract: the stages, one after the other, come to the definition; 11 to 13 and the counts are those of the poured groups.
use mathlib.Core.Path.{ap, sym, ◌∙◌}
use Rattle.base_limits.specs.Verdict.{outcome}
use Rattle.survey_lists.proofs.Laws.Room.{part_poured}
use Rattle.check_rule.specs.Check.{rule_refusal}
use Rattle.check_rule.proofs.Laws.Accuracy.{promises}
use Rattle.check_core.specs.Laws.Duals.{few_duals}
use Rattle.check_core.specs.Stage.{checked_outcome}
use Rattle.check_core.specs.Laws.Stage.{input_sound, input_few, input_stops, group_found, duals_stop, groups_stop, rule_decides, duals_poured, poured_fits, checked_poured}
use native.Mathlib.Omega.{arith}
use borrow.Author.Rules.{rules}
use Rattle.check_core.proofs.check.Goals as goal

-- a refusal up to 10
pub returns-in-Refused : goal.returns-in-Refused
unfolding checked_outcome
returns-in-Refused c =
    let whole = promises _ _ _ _ (record { own_byte = λ v. omega (arith, c.type_inv.groups v); other_byte = λ i. omega (arith, c.type_inv.others i) })
    (sym (input_stops _ _ _ (sym c.input_refusal-unfit.ensures ∙ c.in-Refused.is))) in record { result_value = whole.0; passed = whole.1.0; accurate = whole.1.1.0; bounded = whole.1.1.1 }

pub slice_bounds-duals_refusal-end : goal.slice_bounds-duals_refusal-end
slice_bounds-duals_refusal-end c =
    let few = (input_sound _ _ _ (sym c.input_refusal-unfit.ensures ∙ c.in_default.is)).few in
    search (rules, few)

-- 11, 12 or 13
pub returns-in-Refused-unsound : goal.returns-in-Refused-unsound
unfolding checked_outcome
returns-in-Refused-unsound c =
    let input = sym c.input_refusal-unfit.ensures ∙ c.in_default.is in
    let sound = input_sound _ _ _ input in
    let whole = promises _ _ _ _ (record { own_byte = λ v. omega (arith, c.type_inv.groups v); other_byte = λ i. omega (arith, c.type_inv.others i) })
    (sym (duals_stop _ _ _ input (sym (duals_poured _ sound (part_poured _ sound.few c.pour-poured.ensures) _) ∙ sym (c.duals_refusal-unsound.ensures ∙ few_duals _ _ (input_few _ _ _ input)) ∙ c.in-Refused-unsound.is))) in record { result_value = whole.0; passed = whole.1.0; accurate = whole.1.1.0; bounded = whole.1.1.1 }

-- 14
pub returns-in-Refused-apart : goal.returns-in-Refused-apart
unfolding checked_outcome
returns-in-Refused-apart c =
    let input = sym c.input_refusal-unfit.ensures ∙ c.in_default.is in
    let sound = input_sound _ _ _ input in
    let whole = promises _ _ _ _ (record { own_byte = λ v. omega (arith, c.type_inv.groups v); other_byte = λ i. omega (arith, c.type_inv.others i) })
    (sym
    (groups_stop _ _ _ input
    (sym (duals_poured _ sound (part_poured _ sound.few c.pour-poured.ensures) _) ∙ sym (c.duals_refusal-unsound.ensures ∙ few_duals _ _ (input_few _ _ _ input)) ∙ c.in_default-unsound.is)
    (group_found _ _ _ input c.group_refusal-apart.ensures ∙ c.in-Refused-apart.is))) in record { result_value = whole.0; passed = whole.1.0; accurate = whole.1.1.0; bounded = whole.1.1.1 }

pub slice_bounds-judge-end : goal.slice_bounds-judge-end
slice_bounds-judge-end c =
    let few = (input_sound _ _ _ (sym c.input_refusal-unfit.ensures ∙ c.in_default.is)).few in
    search (rules, few)

pub judge-requires : goal.judge-requires
judge-requires c =
    let input = sym c.input_refusal-unfit.ensures ∙ c.in_default.is in
    let sound = input_sound _ _ _ input in
    poured_fits _ sound (part_poured _ sound.few c.pour-poured.ensures) _ _ (input_few _ _ _ input) (sym (c.duals_refusal-unsound.ensures ∙ few_duals _ _ (input_few _ _ _ input)) ∙ c.in_default-unsound.is)

-- 15 or passed
pub returns : goal.returns
returns c =
    let input = sym c.input_refusal-unfit.ensures ∙ c.in_default.is in
    let sound = input_sound _ _ _ input in
    let part = part_poured _ sound.few c.pour-poured.ensures in
    let whole = promises _ _ _ _ (record { own_byte = λ v. omega (arith, c.type_inv.groups v); other_byte = λ i. omega (arith, c.type_inv.others i) })
    (c.judge.ensures
    ∙ ap (λ counts. outcome (rule_refusal counts) counts) (checked_poured _ sound part _ _)
    ∙ sym
    (rule_decides _ _ _ input (sym (duals_poured _ sound part _) ∙ sym (c.duals_refusal-unsound.ensures ∙ few_duals _ _ (input_few _ _ _ input)) ∙ c.in_default-unsound.is)
    (group_found _ _ _ input c.group_refusal-apart.ensures ∙ c.in_default-apart.is))) in record { result_value = whole.0; passed = whole.1.0; accurate = whole.1.1.0; bounded = whole.1.1.1 }
