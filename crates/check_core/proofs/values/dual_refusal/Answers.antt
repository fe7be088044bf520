-- `dual_refusal` meets its contract: each return by the law of its case.
use native.Mathlib.Omega.{arith}
use mathlib.Core.Path.{sym, ◌∙◌}
use Rattle.check_rule.proofs.Laws.Refusal.{dual_zero, dual_large, dual_stray, dual_fine}
use Rattle.check_core.proofs.values.dual_refusal.Goals as goal

-- 11: value 0
pub returns-then-value-eq0 : goal.returns-then-value-eq0
returns-then-value-eq0 c = sym (dual_zero _ _ _ (sym c.value-value.ensures ∙ c.if-value-eq0.true))

-- 11: too large a value
pub returns-then-value-gt-MAX_VALUE : goal.returns-then-value-gt-MAX_VALUE
returns-then-value-gt-MAX_VALUE c = sym (dual_large _ _ _ (omega (arith, c.value-value.ensures)))

-- 11: a member that is no vertex
pub returns-then-has_stray : goal.returns-then-has_stray
returns-then-has_stray c = sym (dual_stray _ _ _ (λ e. c.if-value-eq0.false (c.value-value.ensures ∙ e)) (omega (arith, c.value-value.ensures)) (sym c.has_stray.ensures ∙ c.if-has_stray.true))

-- nothing wrong
pub returns : goal.returns
returns c = sym (dual_fine _ _ _ (λ e. c.if-value-eq0.false (c.value-value.ensures ∙ e)) (omega (arith, c.value-value.ensures)) (sym c.has_stray.ensures ∙ c.if-has_stray.false))
