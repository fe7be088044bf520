-- `is_picked` meets its contract: an arm for each mark.
use native.Mathlib.Omega.{arith}
use mathlib.Core.Path.{sym}
use Rattle.survey_components.specs.Laws.Picked.{picked_not, picked_is}
use Rattle.survey_components.proofs.is_picked.Goals as goal

-- 0
pub returns-in-0 : goal.returns-in-0
returns-in-0 c = sym (picked_not _ _ (omega (arith, c.at.ensures)))

-- 1
pub returns-in-1 : goal.returns-in-1
returns-in-1 c = sym (picked_is _ _ (λ e. omega (arith, c.at.ensures)))

-- 2
pub returns-in-2 : goal.returns-in-2
returns-in-2 c = sym (picked_is _ _ (λ e. omega (arith, c.at.ensures)))

-- above
pub returns-in_default : goal.returns-in_default
returns-in_default c = sym (picked_is _ _ (λ e. omega (arith, c.at.ensures)))
