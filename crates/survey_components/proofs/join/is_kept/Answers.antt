-- `is_kept` meets its contract: an arm for each mark.
use native.Mathlib.Omega.{arith}
use mathlib.Core.Path.{sym}
use borrow.Author.Tests.{eq-eqb, ne_eqb}
use Rattle.survey_components.proofs.join.is_kept.Goals as goal

-- 0
pub returns-in-0 : goal.returns-in-0
returns-in-0 c = sym (ne_eqb c.args.mark 2 (λ e. omega arith))

-- 1
pub returns-in-1 : goal.returns-in-1
returns-in-1 c = sym (ne_eqb c.args.mark 2 (λ e. omega arith))

-- 2
pub returns-in-2 : goal.returns-in-2
returns-in-2 c = sym (eq-eqb c.args.mark 2 (omega arith))

-- above
pub returns-in_default : goal.returns-in_default
returns-in_default c = sym (ne_eqb c.args.mark 2 (λ e. omega (arith)))
