-- `kept_weight` meets its contract: the weight counts exactly at mark 2.
use native.Mathlib.Omega.{arith}
use mathlib.Core.Path.{sym, ◌∙◌}
use borrow.Author.Tests.{eq-eqb, ne_eqb}
use Rattle.base_finite.specs.Laws.Below.{counted_true, counted_false}
use Rattle.check_core.proofs.cost.kept_weight.Goals as goal

pub returns-in-0 : goal.returns-in-0
returns-in-0 c = sym (counted_false (ne_eqb c.args.mark 2 (λ e. omega arith)) _)

pub returns-in-1 : goal.returns-in-1
returns-in-1 c = sym (counted_false (ne_eqb c.args.mark 2 (λ e. omega arith)) _)

pub returns-in-2 : goal.returns-in-2
returns-in-2 c = c.from.ensures ∙ sym (counted_true (eq-eqb c.args.mark 2 (omega arith)) _)

pub returns-in_default : goal.returns-in_default
returns-in_default c = sym (counted_false (ne_eqb c.args.mark 2 (λ e. omega (arith))) _)
