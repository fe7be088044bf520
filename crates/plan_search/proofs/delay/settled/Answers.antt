-- `settled` meets its contract: each return by its test.
use mathlib.Core.Path.{sym, ◌∙◌}
use borrow.Author.Tests.{eq-eqb, ne_eqb}
use Rattle.plan_search.proofs.Laws.Held.{settled_on, settled_off}
use Rattle.plan_search.proofs.delay.settled.Goals as goal

-- active
pub returns-then-flag-eq1 : goal.returns-then-flag-eq1
returns-then-flag-eq1 c = c.saturating_sub.ensures ∙ sym (settled_on _ _ (eq-eqb c.args.flag 1 c.if-flag-eq1.true))

-- not active
pub returns : goal.returns
returns c = sym (settled_off _ _ (ne_eqb c.args.flag 1 c.if-flag-eq1.false))
