-- `is_pair` meets its contract.
use mathlib.Core.Path.{sym, ◌∙◌}
use borrow.Author.Tests.{eq-eqb, ne_eqb}
use Rattle.why_core.proofs.pair.is_pair.Goals as goal

pub returns-then-at-v : goal.returns-then-at-v
returns-then-at-v c = rw (ne_eqb _ _ (λ same. c.if-at-v.true (c.at.ensures ∙ same)))

pub returns : goal.returns
returns c = rw (eq-eqb _ _ (sym c.at.ensures ∙ c.if-at-v.false), ← c.from.ensures ∙ c.at-2.ensures)
