-- `own_of` meets its contract: each return by its test.
use mathlib.Core.Path.{sym, ◌∙◌}
use borrow.Author.Tests.{eq-eqb, ne_eqb}
use Rattle.merge_core.specs.Row.{own_with}
use Rattle.merge_core.proofs.row.own_of.Goals as goal

pub returns-then-own-eq0 : goal.returns-then-own-eq0
unfolding own_with
returns-then-own-eq0 c = rw (eq-eqb _ _ (sym c.at-own.ensures ∙ c.if-own-eq0.true)) c.at.ensures

pub returns : goal.returns
unfolding own_with
returns c = rw (ne_eqb _ _ (λ e. c.if-own-eq0.false (c.at-own.ensures ∙ e))) c.at-own.ensures
