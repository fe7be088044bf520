-- `find_in` meets its contract: a scan of the list.
use mathlib.Core.Path.{refl, sym, ◌∙◌}
use borrow.Author.Tests.{eq-eqb, ne_eqb}
use Rattle.theory_route.proofs.Laws.First.{unmet_start, unmet_turn, unmet_found, unmet_end}
use Rattle.merge_core.proofs.find.find_in.Goals as goal

pub loop-i-init : goal.loop-i-init
loop-i-init c = unmet_start _ _

pub returns-then-at-x : goal.returns-then-at-x
returns-then-at-x c = unmet_found c.loop-i.invariant c.loop-i-test.true refl (eq-eqb _ _ (sym (c.at.ensures) ∙ c.if-at-x.true))

pub loop-i-preserved : goal.loop-i-preserved
loop-i-preserved c = unmet_turn c.loop-i.invariant c.loop-i-test.true refl (ne_eqb _ _ (λ e. c.if-at-x.false (c.at.ensures ∙ e)))

-- at none
pub returns : goal.returns
returns c = unmet_end c.loop-i.invariant c.loop-i-test.false
