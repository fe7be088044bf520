-- `noted_label` meets its contract: each return by the tests that led there.
use borrow.Author.Tests.{eq-eqb, ne_eqb}
use Rattle.base_finite.specs.Laws.Test.{or_right}
use Rattle.survey_groups.specs.Spread.{noted}
use Rattle.survey_groups.proofs.noted_label.Goals as goal

-- the first member
pub returns-then-summary-eq0 : goal.returns-then-summary-eq0
unfolding noted
returns-then-summary-eq0 c = rw (eq-eqb c.args.summary 0 c.if-summary-eq0.true)

-- the same label again
pub returns-then-summary-label : goal.returns-then-summary-label
unfolding noted
returns-then-summary-label c = rw (or_right _ _ (eq-eqb c.args.summary _ c.if-summary-label.true))

-- another label
pub returns : goal.returns
unfolding noted
returns c = rw (ne_eqb c.args.summary 0 c.if-summary-eq0.false, ne_eqb c.args.summary _ c.if-summary-label.false)
