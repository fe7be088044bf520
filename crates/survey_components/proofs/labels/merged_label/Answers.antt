-- `merged_label` meets its contract: each return by the tests that led there.
use borrow.Author.Tests.{eq-eqb, ne_eqb}
use Rattle.base_finite.specs.Laws.Test.{or_right}
use Rattle.theory_graph.specs.Component.{merged}
use Rattle.survey_components.proofs.labels.merged_label.Goals as goal

pub returns-then-label-x : goal.returns-then-label-x
unfolding merged
returns-then-label-x c = rw (eq-eqb c.args.label c.args.x c.if-label-x.true)

pub returns-then-label-y : goal.returns-then-label-y
unfolding merged
returns-then-label-y c = rw (or_right _ _ (eq-eqb c.args.label c.args.y c.if-label-y.true))

pub returns : goal.returns
unfolding merged
returns c =
    rw (ne_eqb c.args.label c.args.x c.if-label-x.false, ne_eqb c.args.label c.args.y c.if-label-y.false)
