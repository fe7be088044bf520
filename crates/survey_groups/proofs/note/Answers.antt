-- `note` meets its contract: no group, no change; else one store.
use borrow.Author.Tests.{eq-eqb, ne_eqb}
use Rattle.survey_groups.specs.Spread.{noted_in}
use Rattle.survey_groups.proofs.note.Goals as goal

pub returns-then-group-eq0 : goal.returns-then-group-eq0
unfolding noted_in
returns-then-group-eq0 c = rw (eq-eqb c.args.group 0 c.if-group-eq0.true)

pub returns : goal.returns
unfolding noted_in
returns c = rw (ne_eqb c.args.group 0 c.if-group-eq0.false, ← c.from-g.ensures, ← c.at.ensures, ← c.noted_label-x.ensures) c.put.ensures
