-- `note_last` meets its contract: no group, no change; else one store.
use borrow.Author.Tests.{eq-eqb, ne_eqb}
use Rattle.survey_groups.specs.Mate.{last_in}
use Rattle.survey_groups.proofs.mates.note_last.Goals as goal

-- no group
pub returns-then-group-eq0 : goal.returns-then-group-eq0
unfolding last_in
returns-then-group-eq0 c = rw (eq-eqb c.args.group 0 c.if-group-eq0.true)

pub returns : goal.returns
unfolding last_in
returns c =
    rw (ne_eqb c.args.group 0 c.if-group-eq0.false, ← c.from.ensures) c.put.ensures
