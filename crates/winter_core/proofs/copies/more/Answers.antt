-- `more` meets its contract: a kept track is copied more often.
use borrow.Author.Tests.{eq-eqb, ne_eqb}
use Rattle.winter_core.proofs.Laws.Call.{more_when, same_when}
use Rattle.winter_core.proofs.copies.more.Goals as goal

pub returns-then-mark-eq2 : goal.returns-then-mark-eq2
returns-then-mark-eq2 c =
    more_when c.args.copies c.args.power (eq-eqb c.args.mark 2 c.if-mark-eq2.true)

pub returns : goal.returns
returns c =
    same_when c.args.copies c.args.power (ne_eqb c.args.mark 2 c.if-mark-eq2.false)
