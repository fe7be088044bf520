-- `flag_label` meets its contract: a branch on the summary.
use borrow.Author.Tests.{eq-eqb, ne_eqb}
use Rattle.plan_active.specs.Flags.{flagged}
use Rattle.plan_active.proofs.flags.flag_label.Goals as goal

-- split
pub returns-then-summary-eq1 : goal.returns-then-summary-eq1
unfolding flagged
returns-then-summary-eq1 c =
    rw (eq-eqb c.args.summary 1 c.if-summary-eq1.true) c.put.ensures

-- not split
pub returns-else-summary-eq1 : goal.returns-else-summary-eq1
unfolding flagged
returns-else-summary-eq1 c = rw (ne_eqb c.args.summary 1 c.if-summary-eq1.false)
