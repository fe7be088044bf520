-- `mark_if` meets its contract: the flag is stored, or nothing is.
use borrow.Author.Tests.{eq-eqb, ne_eqb}
use Rattle.merge_core.proofs.row.mark_if.Goals as goal

pub returns-then-owner-v : goal.returns-then-owner-v
returns-then-owner-v c = rw (eq-eqb _ _ c.if-owner-v.true, ← c.from.ensures) c.put.ensures

pub returns-else-owner-v : goal.returns-else-owner-v
returns-else-owner-v c = rw (ne_eqb _ _ c.if-owner-v.false)
