-- `word_at` meets its contract: each return by its test.
use Rattle.base_finite.specs.Laws.Below.{counted_true, counted_false}
use Rattle.std.proofs.Common.{sym, eq-eqb, ne_eqb}
use Rattle.plan_drop.proofs.word.word_at.Goals as goal

pub returns-then-label-x : goal.returns-then-label-x
returns-then-label-x c =
    sym (counted_true (eq-eqb _ _ c.if-label-x.true) _)

pub returns : goal.returns
returns c =
    sym (counted_false (ne_eqb _ _ c.if-label-x.false) _)
