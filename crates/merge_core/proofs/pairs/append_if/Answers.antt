-- `append_if` meets its contract: the pair is stored, or nothing is.
use Rattle.merge_core.specs.Laws.Pairs.{flag_off, flag_on}
use Rattle.merge_core.proofs.pairs.append_if.Goals as goal

pub returns-then-flag-eq0 : goal.returns-then-flag-eq0
returns-then-flag-eq0 c = let whole = flag_off _ _ _ _ c.if-flag-eq0.true in record { value = whole.0; pairs_value = whole.1 }

pub returns : goal.returns
returns c = let whole = flag_on _ _ _ _ c.if-flag-eq0.false c.put.ensures in record { value = whole.0; pairs_value = whole.1 }
