-- `any_ragged` meets its contract: one slice after the other.
use mathlib.Core.Path.{sym, ◌∙◌}
use Rattle.api_handset.proofs.Laws.Lengths.{ragged_firsts, ragged_seconds, ragged_weights, ragged_owners}
use Rattle.api_handset.proofs.lengths.any_ragged.Goals as goal

pub returns-then-is_ragged : goal.returns-then-is_ragged
returns-then-is_ragged c = ragged_firsts _ _ _ _ (sym c.is_ragged.ensures ∙ c.if-is_ragged.true)

pub returns-then-is_ragged-2 : goal.returns-then-is_ragged-2
returns-then-is_ragged-2 c =
    ragged_seconds _ _ _ _ (sym c.is_ragged.ensures ∙ c.if-is_ragged.false)
    (sym c.is_ragged-2.ensures ∙ c.if-is_ragged-2.true)

pub returns-then-is_ragged-3 : goal.returns-then-is_ragged-3
returns-then-is_ragged-3 c =
    ragged_weights _ _ _ _ (sym c.is_ragged.ensures ∙ c.if-is_ragged.false)
    (sym c.is_ragged-2.ensures ∙ c.if-is_ragged-2.false)
    (sym c.is_ragged-3.ensures ∙ c.if-is_ragged-3.true)

pub returns : goal.returns
returns c =
    c.is_ragged-4.ensures
    ∙ ragged_owners _ _ _ _ (sym c.is_ragged.ensures ∙ c.if-is_ragged.false)
    (sym c.is_ragged-2.ensures ∙ c.if-is_ragged-2.false)
    (sym c.is_ragged-3.ensures ∙ c.if-is_ragged-3.false)
