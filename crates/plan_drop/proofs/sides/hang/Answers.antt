-- `hang` meets its contract: no edge, no change; else one store.
use mathlib.Core.Path.{refl}
use Rattle.std.proofs.Common.{sym, ◌∙◌}
use Rattle.plan_drop.specs.Laws.Alone.{hung_none, hung_by}
use Rattle.plan_drop.proofs.sides.hang.Goals as goal

-- no edge
pub returns-then-mark-eq0 : goal.returns-then-mark-eq0
returns-then-mark-eq0 c =
    let args = c.args in
    hung_none _ _ _ _ _ (sym (c.at-mark.ensures) ∙ c.if-mark-eq0.true)

-- an edge
pub returns : goal.returns
returns c =
    let args = c.args in
    let mark = c.at-mark.ensures in
    let up = c.at-up.ensures in
    hung_by _ _ _ _ _ mark c.if-mark-eq0.false (up) refl c.at.ensures
    c.own_word.ensures refl c.put.ensures
