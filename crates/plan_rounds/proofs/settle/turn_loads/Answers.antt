-- `turn_loads` meets its contract: each return by the test that led there.
use mathlib.Core.Path.{refl}
use Rattle.plan_rounds.specs.Laws.Loads.{turned_stays, turned_changes}
use Rattle.plan_rounds.proofs.settle.turn_loads.Goals as goal

-- the flag stays
pub returns-then-before-flag : goal.returns-then-before-flag
returns-then-before-flag c = turned_stays _ _ _ _ _ _ _ refl c.at-before.ensures c.if-before-flag.true

-- it changes
pub returns : goal.returns
returns c = turned_changes _ _ _ _ _ _ _ refl c.at-before.ensures c.if-before-flag.false c.turn_component.ensures
