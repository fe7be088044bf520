-- `farther` meets its contract.
use Rattle.season_core.specs.Laws.Farther.{none_farther, first_farther, above_farther, under_farther}
use Rattle.season_core.proofs.add.farther.Goals as goal

-- bound 0
pub returns-then-bound-lt1 : goal.returns-then-bound-lt1
returns-then-bound-lt1 c = none_farther _ _ _ _ c.if-bound-lt1.true

-- a larger ratio
pub returns-then-above : goal.returns-then-above
returns-then-above c =
    above_farther _ _ _ c.in-At.is c.if-bound-lt1.false c.above.ensures c.if-above.true

-- the first
pub returns-in-Nothing : goal.returns-in-Nothing
returns-in-Nothing c = first_farther _ _ _ c.in-Nothing.is c.if-bound-lt1.false

-- the earlier one stays
pub returns-else-above : goal.returns-else-above
returns-else-above c =
    under_farther _ _ _ c.in-At.is c.if-bound-lt1.false c.above.ensures c.if-above.false
