-- `turn_component` meets its contract: each return by the test that led there.
use Rattle.std.proofs.Common.{le-ltb, lt-ltb}
use Rattle.plan_rounds.specs.Tables.{turned_component}
use Rattle.plan_rounds.proofs.settle.turn_component.Goals as goal

-- a single vertex
pub returns-then-v-n : goal.returns-then-v-n
unfolding turned_component
returns-then-v-n c = rw (lt-ltb _ _ c.if-v-n.true) c.turn_load.ensures

-- a component that was joined
pub returns : goal.returns
unfolding turned_component
returns c = rw (le-ltb _ _ c.if-v-n.false) c.turn_members.ensures
