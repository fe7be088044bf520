-- `turn_members` meets its contract: before vertex v it has turned those below v.
use Rattle.std.proofs.Common.{◌≡◌, ◌≤◌}
use Rattle.plan_rounds.specs.Tables.{turned_members}
use Rattle.plan_rounds.proofs.settle.turn_members.Given as goal

abbrev pub invariant-loop-v : goal.invariant-loop-v
invariant-loop-v l = (l.v ≤ l.n) × (l.loads ≡ turned_members l.labels l.v l.time l.c l.initial.loads)
