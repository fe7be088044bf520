-- `next_block` meets its contract: what is found from b on is what is found from the start.
use Rattle.std.proofs.Common.{◌≡◌, ◌-◌, ◌≤◌, max}
use Rattle.plan_search.specs.Scan.{next_block}
use Rattle.plan_search.proofs.limit.next_block.Given as goal

abbrev pub invariant-loop-b : goal.invariant-loop-b
invariant-loop-b l =
    (l.b ≤ max l.from l.to) × (next_block l.floors l.limit l.from (l.to - l.from) ≡ next_block l.floors l.limit l.b (l.to - l.b))
