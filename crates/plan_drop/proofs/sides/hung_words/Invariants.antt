-- `hung_words` meets its contract: what is left of the order leads to the whole.
use Rattle.std.proofs.Common.{◌≡◌, replicate}
use Rattle.base_limits.specs.Limits.{max_vertices}
use Rattle.plan_drop.specs.Word.{hung_from}
use Rattle.plan_drop.proofs.sides.hung_words.Given as goal

abbrev pub invariant-loop-k : goal.invariant-loop-k
invariant-loop-k l =
    hung_from l.order l.others l.marks l.base l.k l.words ≡ hung_from l.order l.others l.marks l.base l.count (replicate max_vertices 0)
