-- `refusals` meets its contract: it stores at rising places.
use Prim.Native.Nat.{◌+◌}
use Rattle.api_season.specs.Bytes.{head_figures, figure_at}
use Rattle.api_season.specs.Laws.Bytes.{Storing}
use Rattle.api_season.proofs.bytes.refusals.Given as goal

abbrev pub invariant-loop-k : goal.invariant-loop-k
invariant-loop-k l = Storing (λ i. figure_at l.bytes (head_figures + i)) l.initial.count-items l.k l.count-items
