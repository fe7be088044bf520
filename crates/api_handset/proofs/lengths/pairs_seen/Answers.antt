-- `pairs_seen` meets its contract: the smaller of two numbers.
use native.Mathlib.Omega.{arith}
use Rattle.api_handset.specs.Slices.{pairs_seen}
use Rattle.api_handset.proofs.lengths.pairs_seen.Goals as goal

pub returns : goal.returns
unfolding pairs_seen
returns c = omega arith
