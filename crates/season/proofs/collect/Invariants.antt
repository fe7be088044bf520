-- `collect`: the buffer keeps its length.
use Rattle.std.proofs.Common.{◌≡◌, length}
use Rattle.season.proofs.collect.Given as goal

abbrev pub invariant-loop : goal.invariant-loop
invariant-loop g l = length l.input ≡ length l.initial.input
