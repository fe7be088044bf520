-- `tracks_asked`: a number for each argument, as far as there is room.
use Rattle.std.proofs.Common.{◌≡◌, ◌≤◌, length}
use Rattle.closed.proofs.tracks_asked.Given as goal

abbrev pub invariant-loop-i : goal.invariant-loop-i
invariant-loop-i g l = (1 ≤ l.i) × (length l.tracks ≡ 256)
