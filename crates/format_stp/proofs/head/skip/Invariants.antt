-- `format_stp::head::skip` meets its contract: what is left of the empty lines ends where all of them end.
use Prim.Native.Nat.{◌+◌, ◌≤◌, max}
use mathlib.Core.Path.{◌≡◌}
use lib.ListN.{drop, length}
use Rattle.format_stp.specs.StpWord.{empty_lines}
use Rattle.format_stp.proofs.head.skip.Given as goal

abbrev pub invariant-loop-at : goal.invariant-loop-at
invariant-loop-at l = record {
  rest : l.at + empty_lines (drop l.at l.text) ≡ l.initial.at + empty_lines (drop l.initial.at l.text);
  upto : l.at ≤ max l.initial.at (length l.text);
}
