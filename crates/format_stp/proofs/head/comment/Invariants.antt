-- `format_stp::head::comment` meets its contract: what is left of the comment ends where the whole ends.
use Prim.Native.Nat.{◌≤◌, max}
use mathlib.Core.Path.{◌≡◌}
use lib.ListN.{drop, length}
use Rattle.format_stp.specs.StpWord.{comment_from, comment_at}
use Rattle.format_stp.proofs.head.comment.Given as goal

abbrev pub invariant-loop-at : goal.invariant-loop-at
invariant-loop-at l = record {
  rest : comment_from l.seen (drop l.at l.text) l.at ≡ comment_at l.text l.initial.at;
  upto : l.at ≤ max l.initial.at (length l.text);
}
