-- `put_counts`: what is written so far are the lines of the numbers below k.
use Prim.Native.Nat.{◌≤◌}
use lib.ListN.{length, get_or}
use Rattle.format_write.specs.Text.{text_below}
use Rattle.format_write.specs.Wrote.{Wrote}
use Rattle.season_rule.specs.Text.{refused_line}
use Rattle.season_core.proofs.print.put_counts.Given as goal

abbrev pub invariant-loop-k : goal.invariant-loop-k
invariant-loop-k l =
    (l.k ≤ length l.counts) × Wrote l.initial.out l.at (text_below l.k (λ i. refused_line (get_or l.counts i 0) i)) l.out l.next
