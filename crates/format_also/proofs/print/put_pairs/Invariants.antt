-- `format_also::put_pairs` meets its contract: what is written so far are the lines of the pairs below i.
use Rattle.base_finite.specs.Below.{tabulate}
use Rattle.format_write.specs.Wrote.{Wrote}
use Rattle.format_also.specs.Render.{pairs_text, pair_in}
use Rattle.format_also.proofs.print.put_pairs.Given as goal

abbrev pub invariant-loop-i : goal.invariant-loop-i
invariant-loop-i l = Wrote l.initial.out l.at (pairs_text (tabulate l.i (pair_in l.owners l.others))) l.out l.next
