-- `marks_refusal` meets its contract: a scan of the marks.
use borrow.Author.Rules.{rules}
use lib.ListN.{get_or}
use lib.Dec.{ltb}
use Rattle.base_limits.specs.Verdict.{refuse_if}
use Rattle.check_core.proofs.marks.marks_refusal.Goals as goal

pub returns : goal.returns
returns c = c.lowest.ensures (λ e. refuse_if (ltb 2 (get_or c.args.marks.now e 0)) 10 e) (λ e v b p. search rules)
