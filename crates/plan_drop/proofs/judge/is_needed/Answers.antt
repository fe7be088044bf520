-- `is_needed` meets its contract: each return by the law of its case.
use Rattle.format_record.specs.Bits.{bit_at}
use Rattle.plan_drop.specs.Laws.Needed.{judged_before, judged_after, judged_in}
use Rattle.std.proofs.Common.{sym, arith}
use Rattle.plan_drop.proofs.judge.is_needed.Goals as goal

-- before the batch
pub returns-then-i-base : goal.returns-then-i-base
returns-then-i-base c =
    sym (judged_before _ _ _ c.if-i-base.true)

-- after the batch
pub returns-then-i-base-ge-WORD_BITS : goal.returns-then-i-base-ge-WORD_BITS
returns-then-i-base-ge-WORD_BITS c =
    sym (judged_after _ _ _ (omega arith) (omega arith))

-- in the batch
pub returns : goal.returns
unfolding bit_at
returns c =
    sym (judged_in _ _ _ (omega arith) (omega arith))
