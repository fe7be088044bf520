-- `own_word` meets its contract: each return by the law of its case.
use Rattle.std.proofs.Common.{◌-◌, ◌^◌, sym, ◌∙◌, one-mul, arith, lit<, shl_exact}
use Rattle.plan_drop.specs.Laws.Word.{own_before, own_after, own_in}
use Rattle.plan_drop.proofs.word.own_word.Goals as goal

-- before the batch
pub returns-then-i-base : goal.returns-then-i-base
returns-then-i-base c =
    sym (own_before _ _ c.if-i-base.true)

-- after the batch
pub returns-then-i-base-ge-WORD_BITS : goal.returns-then-i-base-ge-WORD_BITS
returns-then-i-base-ge-WORD_BITS c =
    sym (own_after _ _ (omega arith) (omega arith))

-- in the batch
pub returns : goal.returns
returns c =
    let b = c.args.base in
    let i = c.args.i in
    shl_exact 1 (i - b) 64 (lit< tt) (omega arith) ∙ one-mul (2 ^ (i - b)) ∙ sym (own_in b i (omega arith) (omega arith))
