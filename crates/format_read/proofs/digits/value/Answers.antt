-- `format_read::digits::value` meets its contract: what has been read and what is left write the number, and so many digits fit.
use native.Mathlib.Omega.{arith}
use mathlib.Core.Path.{◌∙◌, sym, ap}
use lib.ListN.{get_or, drop_of_length-le}
use Rattle.format_write.specs.Decimal.{spelled_after}
use Rattle.format_read.proofs.Laws.Number.{value_step, spelled_fits, spelled_more}
use Rattle.format_read.proofs.digits.value.Goals as goal

pub overflow_mul-n : goal.overflow_mul-n
overflow_mul-n c =
    let l = c.loop-d in
    omega (arith, spelled_fits l.n l.d-index l.invariant.room (omega arith))

pub overflow_add-n : goal.overflow_add-n
overflow_add-n c =
    let l = c.loop-d in
    omega (arith, spelled_fits l.n l.d-index l.invariant.room (omega arith))

pub loop-d-preserved : goal.loop-d-preserved
loop-d-preserved c =
    let s = c.args.digits.now in
    let l = c.loop-d in
    let d = c.from.ensures ∙ c.saturating_sub.ensures in
    record {
      room = rw d (value_step l.n (get_or s l.d-index 0) l.d-index l.invariant.room (c.type_inv.digits l.d-index).fits);
      rest = rw d (sym (spelled_more l.n l.d-index s c.loop-d-test.true) ∙ l.invariant.rest);
    }

pub returns : goal.returns
unfolding spelled_after
returns c =
    let l = c.loop-d in
    sym (ap (spelled_after l.n) (drop_of_length-le c.args.digits.now c.loop-d-test.false)) ∙ l.invariant.rest
