-- `put_number`: the digits of the quotient, then the last.
use Rattle.std.proofs.Common.{◌≤◌, length, arith}
use Rattle.format_write.specs.Wrote.{farthest}
use Rattle.format_write.proofs.Laws.Decimal.{decimal_one, decimal_next}
use Rattle.format_write.proofs.Laws.Wrote.{wrote_then, wrote_as}
use Rattle.format_write.proofs.+put_number.Goals as goal

pub returns-then-x-lt10 : goal.returns-then-x-lt10
returns-then-x-lt10 t c = wrote_as c.put.ensures (decimal_one c.args.x c.if-x-lt10.true c.last_digit.ensures)

pub returns : goal.returns
returns t c =
    let small : length c.args.out.now ≤ farthest = omega arith in
    wrote_as
    (wrote_then small c.put_number-next.ensures c.put-2.ensures)
    (decimal_next c.args.x c.if-x-lt10.false c.last_digit-2.ensures)
