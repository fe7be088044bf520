-- `put_mark`: by the mark.
use Rattle.format_write.specs.Key.{round_key}
use native.Mathlib.Omega.{arith}
use Rattle.format_write.proofs.Laws.Wrote.{wrote_none, wrote_as}
use Rattle.format_why.specs.Laws.Mark.{mark_kept, mark_unpicked, mark_other}
use Rattle.format_why.proofs.print.put_mark.Goals as goal

-- not picked
pub returns-in-0 : goal.returns-in-0
unfolding round_key
returns-in-0 c =
    let a = c.args in
    wrote_as c.put_line.ensures (mark_unpicked a.mark a.group a.low a.high a.round a.route.now c.in-0.is)

-- dropped
pub returns-in-1 : goal.returns-in-1
returns-in-1 c =
    let a = c.args in
    wrote_as (wrote_none a.out.now a.at) (mark_other a.mark a.group a.low a.high a.round a.route.now (λ e. omega arith) (λ e. omega arith))

-- kept
pub returns-in-2 : goal.returns-in-2
returns-in-2 c =
    let a = c.args in
    wrote_as c.put_kept.ensures (mark_kept a.mark a.group a.low a.high a.round a.route.now c.in-2.is)

-- no mark
pub returns-in_default : goal.returns-in_default
returns-in_default c =
    let a = c.args in
    wrote_as (wrote_none a.out.now a.at) (mark_other a.mark a.group a.low a.high a.round a.route.now (λ e. omega arith) (λ e. omega arith))
