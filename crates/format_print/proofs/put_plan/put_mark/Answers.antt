-- `put_mark`: a line at mark 2 alone.
use native.Mathlib.Omega.{arith}
use Rattle.format_write.proofs.Laws.Wrote.{wrote_none, wrote_as}
use Rattle.format_write.specs.Key.{kept_key}
use Rattle.format_write.proofs.Laws.Text.{kept_line_law, kept_line_none}
use Rattle.format_print.proofs.put_plan.put_mark.Goals as goal

pub returns-in-0 : goal.returns-in-0
returns-in-0 c = let a = c.args in wrote_as (wrote_none a.out.now a.at) (kept_line_none a.mark a.e (λ e. omega arith))

pub returns-in-1 : goal.returns-in-1
returns-in-1 c = let a = c.args in wrote_as (wrote_none a.out.now a.at) (kept_line_none a.mark a.e (λ e. omega arith))

pub returns-in-2 : goal.returns-in-2
unfolding kept_key
returns-in-2 c =
    let a = c.args in
    wrote_as c.put_line.ensures (kept_line_law a.mark a.e c.in-2.is)

pub returns-in_default : goal.returns-in_default
returns-in_default c = let a = c.args in wrote_as (wrote_none a.out.now a.at) (kept_line_none a.mark a.e (λ e. omega arith))
