-- `put_marks`: what is written so far are the lines of the tracks below e.
use native.Mathlib.Omega.{arith}
use mathlib.Core.Path.{◌≡◌, ap, sym}
use lib.ListN.{length, get_or}
use Rattle.format_write.specs.Wrote.{farthest}
use Rattle.format_write.proofs.Laws.Wrote.{wrote_none, wrote_then, wrote_as}
use Prim.Native.Nat.{◌≤◌}
use Rattle.format_write.specs.Text.{text_below, kept_line, kept_lines}
use Rattle.format_write.proofs.Laws.Text.{text_none, text_next}
use Rattle.format_print.proofs.put_plan.put_marks.Goals as goal

pub loop-e-init : goal.loop-e-init
loop-e-init c =
    let a = c.args in
    wrote_as (wrote_none a.out.now a.at) (sym (text_none _))

pub loop-e-preserved : goal.loop-e-preserved
loop-e-preserved c =
    let a = c.args in
    let small : length a.out.now ≤ farthest = omega arith in
    wrote_as
    (wrote_then small c.loop-e.invariant c.put_mark-next.ensures)
    (text_next (λ i. kept_line (get_or a.marks.now i 0) i) c.loop-e.e)

pub returns : goal.returns
unfolding kept_lines
returns c =
    let marks = c.args.marks.now in
    let all : c.loop-e.e ≡ length marks = omega arith in
    wrote_as c.loop-e.invariant (ap (λ n. text_below n (λ i. kept_line (get_or marks i 0) i)) all)
