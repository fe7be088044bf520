-- `put_lines` meets its contract: what is written so far are the lines of the tracks below e.
use mathlib.Core.Path.{refl}
use Prim.Native.Nat.{◌≤◌}
use native.Mathlib.Omega.{arith}
use mathlib.Core.Path.{◌≡◌, ap, sym}
use lib.ListN.{length, get_or}
use Rattle.format_write.specs.Text.{text_below}
use Rattle.format_write.specs.Wrote.{farthest}
use Rattle.format_write.proofs.Laws.Wrote.{wrote_none, wrote_then, wrote_as}
use Rattle.format_write.proofs.Laws.Text.{text_none, text_next}
use Rattle.text_winter.specs.Output.{copies_line, copies_lines}
use Rattle.text_winter.proofs.Laws.Lines.{line_read}
use Rattle.text_winter.proofs.print.put_lines.Goals as goal

pub loop-e-init : goal.loop-e-init
loop-e-init c =
    (omega arith, wrote_as (wrote_none c.args.out.now c.args.at) (sym (text_none _)))

pub loop-e-preserved : goal.loop-e-preserved
loop-e-preserved c =
    let a = c.args in
    let small : length a.out.now ≤ farthest = omega arith in (
      omega (arith, c.loop-e-test.true),
      wrote_as (wrote_then small c.loop-e.invariant.1 (wrote_as c.put_copies-next.ensures (line_read a.copies.now c.from.ensures refl refl)))
          (text_next (λ e. copies_line (get_or a.copies.now e 0) e) c.loop-e.e),
    )

pub returns : goal.returns
unfolding copies_lines
returns c =
    let copies = c.args.copies.now in
    let all : c.loop-e.e ≡ length copies = omega (arith, c.loop-e.invariant.0, c.loop-e-test.false) in
    wrote_as c.loop-e.invariant.1 (ap (λ n. text_below n (λ e. copies_line (get_or copies e 0) e)) all)
