-- `put_edge`: the key and the three numbers.
use Prim.Native.Nat.{◌≤◌}
use native.Mathlib.Omega.{arith}
use lib.ListN.{length}
use Rattle.format_write.specs.Wrote.{farthest}
use Rattle.format_write.proofs.Laws.Wrote.{wrote_then}
use Rattle.format_survey.specs.LinesRender.{edge_text}
use Rattle.format_survey_print.proofs.put.put_edge.Goals as goal

pub returns : goal.returns
unfolding edge_text
returns c =
    let small : length c.args.out.now ≤ farthest = omega arith in
    wrote_then small
    (wrote_then small (wrote_then small c.put_bytes-next.ensures c.put_field-next.ensures) c.put_field-next-2.ensures)
    c.put_field.ensures
