-- `put_groups`: what is written so far are the lines of the vertices before the next.
use Prim.Native.Nat.{◌≤◌}
use native.Mathlib.Omega.{arith}
use mathlib.Core.Path.{ap}
use lib.ListN.{length}
use lib.Seq.{take_all}
use Rattle.format_write.specs.Key.{node_key}
use Rattle.format_write.specs.Text.{line_of}
use Rattle.format_write.specs.Wrote.{farthest}
use Rattle.format_write.proofs.Laws.Wrote.{wrote_none, wrote_then, wrote_as}
use Rattle.format_read.specs.Lines.{text_of}
use Rattle.format_survey_print.specs.Laws.Print.{no_text, text_take}
use Rattle.format_survey_print.proofs.put.put_groups.Goals as goal

pub loop-group-init : goal.loop-group-init
loop-group-init c = let a = c.args in wrote_as (wrote_none a.out.now a.at) (no_text (line_of node_key))

pub loop-group-preserved : goal.loop-group-preserved
loop-group-preserved c =
    let a = c.args in
    let small : length a.out.now ≤ farthest = omega arith in
    wrote_as (wrote_then small c.loop-group.invariant c.put_group-next.ensures) (text_take (line_of node_key) a.groups.now c.loop-group.group-index c.loop-group-test.true)

pub returns : goal.returns
returns c = wrote_as c.loop-group.invariant (ap (text_of (line_of node_key)) (take_all c.loop-group.group-index _ c.loop-group-test.false))
