-- `put_survey`: the two counts, the vertices, the pairs and the edges.
use Prim.Native.Nat.{◌≤◌}
use native.Mathlib.Omega.{arith}
use mathlib.Core.Path.{ap, sym, ◌∙◌}
use lib.ListN.{length}
use Rattle.format_write.specs.Key.{nodes_key, links_key}
use Rattle.format_write.specs.Text.{line_of}
use Rattle.format_write.specs.Wrote.{farthest}
use Rattle.format_write.proofs.Laws.Wrote.{wrote_then, wrote_as}
use Rattle.format_survey.specs.Render.{render}
use Rattle.format_survey_print.specs.Print.{survey_text}
use Rattle.format_survey_print.specs.Laws.Print.{edges_count}
use Rattle.format_survey_print.proofs.write.put_survey.Goals as goal

pub returns : goal.returns
unfolding survey_text render
returns c =
    let a = c.args in
    let small : length a.out.now ≤ farthest = omega arith in
    let n = c.put_line-next.ensures in
    let m = wrote_as c.put_line-next-2.ensures
    (ap (line_of links_key) (sym (edges_count a.firsts.now a.seconds.now a.weights.now))) in
    wrote_then small (wrote_then small (wrote_then small (wrote_then small n m) c.put_groups-next.ensures) c.put_pairs-next.ensures) c.put_edges.ensures
