-- `put_edges`: what is written so far are the lines of the edges below e.
use Prim.Native.Nat.{◌≤◌}
use native.Mathlib.Omega.{arith}
use mathlib.Core.Path.{◌≡◌, ap, ◌∙◌}
use mathlib.Core.List.{◌++◌}
use lib.ListN.{length}
use Rattle.base_finite.specs.Below.{tabulate}
use Rattle.format_write.specs.Wrote.{farthest}
use Rattle.format_write.proofs.Laws.Wrote.{wrote_none, wrote_then, wrote_as}
use Rattle.format_survey.specs.LinesRender.{edge_text}
use Rattle.format_read.specs.Lines.{text_of}
use Rattle.format_survey_print.specs.Print.{edge_with, edge_at, edges_from}
use Rattle.format_survey_print.specs.Laws.Print.{text_table_none, text_table_law}
use Rattle.format_survey_print.proofs.put.put_edges.Goals as goal

pub loop-e-init : goal.loop-e-init
loop-e-init c = let a = c.args in wrote_as (wrote_none a.out.now a.at) (text_table_none edge_text _)

pub loop-e-preserved : goal.loop-e-preserved
loop-e-preserved c =
    let a = c.args in
    let small : length a.out.now ≤ farthest = omega arith in
    let here : edge_with c.from-first.result c.from-second.result c.from-weight.result ≡ edge_at a.firsts.now a.seconds.now a.weights.now c.loop-e.e =
    rw (c.from-first.ensures, c.from-second.ensures, c.at.ensures, c.from-weight.ensures, c.at-in-loop-e.ensures) in
    wrote_as (wrote_then small c.loop-e.invariant c.put_edge-next.ensures)
    (ap (λ x. text_of edge_text (tabulate c.loop-e.e (edge_at a.firsts.now a.seconds.now a.weights.now)) ++ edge_text x) here ∙ text_table_law edge_text _ c.loop-e.e)

pub returns : goal.returns
unfolding edges_from
returns c =
    let a = c.args in
    let all : c.loop-e.e ≡ length a.firsts.now = omega arith in
    wrote_as c.loop-e.invariant (ap (λ n. text_of edge_text (tabulate n (edge_at a.firsts.now a.seconds.now a.weights.now))) all)
