-- `put_edges`: what is written so far are the lines of the edges below e.
use Rattle.base_finite.specs.Below.{tabulate}
use Rattle.format_write.specs.Wrote.{Wrote}
use Rattle.format_survey.specs.LinesRender.{edge_text}
use Rattle.format_read.specs.Lines.{text_of}
use Rattle.format_survey_print.specs.Print.{edge_at}
use Rattle.format_survey_print.proofs.put.put_edges.Given as goal

abbrev pub invariant-loop-e : goal.invariant-loop-e
invariant-loop-e l =
    Wrote l.initial.out l.at (text_of edge_text (tabulate l.e (edge_at l.firsts l.seconds l.weights))) l.out l.next
