-- `put_groups`: what is written so far are the lines of the vertices before the next.
use lib.ListN.{length, take}
use Rattle.format_write.specs.Key.{node_key}
use Rattle.format_write.specs.Text.{line_of}
use Rattle.format_write.specs.Wrote.{Wrote}
use Rattle.format_read.specs.Lines.{text_of}
use Rattle.format_survey_print.proofs.put.put_groups.Given as goal

abbrev pub invariant-loop-group : goal.invariant-loop-group
invariant-loop-group l = Wrote l.initial.out l.at (text_of (line_of node_key) (take l.group-index l.groups)) l.out l.next
