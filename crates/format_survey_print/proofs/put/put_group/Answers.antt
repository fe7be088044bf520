-- `put_group`: the line of the byte's value.
use mathlib.Core.Path.{ap}
use Rattle.format_write.specs.Key.{node_key}
use Rattle.format_write.specs.Text.{line_of}
use Rattle.format_write.proofs.Laws.Wrote.{wrote_as}
use Rattle.format_survey_print.proofs.put.put_group.Goals as goal

pub returns : goal.returns
returns c = wrote_as c.put_line.ensures (ap (line_of node_key) c.from.ensures)
