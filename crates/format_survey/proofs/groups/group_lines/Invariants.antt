-- `format_survey::groups::group_lines` meets its contract: what is left to read and to store is what the whole reads and stores.
use Rattle.format_survey.specs.Line.{group_line, group_lines, group_test}
use Rattle.format_read.proofs.Laws.Lines.{LinesLeft, Stored}
use Rattle.format_survey.proofs.groups.group_lines.Given as goal

abbrev pub invariant-loop-vertex : goal.invariant-loop-vertex
invariant-loop-vertex l =
    LinesLeft (group_line group_test l.text) (group_lines group_test l.text l.count l.initial.next.at) l.count l.vertex l.next.at
    × Stored (group_line group_test l.text) (group_lines group_test l.text l.count l.initial.next.at) l.count l.vertex l.next.at (λ g. g) l.initial.groups l.groups
