-- `format_read::line::ends` meets its contract: each of the two bytes has a class of its own.
use mathlib.Core.Path.{◌∙◌}
use Rattle.format_read.specs.Number.{stop_of}
use Rattle.format_read.proofs.Laws.Byte.{is_line_end, is_comma_law}
use Rattle.format_read.proofs.line.ends.Goals as goal

pub returns-then-comma : goal.returns-then-comma
unfolding stop_of
returns-then-comma c =
    let a = c.args in
    rw c.if-comma.true (c.is_class.ensures ∙ is_comma_law a.text.now a.at)

pub returns : goal.returns
unfolding stop_of
returns c =
    let a = c.args in
    rw c.if-comma.false (c.is_class-2.ensures ∙ is_line_end a.text.now a.at)
