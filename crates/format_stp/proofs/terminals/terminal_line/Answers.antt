-- `format_stp::terminals::terminal_line` meets its contract: the word, and a number of a vertex in no group.
use mathlib.Core.Path.{sym, ◌∙◌}
use Rattle.format_read.proofs.Laws.NumberStep.{refusal_stays, value_goes}
use Rattle.format_stp.specs.StpNumber.{stop_byte}
use Rattle.format_stp.specs.StpReading.{stp_line, terminal_line}
use Rattle.format_stp.specs.StpWord.{after_empty}
use Rattle.format_stp.proofs.terminals.terminal_line.Goals as goal

pub returns-in_default : goal.returns-in_default
unfolding after_empty stp_line terminal_line
returns-in_default c = refusal_stays _ c.line-word.ensures c.in_default.is

pub returns : goal.returns
unfolding after_empty stp_line terminal_line stop_byte
returns c = c.free_number.ensures ∙ sym (value_goes _ c.line-word.ensures c.in-Value.is)
