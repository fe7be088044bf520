-- `format_stp::terminals::terminals_from` meets its contract: a refusal of any part stays, and the groups of the lines are handed on.
use mathlib.Core.Path.{ap, sym, ◌∙◌}
use Rattle.format_read.proofs.Laws.Step.{then_found, then_refused}
use Rattle.format_read.specs.Answer.{number_step}
use Rattle.format_read.proofs.Laws.NumberStep.{value_goes}
use Rattle.format_stp.specs.TerminalsAnswer.{groups_step}
use Rattle.format_stp.specs.Terminals.{terminals_from}
use Rattle.format_stp.proofs.Laws.TerminalTurn.{closes}
use Rattle.format_stp.proofs.terminals.terminals_from.Goals as goal

pub returns-in_default : goal.returns-in_default
unfolding terminals_from groups_step number_step
returns-in_default c =
    let told = c.in_default.is in
    ap (λ x. groups_step x c.args.groups.now) told ∙ sym (then_refused _ (sym c.terminals_announced-one.ensures ∙ ap number_step told))

pub returns-in_default-two : goal.returns-in_default-two
unfolding terminals_from groups_step
returns-in_default-two c =
    let told = c.in_default-two.is in
    let made = c.terminal_lines-two.new.groups in
    ap (λ x. groups_step x made) told
    ∙ sym (then_refused _ (sym c.terminal_lines-two.ensures ∙ ap (λ x. groups_step x made) told))
    ∙ sym (value_goes _ c.terminals_announced-one.ensures c.in-Value.is)

pub returns : goal.returns
unfolding terminals_from groups_step
returns c =
    let made = c.terminal_lines-two.new.groups in
    closes c.terminals_closed.result made c.terminals_closed.ensures
    ∙ sym (then_found _ (sym c.terminal_lines-two.ensures ∙ ap (λ x. groups_step x made) c.in-Value-two.is))
    ∙ sym (value_goes _ c.terminals_announced-one.ensures c.in-Value.is)
