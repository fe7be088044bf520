-- `format_stp::terminals::terminal_lines` meets its contract: what is left to read, from the groups so far, is what the whole reads.
use mathlib.Core.Path.{refl, ap, sym, ◌∙◌}
use lib.ListN.{length-set}
use Rattle.format_read.specs.Answer.{number_step}
use Rattle.format_stp.specs.TerminalsAnswer.{groups_step}
use Rattle.format_stp.proofs.Laws.TerminalTurn.{terminals_on, terminals_stop, terminals_done}
use Rattle.format_stp.proofs.terminals.terminal_lines.Goals as goal

pub loop-left-init : goal.loop-left-init
loop-left-init c = record { long = refl; rest = refl }

-- a line is refused
pub returns-in_default : goal.returns-in_default
unfolding groups_step number_step
returns-in_default c =
    let a = c.args in
    let told = c.in_default.is in
    ap (λ x. groups_step x c.loop-left.groups) told
    ∙ sym (terminals_stop a.vertices c.loop-left._left c.loop-left.groups a.text.now c.loop-left.next.at c.loop-left-test.true (sym c.terminal_line-step.ensures ∙ ap number_step told))
    ∙ c.loop-left.invariant.rest

pub loop-left-preserved : goal.loop-left-preserved
unfolding number_step
loop-left-preserved c =
    let a = c.args in
    let on = terminals_on a.vertices c.loop-left._left c.loop-left.groups a.text.now c.loop-left.next.at c.loop-left-test.true (sym c.terminal_line-step.ensures ∙ ap number_step c.in-Value.is) in
    record {
      long = rw c.put.ensures (length-set c.loop-left.groups c.saturating_sub.result 1 ∙ c.loop-left.invariant.long);
      rest = rw (c.put.ensures, c.saturating_sub.ensures) (sym on ∙ c.loop-left.invariant.rest);
    }

-- all lines are read
pub returns : goal.returns
unfolding groups_step
returns c =
    let a = c.args in
    sym (terminals_done a.vertices c.loop-left._left c.loop-left.groups a.text.now c.loop-left.next.at c.loop-left-test.false) ∙ c.loop-left.invariant.rest
