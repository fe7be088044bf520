-- `format_stp::terminals::terminals` meets its contract: the groups are made in an array of zeros, and written where all is read.
use mathlib.Core.Path.{ap, sym, ◌∙◌}
use lib.Seq.{sets}
use Rattle.format_read.specs.Answer.{number_step}
use Rattle.format_stp.specs.TerminalsAnswer.{groups_step}
use Rattle.format_stp.proofs.Laws.TerminalTurn.{end_over, end_lent, after_found, after_refused, lent_end, held_part}
use Rattle.format_stp.proofs.terminals.terminals.Goals as goal

-- 1: more vertices than the limit
pub returns-then-vertices-gt-MAX_VERTICES : goal.returns-then-vertices-gt-MAX_VERTICES
unfolding number_step
returns-then-vertices-gt-MAX_VERTICES c = let o = after_refused c.args.groups.now (end_over c.args.vertices c.args.text.now c.args.cursor.at c.if-vertices-gt-MAX_VERTICES.true) in (sym o.0, sym o.1)

-- a line is refused
pub returns-in_default : goal.returns-in_default
unfolding number_step groups_step
returns-in_default c =
    let a = c.args in
    let told = c.in_default.is in
    let e = sym (end_lent a.vertices a.text.now a.cursor.at c.if-vertices-gt-MAX_VERTICES.false) ∙ sym c.terminals_from-step.ensures ∙ ap (λ x. groups_step x c.terminals_from-step.new.groups) told in
    let o = after_refused a.groups.now e in
    (ap number_step told ∙ sym o.0, sym o.1)

pub slice_bounds-put_bytes-end : goal.slice_bounds-put_bytes-end
slice_bounds-put_bytes-end c = lent_end c.args.vertices c.terminals_from-step.new.groups c.if-vertices-gt-MAX_VERTICES.false c.held-2-1.given

pub returns : goal.returns
unfolding number_step groups_step
returns c =
    let a = c.args in
    let held = c.terminals_from-step.new.groups in
    let e = sym (end_lent a.vertices a.text.now a.cursor.at c.if-vertices-gt-MAX_VERTICES.false) ∙ sym c.terminals_from-step.ensures ∙ ap (λ x. groups_step x held) c.in-Value.is in
    let o = after_found a.groups.now e in
    (sym o.0, c.put_bytes.ensures.bytes ∙ ap (sets a.groups.now 0) (held_part a.vertices held c.if-vertices-gt-MAX_VERTICES.false c.held-2-1.given) ∙ sym o.1)
