-- `strength_lines` meets its contract: what is left to read and to store is what the whole reads and stores.
use native.Mathlib.Omega.{arith}
use mathlib.Core.Path.{ap, sym, ◌∙◌}
use borrow.Author.Tests.{le-leb, lt-leb}
use Rattle.format_read.specs.Step.{stopped}
use Rattle.format_read.specs.Answer.{number_step}
use Rattle.format_read.proofs.Laws.Items.{left_start, left_more, left_stop, left_refused, left_out_law}
use Rattle.text_winter.specs.Given.{given_reader, given_turns, givens_at, put_strength, given_step}
use Rattle.text_winter.proofs.Laws.Given.{line_passes}
use borrow.Author.Rules.{rules}
use Rattle.text_winter.proofs.given.strength_lines.Goals as goal

pub loop-i-init : goal.loop-i-init
unfolding givens_at
loop-i-init c =
    left_start (given_reader c.args.text.now) put_strength given_turns 0 c.args.cursor.at c.args.strengths.now

-- the text ends
pub returns-then-text-at : goal.returns-then-text-at
unfolding number_step given_reader
returns-then-text-at c =
    let done = left_stop _ _ _ _ _ _ _ _ _ c.loop-i-test.true (le-leb _ _ c.if-text-at.true) c.loop-i.invariant in
    record { result_value = done.end; strengths_value = done.stored }

-- a line is refused
pub returns-in_default : goal.returns-in_default
unfolding number_step given_step stopped given_reader
returns-in_default c =
    let told = c.in_default.is in
    let done = left_refused _ _ _ _ _ _ _ _ _ c.loop-i-test.true (lt-leb _ _ c.if-text-at.false) (sym c.given_line-line.ensures ∙ ap given_step told) c.loop-i.invariant in
    record { result_value = c.stopped_line.ensures ∙ ap (λ x. stopped (given_step x)) told ∙ done.end; strengths_value = done.stored }

pub overflow_sub-group : goal.overflow_sub-group
unfolding given_step
overflow_sub-group c =
    let passes = line_passes c.args.text.now c.loop-i.low c.loop-i.next.at (sym c.given_line-line.ensures ∙ ap given_step c.in-Given.is) in
    let rises = passes.rises in
    search (rules, rises)

pub overflow_cast-strength : goal.overflow_cast-strength
unfolding given_step
overflow_cast-strength c =
    let most = (line_passes c.args.text.now c.loop-i.low c.loop-i.next.at (sym c.given_line-line.ensures ∙ ap given_step c.in-Given.is)).strength.most in
    omega (arith, most)

pub loop-i-preserved : goal.loop-i-preserved
unfolding given_step given_reader
loop-i-preserved c =
    rw c.put.ensures
    (left_more _ _ _ _ _ _ _ _ _ c.loop-i-test.true (lt-leb _ _ c.if-text-at.false) (sym c.given_line-line.ensures ∙ ap given_step c.in-Given.is) c.loop-i.invariant)

-- 16: no turn left
pub returns : goal.returns
unfolding number_step given_reader
returns c =
    let done = left_out_law _ _ _ _ _ _ _ _ _ c.loop-i-test.false c.loop-i.invariant in
    record { result_value = done.end; strengths_value = done.stored }
