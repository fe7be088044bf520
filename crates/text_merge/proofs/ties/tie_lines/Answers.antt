-- `tie_lines` meets its contract: what is left to read, to store and to count is what the whole reads, stores and counts.
use mathlib.Core.Path.{refl}
use native.Mathlib.Omega.{arith}
use mathlib.Core.Path.{ap, sym, ◌∙◌}
use borrow.Author.Tests.{le-leb, lt-leb}
use Rattle.format_read.specs.Step.{stopped}
use Rattle.format_read.specs.Answer.{number_step}
use Rattle.format_also.specs.Answer.{pair_step}
use Rattle.text_merge.specs.Ties.{tie_reader, tie_lines}
use Rattle.text_merge.specs.Laws.Ties.{line_digits}
use Rattle.text_merge.specs.Laws.Turn.{ties_start, ties_more, ties_stop, ties_refused, ties_out, ties_ended}
use Rattle.text_merge.proofs.ties.tie_lines.Goals as goal

pub loop-i-init : goal.loop-i-init
unfolding tie_lines
loop-i-init c = ties_start (tie_reader c.args.text.now) 0 c.args.firsts.now c.args.seconds.now

-- the lines end
pub returns-then-text-at : goal.returns-then-text-at
unfolding number_step tie_reader
returns-then-text-at c = ties_ended c.args.text.now c.args.firsts.now c.args.seconds.now (ties_stop _ _ _ _ _ _ _ _ _ c.loop-i.invariant refl c.loop-i-test.true (le-leb _ _ c.if-text-at.true))

-- a line is refused
pub returns-in_default : goal.returns-in_default
unfolding number_step pair_step stopped tie_reader
returns-in_default c = let told = c.in_default.is in let done = ties_ended c.args.text.now c.args.firsts.now c.args.seconds.now (ties_refused _ _ _ _ _ _ _ _ _ c.loop-i.invariant c.loop-i-test.true (lt-leb _ _ c.if-text-at.false) (sym c.tie_line-line.ensures ∙ ap pair_step told)) in (c.stopped_line.ensures ∙ ap (λ x. stopped (pair_step x)) told ∙ done.0, done.1, done.2)

pub overflow_cast-owner : goal.overflow_cast-owner
unfolding pair_step
overflow_cast-owner c = let p = line_digits c.args.text.now c.loop-i.i c.loop-i.next.at (sym c.tie_line-line.ensures ∙ ap pair_step c.in-Pair.is) in let k = p.first in omega arith

pub overflow_cast-other : goal.overflow_cast-other
unfolding pair_step
overflow_cast-other c = let p = line_digits c.args.text.now c.loop-i.i c.loop-i.next.at (sym c.tie_line-line.ensures ∙ ap pair_step c.in-Pair.is) in let k = p.second in omega arith

pub loop-i-preserved : goal.loop-i-preserved
unfolding pair_step tie_reader
loop-i-preserved c = rw (c.put.ensures, c.put-in-loop-i.ensures) (ties_more _ _ _ _ _ _ _ _ _ c.loop-i.invariant c.loop-i-test.true (lt-leb _ _ c.if-text-at.false) (sym c.tie_line-line.ensures ∙ ap pair_step c.in-Pair.is))

-- 16: no turn left
pub returns : goal.returns
unfolding number_step tie_reader
returns c = ties_ended c.args.text.now c.args.firsts.now c.args.seconds.now (ties_out _ _ _ _ _ _ _ _ _ c.loop-i.invariant c.loop-i-test.false)
