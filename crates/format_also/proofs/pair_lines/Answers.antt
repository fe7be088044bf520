-- `format_also::pair_lines` meets its contract: what is left to read, to store and to count is what the whole reads, stores and counts.
use mathlib.Core.Path.{refl}
use native.Mathlib.Omega.{arith}
use mathlib.Core.Path.{ap, sym, ◌∙◌}
use mathlib.Core.Bool.{not}
use Rattle.format_read.specs.Step.{stopped}
use Rattle.format_read.specs.Answer.{number_step}
use Rattle.format_read.proofs.Laws.Byte.{is_also}
use Rattle.format_also.specs.Pair.{also_reader, also_at}
use Rattle.format_also.specs.Answer.{pair_step}
use Rattle.format_also.specs.Laws.Tests.{line_passed}
use Rattle.format_also.specs.Laws.Turn.{pairs_start, pairs_more, pairs_stop, pairs_refused, pairs_out, pairs_ended}
use Rattle.format_also.proofs.pair_lines.Goals as goal

pub loop-i-init : goal.loop-i-init
unfolding also_at
loop-i-init c =
    let a = c.args in
    pairs_start (also_reader a.text.now a.groups.now a.room) a.cursor.at a.owners.now a.others.now

-- the lines end
pub returns-then-not-is_class : goal.returns-then-not-is_class
unfolding number_step also_reader
returns-then-not-is_class c =
    let a = c.args in
    pairs_ended a.text.now a.groups.now a.owners.now a.others.now a.cursor.at a.room
    (pairs_stop _ _ _ _ _ _ _ _ _ c.loop-i.invariant refl c.loop-i-test.true (ap not (sym (c.is_class.ensures ∙ is_also _ _) ∙ c.if-not-is_class.true)))

-- a line is refused
pub returns-in_default : goal.returns-in_default
unfolding number_step pair_step stopped also_reader
returns-in_default c =
    let a = c.args in
    let told = c.in_default.is in
    let done = pairs_ended a.text.now a.groups.now a.owners.now a.others.now a.cursor.at a.room
    (pairs_refused _ _ _ _ _ _ _ _ _ c.loop-i.invariant c.loop-i-test.true (ap not (sym (c.is_class.ensures ∙ is_also _ _) ∙ c.if-not-is_class.false)) (sym c.also_line-line.ensures ∙ ap pair_step told)) in
    (c.stopped_line.ensures ∙ ap (λ x. stopped (pair_step x)) told ∙ done.0, done.1, done.2)

pub overflow_cast-vertex : goal.overflow_cast-vertex
unfolding pair_step
overflow_cast-vertex c =
    let a = c.args in
    let p = line_passed a.text.now a.groups.now a.room c.loop-i.low c.loop-i.i c.loop-i.next.at (sym c.also_line-line.ensures ∙ ap pair_step c.in-Pair.is) in
    let k = p.digits.owner in
    omega arith

pub overflow_cast-group : goal.overflow_cast-group
unfolding pair_step
overflow_cast-group c =
    let a = c.args in
    let p = line_passed a.text.now a.groups.now a.room c.loop-i.low c.loop-i.i c.loop-i.next.at (sym c.also_line-line.ensures ∙ ap pair_step c.in-Pair.is) in
    let k = p.passes.group in
    omega arith

pub loop-i-preserved : goal.loop-i-preserved
unfolding pair_step also_reader
loop-i-preserved c =
    rw (c.put.ensures, c.put-in-loop-i.ensures, c.rank-low.ensures, c.from.ensures)
    (pairs_more _ _ _ _ _ _ _ _ _ c.loop-i.invariant c.loop-i-test.true (ap not (sym (c.is_class.ensures ∙ is_also _ _) ∙ c.if-not-is_class.false)) (sym c.also_line-line.ensures ∙ ap pair_step c.in-Pair.is))

-- 16: no turn left
pub returns : goal.returns
unfolding number_step also_reader
returns c =
    let a = c.args in
    pairs_ended a.text.now a.groups.now a.owners.now a.others.now a.cursor.at a.room (pairs_out _ _ _ _ _ _ _ _ _ c.loop-i.invariant c.loop-i-test.false)
