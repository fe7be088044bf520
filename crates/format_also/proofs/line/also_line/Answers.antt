-- `format_also::line::also_line` meets its contract: a line past the last is malformed, another is read and then tested.
use native.Mathlib.Omega.{arith}
use Prim.Native.Nat.{◌≤◌}
use mathlib.Core.Path.{ap, sym, ◌∙◌}
use Rattle.base_limits.specs.Limits.{max_pairs}
use Rattle.format_also.specs.Answer.{pair_step}
use Rattle.format_also.specs.Laws.Tests.{pair_digits, line_past, line_malformed, line_refused, line_fine}
use Rattle.format_also.proofs.line.also_line.Goals as goal

-- 16: past the last line that may be
pub returns-then-i-ge-MAX_PAIRS : goal.returns-then-i-ge-MAX_PAIRS
unfolding pair_step
returns-then-i-ge-MAX_PAIRS c =
    let a = c.args in
    let h = c.if-i-ge-MAX_PAIRS.true in
    let many : max_pairs ≤ a.i = omega arith in
    sym (line_past a.text.now a.groups.now a.room a.low a.i a.cursor.at many)

-- the line is malformed
pub returns-in_default : goal.returns-in_default
unfolding pair_step
returns-in_default c =
    let a = c.args in
    let told = c.in_default.is in
    ap pair_step told
    ∙ sym (line_malformed a.text.now a.groups.now a.room a.low a.i a.cursor.at c.if-i-ge-MAX_PAIRS.false (sym c.pair_at-line.ensures ∙ ap pair_step told))

pub overflow_cast-owner : goal.overflow_cast-owner
unfolding pair_step
overflow_cast-owner c =
    let a = c.args in
    let digits = pair_digits a.text.now a.cursor.at (sym c.pair_at-line.ensures ∙ ap pair_step c.in-Pair.is) in
    let k = digits.owner in
    omega arith

pub overflow_cast-other : goal.overflow_cast-other
unfolding pair_step
overflow_cast-other c =
    let a = c.args in
    let digits = pair_digits a.text.now a.cursor.at (sym c.pair_at-line.ensures ∙ ap pair_step c.in-Pair.is) in
    let k = digits.other in
    omega arith

-- the pair passes
pub returns-in-Fine : goal.returns-in-Fine
unfolding pair_step
returns-in-Fine c =
    let a = c.args in
    let told = c.in-Pair.is in
    sym
    (line_fine a.text.now a.groups.now a.room a.low a.i a.cursor.at c.if-i-ge-MAX_PAIRS.false (sym c.pair_at-line.ensures ∙ ap pair_step told)
    (sym c.pair_test.ensures ∙ c.in-Fine.is))

-- the pair is refused
pub returns-in-Refused : goal.returns-in-Refused
unfolding pair_step
returns-in-Refused c =
    let a = c.args in
    let told = c.in-Pair.is in
    sym
    (line_refused a.text.now a.groups.now a.room a.low a.i a.cursor.at c.if-i-ge-MAX_PAIRS.false (sym c.pair_at-line.ensures ∙ ap pair_step told)
    (sym c.pair_test.ensures ∙ c.in-Refused.is))
