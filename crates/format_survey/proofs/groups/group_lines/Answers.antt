-- `format_survey::groups::group_lines` meets its contract: what is left to read and to store is what the whole reads and stores.
use native.Mathlib.Omega.{arith}
use mathlib.Core.Path.{◌≡◌, ap, sym, ◌∙◌}
use lib.Seq.{sets}
use Rattle.format_read.specs.Step.{found}
use Rattle.format_survey.specs.Line.{group_line, group_lines, group_test}
use Rattle.format_read.specs.Answer.{number_step}
use Rattle.format_survey.proofs.Laws.Tests.{group_below}
use Rattle.format_read.proofs.Laws.Lines.{left_start, stored_start, left_more, left_stop, left_done, stored_more, stored_stop, stored_done, map_same}
use Rattle.format_survey.proofs.groups.group_lines.Goals as goal

pub loop-vertex-init : goal.loop-vertex-init
unfolding group_lines
loop-vertex-init c =
    let a = c.args in
    let line = group_line group_test a.text.now in
    (left_start line a.count a.cursor.at, stored_start line a.count a.cursor.at (λ g. g) a.groups.now)

-- the items end
pub returns-in_default : goal.returns-in_default
unfolding number_step
returns-in_default c =
    let a = c.args in
    let e : group_line group_test a.text.now c.loop-vertex.vertex c.loop-vertex.next.at ≡ _ = sym c.group_line-step.ensures ∙ ap number_step c.in_default.is in (
      ap number_step c.in_default.is ∙ left_stop _ _ _ _ _ c.loop-vertex-test.true e c.loop-vertex.invariant.0,
      stored_stop _ _ _ _ _ _ _ _ c.loop-vertex-test.true e c.loop-vertex.invariant.1 ∙ ap (sets a.groups.now 0) (map_same (group_lines group_test a.text.now a.count a.cursor.at).values),
    )

pub overflow_cast-value : goal.overflow_cast-value
unfolding number_step
overflow_cast-value c =
    let k = group_below c.args.text.now c.loop-vertex.vertex c.loop-vertex.next.at (sym c.group_line-step.ensures ∙ ap number_step c.in-Value.is) in
    omega arith

pub loop-vertex-preserved : goal.loop-vertex-preserved
unfolding number_step
loop-vertex-preserved c =
    let a = c.args in
    let e : group_line group_test a.text.now c.loop-vertex.vertex c.loop-vertex.next.at ≡ found c.in-Value.value c.in-Value.after.at = sym c.group_line-step.ensures ∙ ap number_step c.in-Value.is in
    let h = c.loop-vertex-test.true in
    (left_more _ _ _ _ _ h e c.loop-vertex.invariant.0, rw c.put.ensures (stored_more _ _ _ _ _ (λ g. g) _ _ h e c.loop-vertex.invariant.1))

-- all lines are read
pub returns : goal.returns
unfolding number_step
returns c =
    let a = c.args in (
      left_done _ _ _ _ _ c.loop-vertex-test.false c.loop-vertex.invariant.0,
      stored_done _ _ _ _ _ _ _ _ c.loop-vertex-test.false c.loop-vertex.invariant.1 ∙ ap (sets a.groups.now 0) (map_same (group_lines group_test a.text.now a.count a.cursor.at).values),
    )
