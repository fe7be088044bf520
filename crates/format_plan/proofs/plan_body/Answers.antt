-- `format_plan::plan_body` meets its contract: a refused keep line stays, and the moat lines follow the keep lines.
use mathlib.Core.Path.{ap, sym, ◌∙◌}
use Rattle.format_read.specs.Items.{puts}
use Rattle.format_read.specs.Answer.{number_step}
use Rattle.format_plan.specs.Lines.{put_dual}
use Rattle.format_plan.specs.Plan.{plan_lines_at}
use Rattle.format_plan.proofs.Laws.Reading.{plan_lines_refused, plan_lines_found}
use Rattle.format_plan.proofs.plan_body.Goals as goal

-- a keep line is refused
pub returns-in_default : goal.returns-in_default
unfolding number_step plan_lines_at puts
returns-in_default c =
    let a = c.args in
    let told = ap number_step c.in_default.is in
    let l = plan_lines_refused a.text.now a.edges a.cursor.at (sym c.keep_lines-kept.ensures.end ∙ told) in
    (told ∙ sym l.0, c.keep_lines-kept.ensures.stored, sym (ap (puts put_dual a.records.now 0) l.1))

-- the moat lines follow
pub returns : goal.returns
unfolding number_step plan_lines_at
returns c =
    let a = c.args in
    let l = plan_lines_found a.text.now a.edges a.cursor.at (sym c.keep_lines-kept.ensures.end ∙ ap number_step c.in-Value.is) in
    (c.dual_lines.ensures.end ∙ sym l.0, c.keep_lines-kept.ensures.stored, c.dual_lines.ensures.stored ∙ sym (ap (puts put_dual a.records.now 0) l.1))
