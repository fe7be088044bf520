-- `check_printed::verify_plan` meets its contract: a refused plan stays, and what was read is judged.
use native.Mathlib.Omega.{arith}
use borrow.Author.Rules.{rules}
use mathlib.Core.Path.{ap, ◌∙◌}
use lib.ListN.{replicate}
use Rattle.base_limits.specs.Limits.{max_edges, records_room}
use Rattle.survey_core.specs.Survey.{survey_with, edge_count}
use Rattle.format_plan.specs.Plan.{plan_reading}
use Rattle.check_printed.specs.Verify.{plan_from}
use Rattle.format_plan.specs.Answer.{plan_outcome}
use Rattle.check_rule.specs.Check.{Checked}
use Rattle.check_printed.specs.Answer.{refused_only}
use Rattle.check_printed.specs.Laws.Verify.{plan_refused, plan_judged, plan_read_room}
use Rattle.check_printed.proofs.verify_plan.Goals as goal

pub overflow_mul-size : goal.overflow_mul-size
unfolding plan_outcome plan_reading
overflow_mul-size c =
    let a = c.args in
    let few = plan_read_room a.text.now a.at _ max_edges records_room c.read_plan-plan.ensures.0 (ap plan_outcome c.in-Plan.is) in
    omega (arith, few)

pub slice_bounds-judge-end-2 : goal.slice_bounds-judge-end-2
unfolding plan_outcome plan_reading
slice_bounds-judge-end-2 c =
    let a = c.args in
    let few = plan_read_room a.text.now a.at _ max_edges records_room c.read_plan-plan.ensures.0 (ap plan_outcome c.in-Plan.is) in
    search (rules, few)

-- the plan is refused
pub returns-in_default : goal.returns-in_default
unfolding plan_outcome refused_only plan_reading plan_from edge_count
returns-in_default c =
    let a = c.args in
    let s = survey_with a.groups.now a.firsts.now a.seconds.now a.weights.now a.owners.now a.others.now in
    let told = c.in_default.is in
    c.stopped_plan.ensures ∙ ap (λ x. refused_only {B = Checked} (plan_outcome x)) told
    ∙ plan_refused s (plan_from a.text.now s a.at) c.read_plan-plan.ensures.0 (ap plan_outcome told)

-- what was read is judged
pub returns : goal.returns
unfolding plan_outcome plan_reading plan_from edge_count
returns c =
    let a = c.args in
    let s = survey_with a.groups.now a.firsts.now a.seconds.now a.weights.now a.owners.now a.others.now in
    c.judge.ensures ∙ plan_judged s (plan_from a.text.now s a.at) (replicate max_edges 0) (replicate records_room 0) c.read_plan-plan.ensures.0 c.read_plan-plan.ensures.1 c.read_plan-plan.ensures.2 (ap plan_outcome c.in-Plan.is)
