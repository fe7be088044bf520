-- `floor_text` meets its contract: the refusal of reading is printed (`refused_output`), or the floor of what was read (`said_output`).
use borrow.Author.Rules.{rules}
use mathlib.Core.Path.{ap}
use Prim.Native.Nat.{ℕ}
use lib.ListN.{replicate}
use Rattle.base_limits.specs.Limits.{max_vertices, max_edges, max_pairs}
use Rattle.format_survey.specs.Answer.{counts_outcome}
use Rattle.text_plan.specs.Laws.Read.{survey_buffers, refused_read, counts_few, survey_said}
use Rattle.text_floor.proofs.Laws.Output.{printed_as, refused_output, said_output}
use Rattle.text_floor.proofs.floor_text.Goals as goal

pub slice_bounds-floor_survey-end : goal.slice_bounds-floor_survey-end
unfolding counts_outcome
slice_bounds-floor_survey-end c =
    let a = c.args in
    let few = counts_few a.text.now survey_buffers c.read.ensures.result_value (ap counts_outcome c.in-Survey.is) in
    search (rules, few.0)

pub slice_bounds-floor_survey-end-in-Survey : goal.slice_bounds-floor_survey-end-in-Survey
unfolding counts_outcome
slice_bounds-floor_survey-end-in-Survey c =
    let a = c.args in
    let few = counts_few a.text.now survey_buffers c.read.ensures.result_value (ap counts_outcome c.in-Survey.is) in
    search (rules, few.1.0)

pub slice_bounds-floor_survey-end-in-Survey-2 : goal.slice_bounds-floor_survey-end-in-Survey-2
unfolding counts_outcome
slice_bounds-floor_survey-end-in-Survey-2 c =
    let a = c.args in
    let few = counts_few a.text.now survey_buffers c.read.ensures.result_value (ap counts_outcome c.in-Survey.is) in
    search (rules, few.1.0)

pub slice_bounds-floor_survey-end-in-Survey-3 : goal.slice_bounds-floor_survey-end-in-Survey-3
unfolding counts_outcome
slice_bounds-floor_survey-end-in-Survey-3 c =
    let a = c.args in
    let few = counts_few a.text.now survey_buffers c.read.ensures.result_value (ap counts_outcome c.in-Survey.is) in
    search (rules, few.1.0)

pub slice_bounds-floor_survey-end-in-Survey-4 : goal.slice_bounds-floor_survey-end-in-Survey-4
unfolding counts_outcome
slice_bounds-floor_survey-end-in-Survey-4 c =
    let a = c.args in
    let few = counts_few a.text.now survey_buffers c.read.ensures.result_value (ap counts_outcome c.in-Survey.is) in
    search (rules, few.1.1)

pub slice_bounds-floor_survey-end-in-Survey-5 : goal.slice_bounds-floor_survey-end-in-Survey-5
unfolding counts_outcome
slice_bounds-floor_survey-end-in-Survey-5 c =
    let a = c.args in
    let few = counts_few a.text.now survey_buffers c.read.ensures.result_value (ap counts_outcome c.in-Survey.is) in
    search (rules, few.1.1)

-- the refusal of reading
pub returns-in-Refused : goal.returns-in-Refused
unfolding counts_outcome
returns-in-Refused c =
    let a = c.args in
    let text = refused_output a.text.now (refused_read a.text.now survey_buffers c.read.ensures.result_value (ap counts_outcome c.in-Refused.is)) in
    let whole = printed_as a.out.now text (c.print_refusal.ensures.value, c.print_refusal.ensures.out_value) in record { value = whole.0; out_value = whole.1 }

-- what is printed for the survey
pub returns-in-Survey : goal.returns-in-Survey
unfolding counts_outcome
returns-in-Survey c =
    let a = c.args in
    let told = ap counts_outcome c.in-Survey.is in
    let edges = replicate {A = ℕ} max_edges 0 in
    let pairs = replicate {A = ℕ} max_pairs 0 in
    let said =
    survey_said a.text.now survey_buffers c.read.ensures.result_value told (replicate max_vertices 0) edges edges edges pairs pairs
    c.read.ensures.groups_value c.read.ensures.firsts_value c.read.ensures.seconds_value c.read.ensures.weights_value c.read.ensures.owners_value c.read.ensures.others_value in
    let whole = printed_as a.out.now (said_output said) (c.floor_survey.ensures.result_value, c.floor_survey.ensures.out_value) in record { value = whole.0; out_value = whole.1 }
