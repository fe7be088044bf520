-- `why_text` meets its contract: the refusal of reading is printed (`why_refused_output`), or the track of what was read is explained (`why_said_output`).
use native.Mathlib.Omega.{arith}
use borrow.Author.Rules.{rules}
use mathlib.Core.Path.{ap}
use Prim.Native.Nat.{ℕ}
use lib.ListN.{replicate}
use Rattle.base_limits.specs.Limits.{max_vertices, max_edges, max_pairs, why_room}
use Rattle.format_survey.specs.Answer.{counts_outcome}
use Rattle.format_print.specs.Laws.Print.{prints_as}
use Rattle.text_plan.specs.Laws.Read.{survey_buffers, refused_read, counts_few, survey_said}
use Rattle.text_why.specs.Laws.Output.{why_refusal_fits, why_refused_output, why_said_output}
use Rattle.text_why.proofs.why_text.Goals as goal

pub slice_bounds-why_survey-end : goal.slice_bounds-why_survey-end
unfolding counts_outcome
slice_bounds-why_survey-end c =
    let a = c.args in
    let few = counts_few a.text.now survey_buffers c.read.ensures.result_value (ap counts_outcome c.in-Survey.is) in
    search (rules, few.0)

pub slice_bounds-why_survey-end-in-Survey : goal.slice_bounds-why_survey-end-in-Survey
unfolding counts_outcome
slice_bounds-why_survey-end-in-Survey c =
    let a = c.args in
    let few = counts_few a.text.now survey_buffers c.read.ensures.result_value (ap counts_outcome c.in-Survey.is) in
    search (rules, few.1.0)

pub slice_bounds-why_survey-end-in-Survey-2 : goal.slice_bounds-why_survey-end-in-Survey-2
unfolding counts_outcome
slice_bounds-why_survey-end-in-Survey-2 c =
    let a = c.args in
    let few = counts_few a.text.now survey_buffers c.read.ensures.result_value (ap counts_outcome c.in-Survey.is) in
    search (rules, few.1.0)

pub slice_bounds-why_survey-end-in-Survey-3 : goal.slice_bounds-why_survey-end-in-Survey-3
unfolding counts_outcome
slice_bounds-why_survey-end-in-Survey-3 c =
    let a = c.args in
    let few = counts_few a.text.now survey_buffers c.read.ensures.result_value (ap counts_outcome c.in-Survey.is) in
    search (rules, few.1.0)

pub slice_bounds-why_survey-end-in-Survey-4 : goal.slice_bounds-why_survey-end-in-Survey-4
unfolding counts_outcome
slice_bounds-why_survey-end-in-Survey-4 c =
    let a = c.args in
    let few = counts_few a.text.now survey_buffers c.read.ensures.result_value (ap counts_outcome c.in-Survey.is) in
    search (rules, few.1.1)

pub slice_bounds-why_survey-end-in-Survey-5 : goal.slice_bounds-why_survey-end-in-Survey-5
unfolding counts_outcome
slice_bounds-why_survey-end-in-Survey-5 c =
    let a = c.args in
    let few = counts_few a.text.now survey_buffers c.read.ensures.result_value (ap counts_outcome c.in-Survey.is) in
    search (rules, few.1.1)

-- the refusal of reading
pub returns-in-Refused : goal.returns-in-Refused
unfolding counts_outcome
returns-in-Refused c =
    let a = c.args in
    let text = why_refused_output a.text.now a.track (refused_read a.text.now survey_buffers c.read.ensures.result_value (ap counts_outcome c.in-Refused.is)) in
    let whole = prints_as why_room a.out.now text (c.print_refusal.ensures.value, c.print_refusal.ensures.out_value) (why_refusal_fits _ _ (omega arith) (omega arith)) in record { value = whole.0; out_value = whole.1.0; fits = whole.1.1 }

-- what is printed for the survey
pub returns-in-Survey : goal.returns-in-Survey
unfolding counts_outcome
returns-in-Survey c =
    let a = c.args in
    let told = ap counts_outcome c.in-Survey.is in
    let edges = replicate {A = ℕ} max_edges 0 in
    let pairs = replicate {A = ℕ} max_pairs 0 in
    let said =
    survey_said a.text.now survey_buffers c.read.ensures.result_value told (replicate max_vertices 0) edges edges edges pairs pairs
    c.read.ensures.groups_value c.read.ensures.firsts_value c.read.ensures.seconds_value c.read.ensures.weights_value c.read.ensures.owners_value c.read.ensures.others_value in
    let whole = prints_as why_room a.out.now (why_said_output a.track said) (c.why_survey.ensures.result_value, c.why_survey.ensures.out_value) c.why_survey.ensures.fits in record { value = whole.0; out_value = whole.1.0; fits = whole.1.1 }
