-- `survey_table` meets its contract: the refusal of reading, or the table of what was read.
use mathlib.Core.Path.{ap}
use Prim.Native.Nat.{ℕ}
use lib.ListN.{replicate}
use borrow.Author.Rules.{rules}
use Rattle.base_limits.specs.Limits.{max_vertices, max_edges, max_pairs}
use Rattle.format_survey.specs.Answer.{counts_outcome}
use Rattle.text_plan.specs.Laws.Read.{survey_buffers, refused_read, counts_few, survey_said}
use Rattle.text_table.specs.Laws.TrackTable.{refused_printed, said_printed}
use Rattle.text_table.proofs.survey_table.Goals as goal

pub slice_bounds-put_table-end : goal.slice_bounds-put_table-end
unfolding counts_outcome
slice_bounds-put_table-end c =
    let a = c.args in
    let few = counts_few a.text.now survey_buffers c.read.ensures.result_value (ap counts_outcome c.in-Survey.is) in
    search (rules, few.1.0)

pub slice_bounds-put_table-end-in-Survey : goal.slice_bounds-put_table-end-in-Survey
unfolding counts_outcome
slice_bounds-put_table-end-in-Survey c =
    let a = c.args in
    let few = counts_few a.text.now survey_buffers c.read.ensures.result_value (ap counts_outcome c.in-Survey.is) in
    search (rules, few.1.0)

pub slice_bounds-put_table-end-in-Survey-2 : goal.slice_bounds-put_table-end-in-Survey-2
unfolding counts_outcome
slice_bounds-put_table-end-in-Survey-2 c =
    let a = c.args in
    let few = counts_few a.text.now survey_buffers c.read.ensures.result_value (ap counts_outcome c.in-Survey.is) in
    search (rules, few.1.0)

-- the refusal of reading
pub returns-in-Refused : goal.returns-in-Refused
unfolding counts_outcome
returns-in-Refused c =
    let a = c.args in
    let whole = refused_printed a.text.now a.out.now (refused_read a.text.now survey_buffers c.read.ensures.result_value (ap counts_outcome c.in-Refused.is)) in record { value = whole.0; out_value = whole.1 }

-- the table
pub returns-in-Survey : goal.returns-in-Survey
unfolding counts_outcome
returns-in-Survey c =
    let a = c.args in
    let told = ap counts_outcome c.in-Survey.is in
    let edges = replicate {A = ℕ} max_edges 0 in
    let pairs = replicate {A = ℕ} max_pairs 0 in
    let said =
    survey_said a.text.now survey_buffers c.read.ensures.result_value told (replicate max_vertices 0) edges edges edges pairs pairs
    c.read.ensures.groups_value c.read.ensures.firsts_value c.read.ensures.seconds_value c.read.ensures.weights_value c.read.ensures.owners_value c.read.ensures.others_value in
    let whole = said_printed a.text.now a.out.now said (c.put_table.ensures.value, c.put_table.ensures.out_value) in record { value = whole.0; out_value = whole.1 }
