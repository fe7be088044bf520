-- `winter_lines` meets its contract: refused lines stay (`lines_refused`), or what follows the survey that was read (`lines_read`).
use Prim.Native.Nat.{ℕ}
use mathlib.Core.Path.{ap}
use lib.ListN.{replicate}
use Rattle.base_limits.specs.Limits.{max_edges, max_vertices, max_pairs}
use Rattle.format_read.specs.Answer.{number_step}
use Rattle.check_printed.specs.Laws.Verify.{lines_pairs}
use Rattle.text_winter.proofs.Laws.Output.{printed_as, lines_refused, lines_read}
use borrow.Author.Rules.{rules}
use Rattle.text_winter.proofs.winter_lines.Goals as goal

pub slice_bounds-winter_given-end-in-Value-4 : goal.slice_bounds-winter_given-end-in-Value-4
unfolding number_step
slice_bounds-winter_given-end-in-Value-4 c =
    let a = c.args in
    let pairs = lines_pairs a.text.now a.vertices a.edges a.cursor.at max_vertices c.requires.0 c.survey_lines.ensures.0 (ap number_step c.in-Value.is) in
    search (rules, pairs)

pub slice_bounds-winter_given-end-in-Value-5 : goal.slice_bounds-winter_given-end-in-Value-5
unfolding number_step
slice_bounds-winter_given-end-in-Value-5 c =
    let a = c.args in
    let pairs = lines_pairs a.text.now a.vertices a.edges a.cursor.at max_vertices c.requires.0 c.survey_lines.ensures.0 (ap number_step c.in-Value.is) in
    search (rules, pairs)

pub returns-in-Refused : goal.returns-in-Refused
unfolding number_step
returns-in-Refused c =
    let a = c.args in
    let whole = printed_as a.out.now (lines_refused a.text.now a.vertices a.edges a.cursor.at max_vertices c.requires.0 c.survey_lines.ensures.0 (ap number_step c.in-Refused.is)) (c.print_refusal.ensures.value, c.print_refusal.ensures.out_value) in record { result_value = whole.0; out_value = whole.1 }

pub returns-in-Value : goal.returns-in-Value
unfolding number_step
returns-in-Value c =
    let a = c.args in
    let none = replicate {A = ℕ} max_edges 0 in
    let whole = printed_as a.out.now
    (lines_read a.text.now a.vertices a.edges a.cursor.at (replicate max_vertices 0) none none none (replicate max_pairs 0) (replicate max_pairs 0)
    record { groups_long = c.requires.0; firsts_long = c.requires.1; seconds_long = c.requires.1; weights_long = c.requires.1; owners_long = search rules; others_long = search rules }
    c.survey_lines.ensures.0
    record { groups_set = c.survey_lines.ensures.1; firsts_set = c.survey_lines.ensures.2; seconds_set = c.survey_lines.ensures.3; weights_set = c.survey_lines.ensures.4; owners_set = c.survey_lines.ensures.5; others_set = c.survey_lines.ensures.6 }
    (ap number_step c.in-Value.is)) (c.winter_given.ensures.result_value, c.winter_given.ensures.out_value) in record { result_value = whole.0; out_value = whole.1 }
