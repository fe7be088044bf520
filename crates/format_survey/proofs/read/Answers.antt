-- `format_survey::read` meets its contract, by the cases of the counts and of the lines after them.
use Prim.Native.Nat.{ℕ, ◌≤◌}
use mathlib.Core.Path.{◌≡◌, ap, sym, ◌∙◌}
use mathlib.Core.List.{List}
use Rattle.base_limits.specs.Limits.{max_vertices}
use Rattle.format_read.specs.Bytes.{end_at}
use Rattle.format_read.specs.Step.{found, ◌then◌, stopped}
use Rattle.format_read.specs.Answer.{number_step}
use Rattle.format_survey.specs.LinesAnswer.{counts_step}
use Rattle.format_survey.specs.Line.{SurveyLines, lengths_of, lines_at, lines_with, tests_for}
use Rattle.format_survey.proofs.Laws.LinesBody.{with_room_law}
use Rattle.format_survey.specs.Reading.{body_at, body_of, step_outcome}
use Rattle.format_survey.specs.Answer.{TextCounts, counts_outcome, counts_of}
use Rattle.format_survey.proofs.Laws.Reading.{reading_refused, buffer_kept, counts_read_fit}
use Rattle.format_survey.proofs.Laws.Storing.{read_refused, read_found}
use Rattle.format_survey.proofs.read.Goals as goal

-- With room for the groups the lines end as they are to.
decided_body : (room : ℕ) (t : List ℕ) (n m at : ℕ) → n ≤ max_vertices → ((lines_with max_vertices room t n m at).end then λ k p. end_at t p then λ z q. found k q) ≡ (body_of room t n m at).end
unfolding body_of body_at lines_at
decided_body room t n m at h =
    ap (λ (x : SurveyLines). x.end then λ k p. end_at t p then λ z q. found k q) (with_room_law room t n m at {lent = max_vertices} h)

-- the counts are refused
pub returns-in_default : goal.returns-in_default
unfolding counts_outcome counts_of counts_step stopped step_outcome tests_for
returns-in_default c =
    let a = c.args in
    let told = c.in_default.is in
    let r = reading_refused a.text.now (lengths_of a.groups.now a.firsts.now a.seconds.now a.weights.now a.owners.now a.others.now) (sym c.counts-head.ensures ∙ ap counts_step told) in record { result_value = c.stopped_counts.ensures ∙ ap (λ x. step_outcome (stopped {B = TextCounts} (counts_step x))) told ∙ sym (ap counts_of r); groups_value = buffer_kept (λ s. s.groups) a.groups.now r; firsts_value = buffer_kept (λ s. s.firsts) a.firsts.now r; seconds_value = buffer_kept (λ s. s.seconds) a.seconds.now r; weights_value = buffer_kept (λ s. s.weights) a.weights.now r; owners_value = buffer_kept (λ s. s.owners) a.owners.now r; others_value = buffer_kept (λ s. s.others) a.others.now r }

-- a line is refused
pub returns-in_default-found : goal.returns-in_default-found
unfolding counts_outcome counts_of counts_step number_step stopped step_outcome tests_for
returns-in_default-found c =
    let a = c.args in
    let told = c.in_default-found.is in
    let e = sym c.counts-head.ensures ∙ ap counts_step c.in-Counts.is in
    let few = (counts_read_fit a.text.now (lengths_of a.groups.now a.firsts.now a.seconds.now a.weights.now a.owners.now a.others.now) e).0 in
    let r = read_refused a.text.now a.groups.now a.firsts.now a.seconds.now a.weights.now a.owners.now a.others.now e c.pair_room-room.ensures (sym (c.decided-found.ensures ∙ decided_body _ a.text.now _ _ _ few) ∙ ap number_step told) in record { result_value = c.stopped_lines.ensures ∙ ap (λ x. step_outcome (stopped {B = TextCounts} (number_step x))) told ∙ sym (ap counts_of r); groups_value = buffer_kept (λ s. s.groups) a.groups.now r; firsts_value = buffer_kept (λ s. s.firsts) a.firsts.now r; seconds_value = buffer_kept (λ s. s.seconds) a.seconds.now r; weights_value = buffer_kept (λ s. s.weights) a.weights.now r; owners_value = buffer_kept (λ s. s.owners) a.owners.now r; others_value = buffer_kept (λ s. s.others) a.others.now r }

-- all is read
pub returns : goal.returns
unfolding counts_outcome counts_step number_step tests_for
returns c =
    let a = c.args in
    let e = sym c.counts-head.ensures ∙ ap counts_step c.in-Counts.is in
    let few = (counts_read_fit a.text.now (lengths_of a.groups.now a.firsts.now a.seconds.now a.weights.now a.owners.now a.others.now) e).0 in
    let s = read_found a.text.now a.groups.now a.firsts.now a.seconds.now a.weights.now a.owners.now a.others.now e c.pair_room-room.ensures (sym (c.decided-found.ensures ∙ decided_body _ a.text.now _ _ _ few) ∙ ap number_step c.in-Value.is) c.survey_lines.ensures.1 c.survey_lines.ensures.2 c.survey_lines.ensures.3 c.survey_lines.ensures.4 c.survey_lines.ensures.5 c.survey_lines.ensures.6 in
    record { result_value = s.counts; groups_value = s.groups; firsts_value = s.firsts; seconds_value = s.seconds; weights_value = s.weights; owners_value = s.owners; others_value = s.others }
