-- Laws of what `plan` prints: the outcome of the whole by the outcomes of reading and of planning, and that `plan_room` bytes hold it.
use Rattle.std.specs.Prelude.{ℕ, ◌*◌, ◌-◌, ◌^◌, ◌≤◌, ◌<◌, ◌≡◌, replicate}
use Rattle.std.proofs.Common.{arith, ◌∙◌}
use Rattle.std.proofs.Math.Nat.{sub-zero}
use Rattle.std.proofs.Math.Path.{ap, ap₂, sym, subst}
use mathlib.Core.List.{List}
use Rattle.std.proofs.Math.ListN.{length, take}
use Rattle.std.proofs.lemmas.List.{length-replicate}
use Rattle.base_finite.specs.Laws.Below.{length_tabulate}
use Rattle.base_limits.specs.Limits.{max_edges, max_duals, record_bytes, records_room, plan_room}
use Rattle.base_limits.specs.Verdict.{Outcome, refusal, answer, outcome}
use Rattle.base_limits.specs.Laws.Verdict.{answer_fine, refusal_found}
use Rattle.base_limits.specs.declared.Verdict.{Verdict}
use Rattle.base_limits.specs.declared.Verdict.TheVariants.{Fine, Refused}
use Rattle.format_write.specs.Text.{plan_text, refusal_text}
use Rattle.format_print.specs.Laws.Room.{plan_text_le, refusal_text_le}
use Rattle.theory_steiner.proofs.Laws.Rounds.{grown_reached}
use Rattle.theory_steiner.proofs.Laws.Dual.{duals_count}
use Rattle.survey_core.specs.Survey.{Survey, vertex_count, edge_count, problem_of}
use Rattle.survey_core.specs.Sound.{ByteGroups}
use Rattle.survey_core.proofs.Laws.Refusal.{survey_sound}
use Rattle.plan_draw.specs.Drawing.{records_of}
use Rattle.plan_draw.proofs.Laws.Drawing.{bytes_records, length_records}
use Rattle.plan_rule.specs.Plan.{plan_of, plan_refusal, planning, PlanCounts, plan_counts_of, counting, marks_after, records_after}
use Rattle.plan_rule.specs.Promise.{Ready}
use Rattle.plan_rule.proofs.Laws.Ready.{fine_ready}
use Rattle.plan_rule.proofs.Laws.Promise.{cut_marks, cut_records}
use Rattle.text_plan.specs.Laws.Read.{SaidBy}
use Rattle.text_plan.specs.Output.{survey_read, survey_plan, read_plan, text_plan, outcome_text, survey_output, plan_output}

-- ---- reading

pub refused_output : (t : List ℕ) {n p : ℕ} → survey_read t ≡ refusal n p → refusal_text n p ≡ plan_output t
unfolding plan_output text_plan read_plan outcome_text
refused_output t refused = ap (λ o. outcome_text (read_plan o)) (sym refused)

-- What is printed for a survey in buffers is what is printed for the text that says it.
pub said_output : {t : List ℕ} {s : Survey} → SaidBy t s → survey_output s ≡ plan_output t
unfolding survey_output plan_output text_plan read_plan
said_output h = ap (λ s. outcome_text (survey_plan s)) h.same ∙ ap (λ o. outcome_text (read_plan o)) (sym h.is)

-- ---- planning

-- A refusal's lines fit the room for plans.
pub refusal_fits : (number place : ℕ) → number < 2 ^ 64 → place < 2 ^ 64 → length (refusal_text number place) ≤ plan_room
refusal_fits number place hn hp = let l = refusal_text_le number place hn hp in omega arith

-- Buffers of the limits' sizes for marks and records, as of zeros.
pub record PlanBuffers (marks records : List ℕ) : Type 0 where
  pub for_marks : length marks ≡ max_edges
  pub for_records : length records ≡ records_room

pub plan_buffers : PlanBuffers (replicate max_edges 0) (replicate records_room 0)
plan_buffers = record { for_marks = length-replicate {A = ℕ} max_edges 0; for_records = length-replicate {A = ℕ} records_room 0 }

-- `counts` is what planning answers.
module _ (s : Survey) {marks records : List ℕ} (buffers : PlanBuffers marks records) {counts : Outcome PlanCounts} (counted : counts ≡ counting s (length marks) (length records)) where
  abbrev verdict : Verdict
  verdict = plan_refusal s (length marks) (length records)

  planned : (v : Verdict) → verdict ≡ v → survey_output s ≡ outcome_text (outcome v (plan_of (problem_of s)))
  unfolding survey_output survey_plan planning
  planned v e =
      ap (λ (x : Verdict). outcome_text (outcome x (plan_of (problem_of s))))
      (ap₂ (plan_refusal s) (sym buffers.for_marks) (sym buffers.for_records) ∙ e)

  pub unplanned_output : {n p : ℕ} → counts ≡ refusal n p → refusal_text n p ≡ survey_output s
  unfolding counting outcome outcome_text
  unplanned_output {n} {p} told = sym (planned (Refused n p) (refusal_found verdict (plan_counts_of (plan_of (problem_of s))) (sym counted ∙ told)))

  module _ (numbered : ByteGroups s) {k cost bound rounds duals : ℕ}
      (told : counts ≡ answer (record { terminals = k; cost = cost; bound = bound; rounds = rounds; duals = duals })) where
    fine : verdict ≡ Fine
    unfolding counting
    fine = (answer_fine verdict (plan_counts_of (plan_of (problem_of s))) _ (sym counted ∙ told)).0

    same : plan_counts_of (plan_of (problem_of s)) ≡ record { terminals = k; cost = cost; bound = bound; rounds = rounds; duals = duals }
    unfolding counting
    same = (answer_fine verdict (plan_counts_of (plan_of (problem_of s))) _ (sym counted ∙ told)).1

    ready : Ready s (length marks) (length records)
    ready = fine_ready s numbered (length marks) (length records) fine

    many : length (plan_of (problem_of s)).duals ≡ duals
    unfolding plan_counts_of
    many = ap (λ (c : PlanCounts). c.duals) same

    -- How many marks and records there are to print.
    pub planned_few : (edge_count s ≤ max_edges) × (duals ≤ max_duals)
    unfolding edge_count plan_of problem_of vertex_count
    planned_few =
        let sound = ready.survey in
        let some = sound.some in
        let few = sound.few in
        let d = duals_count (problem_of s) (survey_sound s sound) (omega arith) (grown_reached (problem_of s)) in
        (sound.edges_few, omega (arith, many))

    -- What is printed of the buffers that were lent is the plan.
    pub planned_output : {marks' records' : List ℕ} → marks' ≡ marks_after s marks records → records' ≡ records_after s marks records
        → plan_text k cost bound rounds (take (edge_count s - 0) marks') (take (record_bytes * duals - 0) records') ≡ survey_output s
    unfolding outcome outcome_text plan_counts_of
    planned_output {marks'} {records'} ms rs =
        let p = plan_of (problem_of s) in
        let m : take (edge_count s - 0) marks' ≡ p.marks =
        ap (λ (i : ℕ). take i marks') (sub-zero (edge_count s)) ∙ ap (take (edge_count s)) ms ∙ cut_marks s numbered marks records fine in
        let r : take (record_bytes * duals - 0) records' ≡ records_of p.duals =
        ap (λ (i : ℕ). take i records') (sub-zero (record_bytes * duals)) ∙ ap₂ (λ (i : ℕ) (l : List ℕ). take (record_bytes * i) l) (sym many) rs ∙ cut_records s numbered marks records fine in
        rw (m, r)
        (ap (λ (c : PlanCounts). plan_text c.terminals c.cost c.bound c.rounds p.marks (records_of p.duals)) (sym same) ∙ sym (planned Fine fine))

    -- It fits the room.
    pub planned_fits : k < 2 ^ 64 → cost < 2 ^ 64 → bound < 2 ^ 64 → rounds < 2 ^ 64 → length (survey_output s) ≤ plan_room
    unfolding outcome outcome_text plan_counts_of edge_count plan_of problem_of
    planned_fits fk fc fb fr =
        let p = plan_of (problem_of s) in
        let l = length_records p.duals in
        let few = planned_few in
        let count = many in
        subst (λ (w : List ℕ). length w ≤ plan_room) (sym (planned Fine fine))
        (plan_text_le p.terminals p.cost p.bound p.rounds p.marks (records_of p.duals)
        (record {
          terminals_fit = subst (λ (x : ℕ). x < 2 ^ 64) (sym (ap (λ (c : PlanCounts). c.terminals) same)) fk;
          cost_fits = subst (λ (x : ℕ). x < 2 ^ 64) (sym (ap (λ (c : PlanCounts). c.cost) same)) fc;
          bound_fits = subst (λ (x : ℕ). x < 2 ^ 64) (sym (ap (λ (c : PlanCounts). c.bound) same)) fb;
          rounds_fit = subst (λ (x : ℕ). x < 2 ^ 64) (sym (ap (λ (c : PlanCounts). c.rounds) same)) fr;
          marks_few = omega (arith, marks_long, few.0);
          records_few = omega (arith, l, count, few.1);
          records_bytes = bytes_records p.duals;
        }))
      where
        marks_long : length (plan_of (problem_of s)).marks ≡ edge_count s
        marks_long = length_tabulate (edge_count s) _
