-- A call of growing: refused, with nothing written, or the growth of the poured groups, which is that of the lists. `grow_plan` cites it.
use Rattle.std.specs.Prelude.{ℕ, ◌-◌, ◌≤◌, ◌≡◌, List, ◌++◌, length, take}
use Rattle.std.proofs.Common.{ap, ◌∙◌}
use Rattle.std.proofs.Math.Path.{sym}
use Rattle.std.proofs.Math.ListN.{drop}
use Rattle.base_limits.specs.Limits.{max_vertices}
use Rattle.base_limits.specs.Verdict.{Outcome, refusal, outcome, written}
use Rattle.base_limits.specs.declared.Verdict.TheVariants.{Fine, Refused}
use Rattle.survey_core.specs.Survey.{Survey, survey_from, lists_of, edge_count, problem_of}
use Rattle.survey_core.specs.Sound.{ByteGroups}
use Rattle.survey_lists.specs.Pouring.{poured, room_of}
use Rattle.survey_lists.proofs.Laws.Room.{part_poured}
use Rattle.plan_draw.specs.Drawing.{records_over}
use Rattle.plan_rule.specs.Plan.{plan_of, plan_refusal, PlanCounts, records_after}
use Rattle.plan_rule.specs.Growing.{grown_counts_of, picked_marks, growing, marks_grown}
use Rattle.plan_rule.proofs.Laws.Ready.{fine_ready}
use Rattle.plan_rule.proofs.Laws.Same.{ready_poured, poured_counts, poured_marks, poured_records}
use Rattle.plan_core.specs.Grown.{GrownInto}
use Rattle.plan_core.specs.Laws.Finish.{grown_plan}

-- Where nothing stops growing, the junctions are few enough to be poured.
pub few_by : (s : Survey) → ByteGroups s → (marks_length records_length : ℕ) → plan_refusal s marks_length records_length ≡ Fine
    → length s.groups ≤ max_vertices
few_by s numbered marks_length records_length fine = (fine_ready s numbered marks_length records_length fine).survey.few

module _ (s : Survey) (marks records : List ℕ) where
  pub growing_refused : {number place : ℕ} → plan_refusal s (length marks) (length records) ≡ Refused number place
      → (refusal number place ≡ growing s (length marks) (length records))
      × ((marks ≡ marks_grown s marks records) × (records ≡ records_after s marks records))
  unfolding growing outcome marks_grown records_after written
  growing_refused h = (
    sym (ap (λ v. outcome v (grown_counts_of (plan_of (problem_of s)))) h),
    (
      sym (ap (λ v. written v (picked_marks (problem_of s) ++ drop (edge_count s) marks) marks) h),
      sym (ap (λ v. written v (records_over (plan_of (problem_of s)).duals records) records) h),
    ),
  )

  pub growing_finished : ByteGroups s → {room marked drawn : List ℕ} {o : Outcome PlanCounts} → plan_refusal s (length marks) (length records) ≡ Fine
      → room ≡ room_of (length s.groups) (poured (lists_of s))
      → GrownInto (survey_from (take (length s.groups - 0) room) s.firsts s.seconds s.weights) marks records o marked drawn
      → (o ≡ growing s (length marks) (length records)) × ((marked ≡ marks_grown s marks records) × (drawn ≡ records_after s marks records))
  unfolding growing outcome marks_grown records_after written edge_count
  growing_finished numbered {room} fine room_is left =
      let ready = fine_ready s numbered (length marks) (length records) fine in
      let part = part_poured (lists_of s) ready.survey.few room_is in
      let plan = grown_plan (take (length s.groups - 0) room) s.firsts s.seconds s.weights (ready_poured s ready part) left in (
        poured_counts s ready.survey part plan.0 ∙ sym (ap (λ v. outcome v (grown_counts_of (plan_of (problem_of s)))) fine),
        (
          poured_marks s ready.survey part (drop (length s.firsts) marks) plan.1.0
              ∙ sym (ap (λ v. written v (picked_marks (problem_of s) ++ drop (edge_count s) marks) marks) fine),
          poured_records s ready.survey part records plan.1.1
              ∙ sym (ap (λ v. written v (records_over (plan_of (problem_of s)).duals records) records) fine),
        ),
      )
