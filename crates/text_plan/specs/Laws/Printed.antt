-- What is printed of planning's answer is what `plan` prints for the survey, and it fits the room. `plan_survey` cites it.
use Rattle.std.specs.Prelude.{ℕ, ◌*◌, ◌≤◌, ◌≡◌, take}
use Rattle.std.proofs.Math.Nat.{sub-zero}
use Rattle.std.proofs.Math.Path.{refl, ap₂, subst}
use Rattle.std.proofs.Common.{sym, ◌∙◌}
use mathlib.Core.List.{List}
use Rattle.std.proofs.Math.ListN.{length}
use Rattle.base_limits.specs.Limits.{record_bytes, plan_room}
use Rattle.base_limits.specs.Verdict.{Outcome}
use Rattle.format_write.specs.Text.{plan_text}
use Rattle.format_print.specs.declared.Printed.{Printed}
use Rattle.format_print.specs.Print.{printed, printed_out}
use Rattle.format_print.specs.Laws.Print.{prints_as}
use Rattle.survey_core.specs.Survey.{Survey, edge_count}
use Rattle.survey_core.specs.Sound.{ByteGroups}
use Rattle.plan_rule.specs.Plan.{PlanCounts, counting, marks_after, records_after}
use Rattle.text_plan.specs.Output.{survey_output}
use Rattle.text_plan.specs.Laws.Output.{PlanBuffers, refusal_fits, unplanned_output, planned_output, planned_fits}
use Rattle.text_plan.specs.Planned.{planned_text, WordsIn, refused_words, finished_words}

module _ (s : Survey) (numbered : ByteGroups s) {marks records : List ℕ} (buffers : PlanBuffers marks records) {left drawn : List ℕ}
    (marks_are : left ≡ marks_after s marks records) (records_are : drawn ≡ records_after s marks records) where
  text_is : (o : Outcome PlanCounts) → WordsIn o → o ≡ counting s (length marks) (length records)
      → (planned_text o (edge_count s) left drawn ≡ survey_output s) × (length (survey_output s) ≤ plan_room)
  unfolding planned_text
  text_is o (refused_words {number} {place} hn hp) told =
      let text = unplanned_output s buffers told refl in
      (text, subst (λ (w : List ℕ). length w ≤ plan_room) text (refusal_fits number place hn hp))
  text_is o (finished_words {c} hk hc hb hr) told = (
    ap₂ (λ (i j : ℕ). plan_text c.terminals c.cost c.bound c.rounds (take i left) (take j drawn)) (sym (sub-zero (edge_count s)))
        (sym (sub-zero (record_bytes * c.duals)))
        ∙ planned_output s buffers told numbered refl marks_are records_are,
    planned_fits s buffers told numbered refl hk hc hb hr,
  )

  pub survey_printed_law : (out : List ℕ) {o : Outcome PlanCounts} {r : Printed} {new : List ℕ} → o ≡ counting s (length marks) (length records)
      → (r ≡ printed (planned_text o (edge_count s) left drawn) out) × ((new ≡ printed_out (planned_text o (edge_count s) left drawn) out) × WordsIn o)
      → (r ≡ printed (survey_output s) out) × ((new ≡ printed_out (survey_output s) out) × (length (survey_output s) ≤ plan_room))
  survey_printed_law out {o} told p =
      let text = text_is o p.1.1 told in
      prints_as plan_room out text.0 (p.0, p.1.0) (subst (λ (w : List ℕ). length w ≤ plan_room) (sym text.0) text.1)
