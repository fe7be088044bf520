-- When planning finishes: exactly if none of 1 to 8 applies. Then the survey is sound, the buffers are long enough, and all tracks together join every group; 8 names the
-- lowest group that no set of tracks joins (the buyer's demands 1 and 2).
use Rattle.std.specs.Prelude.{ℕ, ◌*◌, ◌≤◌, ◌<◌, List, ◌≡◌, ◌↔◌, not, true, ◌||◌}
use Rattle.std.proofs.Common.{ap, ◌∙◌}
use Rattle.std.proofs.Math.Bool.{false}
use Rattle.std.proofs.Math.Dec.{ltb}
use borrow.Author.Tests.{lt-ltb, ltb-false, le-ltb}
use Rattle.base_finite.specs.Laws.Test.{or_left, or_right, or_false_left, or_false_right}
use Rattle.base_limits.specs.Limits.{record_bytes, duals_for, group_numbers}
use Rattle.base_limits.specs.Verdict.{refuse_if, ◌before◌, lowest_below}
use Rattle.base_limits.specs.declared.Verdict.TheVariants.{Fine, Refused}
use Rattle.base_limits.specs.Laws.Verdict.{before_fine, fine_left, fine_right, refuse_true, refuse_false, fine_refuse}
use Rattle.theory_steiner.specs.Problem.{all_usable}
use Rattle.theory_steiner.proofs.Laws.Finish.{all_usable_edges}
use Rattle.theory_graph.proofs.Laws.Component.{components_cong}
use Rattle.survey_core.specs.Survey.{Survey, vertex_count, edge_count, problem_of, group_joined, components_of}
use Rattle.survey_components.specs.Labels.{chosen_mark, chosen}
use Rattle.survey_components.specs.declared.Chosen.TheVariants.{All}
use Rattle.survey_core.specs.Refusal.{group_refusal}
use Rattle.survey_core.proofs.Laws.Refusal.{survey_fine, fine_survey}
use Rattle.survey_core.specs.Sound.{ByteGroups}
use Rattle.survey_core.proofs.Laws.Group.{group_fine, joins_fine}
use Rattle.plan_rule.specs.Plan.{plan_refusal}
use Rattle.plan_rule.specs.Promise.{Ready}

pub all_bounded : (s : Survey) (e : ℕ) → all_usable (problem_of s) e ≡ true → e < (problem_of s).edges
all_bounded s e h = (all_usable_edges (problem_of s) e h).0

module _ (s : Survey) (numbered : ByteGroups s) (marks_length records_length : ℕ) where
  pub fine_ready : plan_refusal s marks_length records_length ≡ Fine → Ready s marks_length records_length
  unfolding plan_refusal
  fine_ready h =
      let h7 = fine_right _ _ h in
      let short : (ltb marks_length (edge_count s) || ltb records_length (record_bytes * duals_for (vertex_count s))) ≡ false = fine_refuse _ 7 0 (fine_left _ _ h7) in
      record {
        survey = fine_survey s (fine_left _ _ h);
        marks_fit = ltb-false marks_length (edge_count s) (or_false_left (ltb marks_length (edge_count s)) _ short);
        records_fit =
            ltb-false records_length (record_bytes * duals_for (vertex_count s))
            (or_false_right (ltb marks_length (edge_count s)) (ltb records_length (record_bytes * duals_for (vertex_count s))) short);
        joinable = group_fine s 8 (all_usable (problem_of s)) (all_bounded s) numbered (fine_right _ _ h7);
      }

  pub ready_fine : Ready s marks_length records_length → plan_refusal s marks_length records_length ≡ Fine
  unfolding plan_refusal
  ready_fine h =
      before_fine (survey_fine s h.survey) _
      ∙ before_fine
      (refuse_false
      (rw (le-ltb marks_length (edge_count s) h.marks_fit, le-ltb records_length (record_bytes * duals_for (vertex_count s)) h.records_fit)) 7 0) _
      ∙ joins_fine s 8 (all_usable (problem_of s)) (all_bounded s) h.joinable

  -- Finished exactly if none of 1 to 8 applies.
  pub finishes_iff : (plan_refusal s marks_length records_length ≡ Fine) ↔ Ready s marks_length records_length
  finishes_iff = (fine_ready, ready_fine)

-- ---- 7

module _ (n m marks records : ℕ) where
  pub marks_short : marks < m → refuse_if (ltb marks m || ltb records (record_bytes * duals_for n)) 7 0 ≡ Refused 7 0
  marks_short h = refuse_true (or_left (ltb marks m) (ltb records (record_bytes * duals_for n)) (lt-ltb marks m h)) 7 0

  pub records_short : records < record_bytes * duals_for n → refuse_if (ltb marks m || ltb records (record_bytes * duals_for n)) 7 0 ≡ Refused 7 0
  records_short h = refuse_true (or_right (ltb marks m) (ltb records (record_bytes * duals_for n)) (lt-ltb records (record_bytes * duals_for n) h)) 7 0

  pub buffers_fit : m ≤ marks → record_bytes * duals_for n ≤ records → refuse_if (ltb marks m || ltb records (record_bytes * duals_for n)) 7 0 ≡ Fine
  buffers_fit h k = refuse_false (rw (le-ltb marks m h, le-ltb records (record_bytes * duals_for n) k)) 7 0

-- All tracks are all usable ones, as far as components go.
pub groups_of_all : (s : Survey) (number : ℕ) (marks : List ℕ) → group_refusal s number (all_usable (problem_of s)) ≡ group_refusal s number (chosen All marks)
unfolding group_refusal components_of all_usable problem_of chosen chosen_mark
groups_of_all s number marks =
    ap (λ label. lowest_below group_numbers (λ g. refuse_if (not (group_joined s label g)) number g))
    (components_cong (vertex_count s) (problem_of s).first (problem_of s).second (all_usable (problem_of s)) (chosen All marks) (edge_count s)
    (λ e b. rw (lt-ltb e (edge_count s) b)))
