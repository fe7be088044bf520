-- Where pruning is not refused, the picked edges are what its batches ask for; and a forest that joins every group is not refused. `prune` and the planner cite it.
use Rattle.std.specs.Prelude.{◌≡◌, ℕ, ◌<◌, Bool, not, List, [], length, ◌==◌}
use Rattle.std.proofs.Math.Path.{refl, sym, subst}
use Rattle.std.proofs.Common.{ap, ◌∙◌}
use borrow.Author.Tests.{eqb-true, eq-eqb, not-false}
use Rattle.theory_graph.specs.Path.{Forest}
use Rattle.base_limits.specs.Verdict.{◌before◌, written}
use Rattle.base_limits.specs.declared.Verdict.{Verdict}
use Rattle.base_limits.specs.declared.Verdict.TheVariants.{Fine, Refused}
use Rattle.base_limits.specs.Laws.Verdict.{before_fine, fine_left, fine_right, refuse_false, fine_refuse}
use Rattle.theory_steiner.specs.Problem.{Sound, Joins, joined, Bounded}
use Rattle.theory_steiner.specs.Pruning.{needed}
use Rattle.survey_core.specs.Survey.{Survey, survey_from, vertex_count, edge_count, member, same_group, problem_of}
use Rattle.survey_core.specs.Sound.{SurveySound, ByteGroups}
use Rattle.survey_core.specs.Refusal.{group_refusal}
use Rattle.survey_core.proofs.Laws.Refusal.{survey_fine, fine_survey, survey_sound}
use Rattle.survey_core.proofs.Laws.Group.{group_fine, joins_fine}
use Rattle.survey_components.specs.Labels.{picked_in}
use Rattle.survey_components.specs.Forest.{loop_refusal, forest_refusal, EndsBelow}
use Rattle.survey_components.specs.Laws.Picked.{picked_below}
use Rattle.survey_components.specs.Laws.Forest.{forest_fine, fine_forest}
use Rattle.plan_drop.specs.Prunable.{Picks, Prunable, unweighted}
use Rattle.plan_drop.specs.Judge.{pruned_marks, marks_pruned}

module _ (s : Survey) (picked : List ℕ) where
  -- Picks as many as there are tracks are picks of tracks.
  picks_bounded : length picked ≡ edge_count s → Bounded (problem_of s) (picked_in picked)
  unfolding problem_of
  picks_bounded long e f = subst (λ m. e < m) long (picked_below picked e f)

  pub prunable_fine : SurveySound s → length picked ≡ edge_count s → Joins (problem_of s) (picked_in picked)
      → Forest (problem_of s).first (problem_of s).second (picked_in picked) → forest_refusal s picked ≡ Fine
  unfolding forest_refusal
  prunable_fine sound long joins forest =
      before_fine (survey_fine s sound) _
      ∙ before_fine (refuse_false (ap not (eq-eqb (length picked) (edge_count s) long)) 9 0) _
      ∙ before_fine (forest_fine s (picked_in picked) forest) _
      ∙ joins_fine s 14 (picked_in picked) (picks_bounded long) joins

  -- A refusal leaves the marks.
  pub marks_kept : {v : Verdict} → v ≡ forest_refusal s picked → (marks : List ℕ) {number place : ℕ} → v ≡ Refused number place → marks ≡ marks_pruned s picked marks
  unfolding marks_pruned written
  marks_kept v_is marks h = sym (ap (λ x. written x (pruned_marks (problem_of s) (picked_in picked) (edge_count s) marks) marks) (sym v_is ∙ h))

module _ (groups firsts seconds weights : List ℕ) where
  abbrev s : Survey
  s = survey_from groups firsts seconds weights

  -- Pruning does not read the weights, and nothing that it asks depends on them.
  sound_unweighted : Sound (problem_of s) → Sound (unweighted groups firsts seconds)
  unfolding problem_of same_group member vertex_count edge_count
  sound_unweighted ok = record { first_below_law = ok.first_below_law; second_below = ok.second_below; ends_differ = ok.ends_differ; symmetric = ok.symmetric }

  joins_unweighted : (F : ℕ → Bool) → Joins (problem_of s) F → Joins (unweighted groups firsts seconds) F
  unfolding problem_of same_group member vertex_count edge_count
  joins_unweighted F h u v bu bv r = h u v bu bv r

  pub pruned_unweighted : (F : ℕ → Bool) (m : ℕ) (marks : List ℕ) → pruned_marks (unweighted groups firsts seconds) F m marks ≡ pruned_marks (problem_of s) F m marks
  unfolding pruned_marks needed joined problem_of same_group member vertex_count edge_count
  pruned_unweighted F m marks = refl

  module _ (picked : List ℕ) where
    pub fine_prunable : ByteGroups s → forest_refusal s picked ≡ Fine → Prunable groups firsts seconds picked
    unfolding forest_refusal problem_of edge_count
    fine_prunable numbered h =
        let sound : SurveySound s = fine_survey s (fine_left _ _ h) in
        let after = fine_right _ _ h in
        let long : length picked ≡ edge_count s =
        eqb-true (length picked) (edge_count s) (not-false (length picked == edge_count s) (fine_refuse _ 9 0 (fine_left _ _ after))) in
        let bounded : Bounded (problem_of s) (picked_in picked) = picks_bounded s picked long in
        let last = fine_right _ _ after in
        record {
          few = sound.few;
          edges_few = sound.edges_few;
          sound = sound_unweighted (survey_sound s sound);
          bounded = bounded;
          joins = joins_unweighted (picked_in picked) (group_fine s 14 (picked_in picked) bounded numbered (fine_right _ _ last));
          forest = fine_forest s (picked_in picked) bounded (fine_left _ _ last);
        }

    -- Picks of a survey that 1 to 6 leave.
    pub survey_picks : SurveySound s → Bounded (problem_of s) (picked_in picked) → Picks groups firsts seconds picked
    unfolding problem_of edge_count
    survey_picks sound bounded =
        record { few = sound.few; edges_few = sound.edges_few; sound = sound_unweighted (survey_sound s sound); bounded = bounded }

    -- Otherwise they are the definition's.
    pub marks_written : {v : Verdict} → v ≡ forest_refusal s picked → (marks : List ℕ) {after : List ℕ} → v ≡ Fine
        → after ≡ pruned_marks (unweighted groups firsts seconds) (picked_in picked) (length firsts) marks → after ≡ marks_pruned s picked marks
    unfolding marks_pruned written edge_count
    marks_written v_is marks h is =
        is ∙ pruned_unweighted (picked_in picked) (length firsts) marks
        ∙ sym (ap (λ x. written x (pruned_marks (problem_of s) (picked_in picked) (length firsts) marks) marks) (sym v_is ∙ h))

module _ (groups firsts seconds picked : List ℕ) (ok : Picks groups firsts seconds picked) where
  abbrev plain : Survey
  plain = survey_from groups firsts seconds []

  pub picks_ends : EndsBelow groups firsts seconds
  unfolding problem_of vertex_count edge_count
  picks_ends = record { few = ok.few; first_below_law = ok.sound.first_below_law; second_below = ok.sound.second_below }

  -- Neither 21 nor 14.
  pub picks_prunable : ByteGroups plain → (loop_refusal plain (picked_in picked) before group_refusal plain 14 (picked_in picked)) ≡ Fine
      → Prunable groups firsts seconds picked
  picks_prunable numbered h =
      record {
        few = ok.few;
        edges_few = ok.edges_few;
        sound = ok.sound;
        bounded = ok.bounded;
        joins = group_fine plain 14 (picked_in picked) ok.bounded numbered (fine_right _ _ h);
        forest = fine_forest plain (picked_in picked) ok.bounded (fine_left _ _ h);
      }
