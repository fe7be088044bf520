-- A call of planning without its moats: refused, with nothing written, or the figures and marks of the plan of the lists. `figures` and its parts cite it.
use Rattle.std.specs.Prelude.{ℕ, ◌≡◌, Bool, List, [], ◌++◌, length}
use Rattle.std.proofs.Math.Path.{refl, ap, sym}
use Rattle.std.proofs.Common.{◌∙◌}
use Rattle.std.proofs.Math.Bool.{true, false, cond}
use Rattle.std.proofs.Math.ListN.{drop}
use Rattle.base_limits.specs.Verdict.{Outcome, refusal, answer, outcome, written, ◌before◌}
use Rattle.base_limits.specs.declared.Verdict.{Verdict}
use Rattle.base_limits.specs.declared.Verdict.TheVariants.{Fine, Refused}
use Rattle.base_limits.specs.Laws.Verdict.{before_fine, before_refused}
use Rattle.theory_steiner.specs.Problem.{all_usable, cost}
use Rattle.theory_steiner.specs.Growth.{grown}
use Rattle.survey_core.specs.Survey.{Survey, survey_from, lists_of, vertex_count, edge_count, problem_of}
use Rattle.survey_core.specs.Sound.{ByteGroups, SurveySound}
use Rattle.survey_core.specs.Refusal.{survey_refusal, group_refusal}
use Rattle.survey_core.proofs.Laws.Refusal.{survey_fine}
use Rattle.survey_core.proofs.Laws.Group.{joins_fine}
use Rattle.survey_components.specs.Labels.{chosen}
use Rattle.survey_components.specs.declared.Chosen.TheVariants.{All}
use Rattle.survey_lists.specs.Pouring.{poured_groups}
use Rattle.check_rule.specs.Check.{kept_by}
use Rattle.plan_rule.specs.Plan.{Plan, plan_of}
use Rattle.plan_rule.specs.Figures.{FigureCounts, figures_refusal, figure_counts_of, figuring, marks_figured}
use Rattle.plan_rule.proofs.Laws.Ready.{all_bounded, groups_of_all}
use Rattle.plan_rule.proofs.Laws.Same.{plan_poured}
use Rattle.plan_core.specs.Planned.{joinable, marks_joined, MarkedInto, figures_joined}
use Rattle.plan_core.specs.Laws.Planned.{planned_cost, joinable_joins, unjoined_comes, joinable_poured, joined_by, parted_by}

-- ---- refused

-- 1 to 6 and 18
pub survey_refuses : (s : Survey) {v : Verdict} {number place : ℕ} → v ≡ survey_refusal s → v ≡ Refused number place → figures_refusal s ≡ Refused number place
unfolding figures_refusal
survey_refuses s is h = before_refused (sym is ∙ h) _

pub figures_refused : (s : Survey) (marks : List ℕ) {number place : ℕ} → figures_refusal s ≡ Refused number place
    → (refusal number place ≡ figuring s) × (marks ≡ marks_figured s marks)
unfolding figuring outcome marks_figured written
figures_refused s marks h = (
  sym (ap (λ v. outcome v (figure_counts_of (plan_of (problem_of s)))) h),
  sym (ap (λ v. written v ((plan_of (problem_of s)).marks ++ drop (edge_count s) marks) marks) h),
)

-- ---- over poured lists

module _ (s : Survey) (marks : List ℕ) {joins : Bool} {rounds bound : ℕ} {values order marked : List ℕ} (left : MarkedInto s marks rounds bound joins values order marked) where
  pub figures_parted : joins ≡ false → refusal 8 0 ≡ figures_joined s
  unfolding figures_joined
  figures_parted h = ap (λ (t : Bool). cond t (answer (figure_counts_of (plan_of (problem_of s)))) (refusal 8 0)) (sym h ∙ left.joins_is)

  module _ (h : joins ≡ true) where
    planned_marks : marked ≡ (plan_of (problem_of s)).marks ++ drop (length s.firsts) marks
    unfolding marks_joined
    planned_marks =
        left.marks_are ∙ ap (λ (t : Bool). cond t ((plan_of (problem_of s)).marks ++ drop (length s.firsts) marks) marks) (sym left.joins_is ∙ h)

    -- k, cost, bound and rounds are the plan's.
    pub figures_joined_law : {k c r : ℕ} → k ≡ (plan_of (problem_of s)).terminals
        → c ≡ cost (problem_of (survey_from [] s.firsts [] s.weights)) (kept_by marked) → r ≡ rounds
        → answer (record { terminals = k; cost = c; bound = bound; rounds = r }) ≡ figures_joined s
    unfolding figures_joined figure_counts_of plan_of grown problem_of vertex_count
    figures_joined_law k_is c_is r_is =
        rw (k_is, planned_cost s (drop (length s.firsts) marks) planned_marks c_is, left.grew.bound_is, r_is, left.grew.rounds_are)
        (ap (λ (t : Bool). cond t (answer (figure_counts_of (plan_of (problem_of s)))) (refusal 8 0)) (sym h ∙ left.joins_is))

-- ---- the lists

module _ (s : Survey) (sound : SurveySound s) where
  joinable_fine : joinable s ≡ true → figures_refusal s ≡ Fine
  unfolding figures_refusal
  joinable_fine h = before_fine (survey_fine s sound) _ ∙ joins_fine s 8 (all_usable (problem_of s)) (all_bounded s) (joinable_joins s h)

  -- What all tracks leave apart is 8.
  pub unjoined_eight : (marks : List ℕ) {v : Verdict} → v ≡ group_refusal s 8 (chosen All marks) → v ≡ figures_refusal s
  unfolding figures_refusal
  unjoined_eight marks h = h ∙ sym (before_fine (survey_fine s sound) _ ∙ groups_of_all s 8 marks)

  unjoined_by : ByteGroups s → (v : Verdict) → figures_refusal s ≡ v → joinable s ≡ false → (marks : List ℕ) → marks ≡ marks_figured s marks
  unjoined_by numbered Fine h parted marks = unjoined_comes s numbered parted (groups_of_all s 8 [] ∙ unjoined_eight [] refl ∙ h)
  unjoined_by numbered (Refused number place) h parted marks = (figures_refused s marks h).1

  module _ {part : List ℕ} (part_is : part ≡ poured_groups (lists_of s)) where
    abbrev into : Survey
    into = survey_from part s.firsts s.seconds s.weights

    pub lists_parted : {o : Outcome FigureCounts} {number place : ℕ} → o ≡ figures_joined into → o ≡ refusal number place → joinable s ≡ false
    unfolding figures_joined
    lists_parted o_is h = sym (joinable_poured s sound part_is) ∙ parted_by (joinable into) (figure_counts_of (plan_of (problem_of into))) (sym o_is ∙ h)

    module _ {o : Outcome FigureCounts} (marks : List ℕ) {marked : List ℕ} (o_is : o ≡ figures_joined into) (marked_is : marked ≡ marks_joined into marks) where
      -- No mark is written.
      pub parted_marks : ByteGroups s → {number place : ℕ} → o ≡ refusal number place → marked ≡ marks_figured s marks
      unfolding marks_joined
      parted_marks numbered h =
          let parted : joinable s ≡ false = lists_parted o_is h in
          marked_is
          ∙ ap (λ (t : Bool). cond t ((plan_of (problem_of into)).marks ++ drop (length s.firsts) marks) marks) (joinable_poured s sound part_is ∙ parted)
          ∙ unjoined_by numbered (figures_refusal s) refl parted marks

      pub figures_finished : {c : FigureCounts} → o ≡ answer c → (o ≡ figuring s) × (marked ≡ marks_figured s marks)
      unfolding figures_joined marks_joined figuring outcome marks_figured written edge_count
      figures_finished h =
          let joins : joinable into ≡ true = joined_by (joinable into) (figure_counts_of (plan_of (problem_of into))) (sym o_is ∙ h) in
          let fine : figures_refusal s ≡ Fine = joinable_fine (sym (joinable_poured s sound part_is) ∙ joins) in (
            o_is
                ∙ ap (λ (t : Bool). cond t (answer (figure_counts_of (plan_of (problem_of into)))) (refusal 8 0)) joins
                ∙ ap (λ (q : Plan). answer (figure_counts_of q)) (plan_poured s sound part_is)
                ∙ sym (ap (λ v. outcome v (figure_counts_of (plan_of (problem_of s)))) fine),
            marked_is
                ∙ ap (λ (t : Bool). cond t ((plan_of (problem_of into)).marks ++ drop (length s.firsts) marks) marks) joins
                ∙ ap (λ (q : Plan). q.marks ++ drop (length s.firsts) marks) (plan_poured s sound part_is)
                ∙ sym (ap (λ v. written v ((plan_of (problem_of s)).marks ++ drop (length s.firsts) marks) marks) fine),
          )
