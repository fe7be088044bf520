-- What is answered for one track, by cases: 19; the figures of the whole plan, where that does not pick the track; else those of the plan without it.
-- `entry` cites it.
use Rattle.std.specs.Prelude.{ℕ, ◌≤◌, ◌<◌, ◌≡◌, refl, Bool, true, false, length, replicate, eqb}
use Rattle.std.proofs.Math.Path.{ap, sym}
use Rattle.std.proofs.Common.{◌∙◌, subst, arith, length-append, length-drop}
use Rattle.std.proofs.Math.Bool.{not}
use mathlib.Core.List.{List, ◌++◌}
use Rattle.std.proofs.Math.ListN.{get_or, drop, get_or-append}
use Rattle.std.proofs.lemmas.List.{length-replicate}
use Rattle.base_finite.specs.Laws.Test.{true_not_false}
use Rattle.base_finite.specs.Below.{tabulate}
use Rattle.base_finite.specs.Laws.Below.{length_tabulate, get_d_tabulate}
use Rattle.base_limits.specs.Limits.{max_edges}
use Rattle.base_limits.specs.Verdict.{Outcome, refusal, answer, outcome, written}
use Rattle.base_limits.specs.declared.Verdict.{Verdict}
use Rattle.base_limits.specs.declared.Verdict.TheVariants.{Fine, Refused}
use Rattle.base_limits.specs.Laws.Verdict.{answer_fine, fine_right}
use Rattle.theory_steiner.specs.Problem.{all_usable}
use Rattle.theory_steiner.specs.Pruning.{picked, kept, mark_of, mark}
use Rattle.theory_steiner.specs.Closed.{closing}
use Rattle.survey_core.specs.Survey.{Survey, edge_count, problem_of}
use Rattle.survey_core.specs.Sound.{ByteGroups, SurveySound}
use Rattle.survey_core.specs.Refusal.{survey_refusal, group_refusal}
use Rattle.survey_core.proofs.Laws.Group.{group_fine}
use Rattle.survey_components.specs.Labels.{picked_in}
use Rattle.plan_rule.specs.Plan.{plan_of}
use Rattle.plan_rule.specs.Figures.{FigureCounts, figures_refusal, figure_counts_of, figuring, marks_figured}
use Rattle.plan_rule.proofs.Laws.Ready.{all_bounded}
use Rattle.closed_rule.specs.Closed.{closed_counts_of, closed_entry}
use Rattle.closed_rule.proofs.Laws.Entry.{unknown_entry, unpicked_entry}

-- 19
pub entry_unknown : (s : Survey) {c track : ℕ} → c ≡ track → length s.firsts ≤ c → refusal 19 c ≡ closed_entry s track
unfolding closed_entry outcome edge_count
entry_unknown s {c} same h =
    sym (ap (λ v. outcome v (closed_counts_of (plan_of (closing (problem_of s) c)))) (unknown_entry s c h)) ∙ ap (closed_entry s) same

marked_picked : (a b : Bool) → not (eqb (mark_of a b) 0) ≡ false → a ≡ false
unfolding mark_of
marked_picked true true h = true_not_false true refl h
marked_picked true false h = true_not_false true refl h
marked_picked false b h = refl

whole : (s : Survey) → SurveySound s → length (written Fine ((plan_of (problem_of s)).marks ++ drop (edge_count s) (replicate max_edges 0)) (replicate max_edges 0)) ≡ max_edges
unfolding written plan_of problem_of edge_count
whole s sound =
    let few = sound.edges_few in
    omega (
      arith,
      few,
      length-append (tabulate (length s.firsts) (mark (problem_of s))) (drop (length s.firsts) (replicate max_edges 0)),
      length_tabulate (length s.firsts) (mark (problem_of s)),
      length-drop (length s.firsts) (replicate {A = ℕ} max_edges 0),
      length-replicate {A = ℕ} max_edges 0,
    )

module _ (s : Survey) (c : ℕ) (known : c < length s.firsts) where
  -- The marks of a finished plan say what is picked.
  unmarked_unpicked : figures_refusal s ≡ Fine → (before : List ℕ) {marks : List ℕ} → marks ≡ marks_figured s before → picked_in marks c ≡ false → picked (problem_of s) c ≡ false
  unfolding marks_figured written plan_of problem_of edge_count picked_in mark
  unmarked_unpicked fine before {marks} marks_are h =
      marked_picked (picked (problem_of s) c) (kept (problem_of s) c) (sym (ap (λ x. not (eqb x 0)) at) ∙ h)
    where
      at : get_or marks c 0 ≡ mark_of (picked (problem_of s) c) (kept (problem_of s) c)
      at =
          ap (λ (l : List ℕ). get_or l c 0) (marks_are ∙ ap (λ v. written v ((plan_of (problem_of s)).marks ++ drop (edge_count s) before) before) fine)
          ∙ get_or-append (tabulate (length s.firsts) (mark (problem_of s))) (drop (length s.firsts) before) 0 c
          (subst (λ m. c < m) (sym (length_tabulate (length s.firsts) (mark (problem_of s)))) known)
          ∙ get_d_tabulate (length s.firsts) (mark (problem_of s)) c 0 known

  -- Not picked in a finished plan: its figures.
  pub entry_unpicked : ByteGroups s → SurveySound s → {track : ℕ} → c ≡ track → {o : Outcome FigureCounts} {t x b r : ℕ} (before : List ℕ) {marks : List ℕ}
      → o ≡ figuring s → o ≡ answer (record { terminals = t; cost = x; bound = b; rounds = r }) → marks ≡ marks_figured s before → picked_in marks c ≡ false
      → answer (record { cost = x; bound = b }) ≡ closed_entry s track
  unfolding figuring figure_counts_of closed_counts_of edge_count figures_refusal
  entry_unpicked numbered sound same {o} {t} {x} {b} {r} before o_is told marks_are free =
      let f : FigureCounts = record { terminals = t; cost = x; bound = b; rounds = r } in
      let a = answer_fine (figures_refusal s) (figure_counts_of (plan_of (problem_of s))) f (sym o_is ∙ told) in
      let joins = group_fine s 8 (all_usable (problem_of s)) (all_bounded s) numbered (fine_right (survey_refusal s) (group_refusal s 8 (all_usable (problem_of s))) a.0) in
      ap (λ (x : FigureCounts). answer (record { cost = x.cost; bound = x.bound })) (sym a.1)
      ∙ sym (unpicked_entry s c numbered sound known joins (unmarked_unpicked a.0 before marks_are free))
      ∙ ap (closed_entry s) same

-- The marks are as long as the array that held them.
long_by : (s : Survey) → SurveySound s → (v : Verdict)
    → length (written v ((plan_of (problem_of s)).marks ++ drop (edge_count s) (replicate max_edges 0)) (replicate max_edges 0)) ≡ max_edges
unfolding written
long_by s sound Fine = whole s sound
long_by s sound (Refused number place) = length-replicate {A = ℕ} max_edges 0

pub figured_long : (s : Survey) → SurveySound s → length (marks_figured s (replicate max_edges 0)) ≡ max_edges
unfolding marks_figured
figured_long s sound = long_by s sound (figures_refusal s)
