-- What is promised of each row (document 02, No. 12): when 19, 8 and a plan come, that the plan is accurate among the sets that avoid the track, and
-- that an unpicked track changes nothing.
use Rattle.std.specs.Prelude.{ℕ, ◌*◌, ◌-◌, ◌≤◌, ◌<◌, Bool, false}
use Rattle.std.proofs.Math.Path.{◌≡◌, ap, subst}
use Rattle.std.proofs.Common.{sym, ◌∙◌, le-leb}
use Rattle.std.proofs.Math.Logic.{⊎_elim}
use Rattle.std.proofs.Math.Bool.{true}
use native.Mathlib.Omega.{arith}
use Rattle.std.proofs.lemmas.Bool.{lt-leb}
use Rattle.base_finite.specs.Laws.Below.{lt_or_ge}
use Rattle.base_limits.specs.Verdict.{refuse_if, ◌before◌, answer, outcome}
use Rattle.base_limits.specs.declared.Verdict.TheVariants.{Fine, Refused}
use Rattle.base_limits.specs.Laws.Verdict.{before_fine, before_refused, no_refusal, refuse_true, refuse_false, refused_refuse, answer_fine, refusal_found}
use Rattle.theory_graph.proofs.Laws.Linked.{linked_mono}
use Rattle.theory_steiner.specs.Problem.{Problem, Sound, Bounded, Joins, all_usable, cost, terminals}
use Rattle.theory_steiner.specs.Pruning.{kept, picked}
use Rattle.theory_steiner.specs.Closed.{closing}
use Rattle.theory_steiner.proofs.Laws.Finish.{all_usable_all, all_usable_edges}
use Rattle.theory_steiner.proofs.Laws.Accuracy.{no_terminal_free}
use Rattle.theory_steiner.proofs.Laws.Closed.{closing_sound, closing_edges, closed_within_factor, cost_closing, terminals_closing, unpicked_plan, unpicked_joins}
use Rattle.survey_core.specs.Survey.{Survey, vertex_count, edge_count, problem_of}
use Rattle.survey_core.specs.Sound.{ByteGroups, SurveySound}
use Rattle.survey_core.specs.Refusal.{group_refusal, LowestUnjoined}
use Rattle.survey_core.proofs.Laws.Refusal.{survey_sound}
use Rattle.survey_core.proofs.Laws.Group.{group_fine, joins_fine, group_refused}
use Rattle.plan_rule.specs.Plan.{plan_of}
use Rattle.closed_rule.specs.Closed.{ClosedCounts, closed_counts_of, entry_refusal, closed_entry}
use Rattle.closed_rule.specs.Promise.{AccurateAvoiding, Closable, ClosedUnjoinable, EntryPromises}
use Rattle.closed_rule.proofs.Laws.Groups.{lowest_refused}

module _ (s : Survey) (c : ℕ) where
  abbrev P : Problem
  P = problem_of s

  abbrev opened : ℕ → Bool
  opened = all_usable (closing (problem_of s) c)

  pub open_bounded : Bounded (problem_of s) (all_usable (closing (problem_of s) c))
  open_bounded e h = (all_usable_edges (closing (problem_of s) c) e h).0

  -- 19, whatever the groups are.
  pub unknown_entry : edge_count s ≤ c → entry_refusal s c ≡ Refused 19 c
  unfolding entry_refusal
  unknown_entry h = before_refused (refuse_true (le-leb (edge_count s) c h) 19 c) _

  -- Behind it 8 decides.
  pub known_entry : c < edge_count s → entry_refusal s c ≡ group_refusal s 8 (all_usable (closing (problem_of s) c))
  unfolding entry_refusal
  known_entry h = before_fine (refuse_false (lt-leb (edge_count s) c h) 19 c) _

  module _ (numbered : ByteGroups s) (sound : SurveySound s) where
    ok : Sound P
    ok = survey_sound s sound

    some : 0 < P.vertices
    unfolding problem_of vertex_count
    some = sound.some

    pub fine_closable : entry_refusal s c ≡ Fine → Closable s c
    fine_closable h =
        ⊎_elim
        (λ b. record { known = b; joinable = group_fine s 8 opened open_bounded numbered (sym (known_entry b) ∙ h) })
        (λ b. absurd (no_refusal (unknown_entry b) h))
        (lt_or_ge c (edge_count s))

    pub closable_fine : Closable s c → entry_refusal s c ≡ Fine
    closable_fine h = known_entry h.known ∙ joins_fine s 8 opened open_bounded h.joinable

    planned_cost : (plan_of (closing P c)).cost ≡ cost P (kept (closing P c))
    unfolding plan_of
    planned_cost = cost_closing P c (kept (closing P c))

    accurate : Closable s c → AccurateAvoiding s c (terminals P) (plan_of (closing P c)).cost
    accurate h =
        record {
          factor = λ F set free joins.
              subst (λ x. terminals P * x ≤ (2 * terminals P - 2) * cost P F) (sym planned_cost) (closed_within_factor P c ok some h.joinable F set free joins);
          free = λ z. planned_cost ∙ sym (cost_closing P c (kept (closing P c))) ∙ no_terminal_free (closing P c) (closing_sound P c ok) some h.joinable (terminals_closing P c ∙ z);
        }

    unjoinable_at : (g : ℕ) → entry_refusal s c ≡ Refused 8 g → ClosedUnjoinable s c g
    unfolding refuse_if
    unjoinable_at g h =
        ⊎_elim
        (λ b.
        let l : LowestUnjoined s opened g = (group_refused s 8 opened open_bounded 8 g (sym (known_entry b) ∙ h)).1 in
        record {
          known = b;
          none_joins = λ F set free j.
              l.unjoined (λ u v bu bv mu mv. linked_mono (all_usable_all (closing P c) F ((closing_edges P c F).1 (set, free))) (j u v bu bv mu mv));
          lower_joined = l.lower;
        })
        (λ b. absurd (nineteen_not_eight (sym (unknown_entry b) ∙ h)))
        (lt_or_ge c (edge_count s))
      where
        nineteen_not_eight : Refused 19 c ≡ Refused 8 g → ⊥
        nineteen_not_eight e = let z : ◌≡◌ {A = ℕ} 19 8 = (refused_refuse true 19 c 8 g e).1.0 in omega arith

    at_unjoinable : (g : ℕ) → ClosedUnjoinable s c g → entry_refusal s c ≡ Refused 8 g
    at_unjoinable g h =
        known_entry h.known
        ∙ lowest_refused s numbered 8 opened open_bounded g
        (λ j. h.none_joins opened ((closing_edges P c opened).0 (all_usable_edges (closing P c))).0 ((closing_edges P c opened).0 (all_usable_edges (closing P c))).1 j)
        h.lower_joined

    unpicked_figures : picked P c ≡ false → closed_counts_of (plan_of (closing P c)) ≡ closed_counts_of (plan_of P)
    unfolding closed_counts_of plan_of
    unpicked_figures h =
        let same = unpicked_plan P ok c h in λ i. record { cost = same.same_cost i; bound = same.same_bound i }

    -- An unpicked track of a survey that can be joined has planning's own figures.
    pub unpicked_entry : c < edge_count s → Joins P (all_usable P) → picked P c ≡ false → closed_entry s c ≡ answer (closed_counts_of (plan_of P))
    unfolding closed_entry outcome
    unpicked_entry b joins h =
        ap (λ v. outcome v (closed_counts_of (plan_of (closing P c)))) (closable_fine (record { known = b; joinable = (unpicked_joins P c ok h).0 joins }))
        ∙ ap answer (unpicked_figures h)

    pub entry_promises : EntryPromises s c (closed_entry s c)
    unfolding closed_entry outcome closed_counts_of
    entry_promises =
        let counts : ClosedCounts = closed_counts_of (plan_of (closing P c)) in
        record {
          planned = λ f h.
              let a = answer_fine (entry_refusal s c) counts f h in
              (fine_closable a.0, subst (λ (x : ClosedCounts). AccurateAvoiding s c (terminals P) x.cost) a.1 (accurate (fine_closable a.0)));
          plans = λ h. ap (λ v. outcome v counts) (closable_fine h);
          unknown = λ b. ap (λ v. outcome v counts) (unknown_entry b);
          unjoinable = λ g h. unjoinable_at g (refusal_found (entry_refusal s c) counts h);
          unjoinable_refused = λ g h. ap (λ v. outcome v counts) (at_unjoinable g h);
          unpicked_same = unpicked_entry;
        }
