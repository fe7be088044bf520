-- The refusals of the call, taken apart and made (document 02, No. 13): 24 and its place, and that a call is answered exactly if none applies.
use Rattle.std.specs.Prelude.{ℕ, ◌+◌, ◌-◌, ◌≤◌, ◌<◌, ◌≡◌, ◌⊎◌, ◌||◌, List, length, get_or, eqb, ltb}
use native.Mathlib.Omega.{arith}
use Rattle.std.proofs.Common.{◌∙◌, ⊎_elim}
use Rattle.std.proofs.Math.Path.{subst}
use borrow.Author.Tests.{eq-eqb, ne_eqb, eqb-true, eqb-false, lt-ltb, le-ltb, ltb-false, not-false}
use Rattle.base_finite.specs.Laws.Test.{or_left, or_right, or_false_left, or_false_right, not_of_false}
use Rattle.base_limits.specs.Verdict.{◌before◌, lowest_below}
use Rattle.base_limits.specs.declared.Verdict.{Verdict}
use Rattle.base_limits.specs.declared.Verdict.TheVariants.{Fine, Refused}
use Rattle.base_limits.specs.Laws.Verdict.{before_fine, before_refused, fine_left, fine_right, fine_refuse, refuse_true, refuse_false, lowest_none, none_lowest, lowest_found}
use Rattle.theory_steiner.specs.Problem.{all_usable}
use Rattle.survey_core.specs.Survey.{Survey, edge_count, problem_of}
use Rattle.survey_core.specs.Sound.{ByteGroups, SurveySound}
use Rattle.survey_core.specs.Refusal.{group_refusal, LowestUnjoined}
use Rattle.survey_core.proofs.Laws.Refusal.{survey_fine, fine_survey}
use Rattle.survey_core.proofs.Laws.Group.{group_fine, joins_fine}
use Rattle.plan_rule.proofs.Laws.Ready.{all_bounded}
use Rattle.closed_rule.proofs.Laws.Groups.{lowest_refused}
use Rattle.winter_rule.specs.Winter.{strength_count, max_strength, strength_of, strength_refusal, strengths_refusal, given_refusal, winter_refusal}
use Rattle.winter_rule.specs.Promise.{StrengthSound, StrengthsSound, LowestUnfit, WinterReady}

-- ---- one strength

pub fine_strength : (x g : ℕ) → strength_refusal x g ≡ Fine → StrengthSound x
unfolding strength_refusal
fine_strength x g h =
    let t = fine_refuse (eqb x 0 || ltb max_strength x) 24 g h in
    let positive = eqb-false x 0 (or_false_left (eqb x 0) (ltb max_strength x) t) in
    record { some = omega (arith, positive); most = ltb-false max_strength x (or_false_right (eqb x 0) (ltb max_strength x) t) }

pub strength_fine : (x g : ℕ) → StrengthSound x → strength_refusal x g ≡ Fine
unfolding strength_refusal
strength_fine x g h =
    let positive : x ≡ 0 → ⊥ = omega arith in
    refuse_false (rw (ne_eqb x 0 positive, le-ltb max_strength x h.most)) 24 g

pub strength_unfit : (x g : ℕ) → (x ≡ 0) ⊎ (max_strength < x) → strength_refusal x g ≡ Refused 24 g
unfolding strength_refusal
strength_unfit x g h =
    refuse_true
    (⊎_elim
    (λ e. or_left (eqb x 0) (ltb max_strength x) (eq-eqb x 0 e))
    (λ l. or_right (eqb x 0) (ltb max_strength x) (lt-ltb max_strength x l))
    h) 24 g

-- ---- the list

module _ (strengths : List ℕ) where
  -- What is found at place i of the list.
  abbrev found : ℕ → Verdict
  found i = strength_refusal (get_or strengths i 0) (i + 1)

  at_fine : (i : ℕ) → StrengthSound (strength_of strengths (i + 1)) → found i ≡ Fine
  unfolding strength_of
  at_fine i h =
      let same : i + 1 - 1 ≡ i = omega arith in
      strength_fine (get_or strengths i 0) (i + 1) (subst (λ k. StrengthSound (get_or strengths k 0)) same h)

  module _ (long : length strengths ≡ strength_count) where
    pub list_decides : strengths_refusal strengths ≡ lowest_below strength_count (λ i. strength_refusal (get_or strengths i 0) (i + 1))
    unfolding strengths_refusal
    list_decides = before_fine (refuse_false (rw (eq-eqb (length strengths) strength_count long)) 24 0) _

    -- The lowest group whose strength is 0 or over 15.
    pub unfit_refused : (g : ℕ) → LowestUnfit strengths g → strengths_refusal strengths ≡ Refused 24 g
    unfolding strength_of
    unfit_refused g h =
        let some = h.some in
        let most = h.most in
        let same : g - 1 + 1 ≡ g = omega arith in
        list_decides
        ∙ subst (λ p. lowest_below strength_count found ≡ Refused 24 p) same
        (lowest_found strength_count (g - 1) found (omega arith)
        (lowest_none (g - 1) found (λ i b. at_fine i (h.lower (i + 1) (omega arith) (omega arith))))
        (strength_unfit (get_or strengths (g - 1) 0) (g - 1 + 1) h.unfit))

  pub strengths_fine : StrengthsSound strengths → strengths_refusal strengths ≡ Fine
  strengths_fine h = list_decides h.long ∙ lowest_none strength_count found (λ i b. at_fine i (h.each (i + 1) (omega arith) (omega arith)))

  pub length_refused : (length strengths ≡ strength_count → ⊥) → strengths_refusal strengths ≡ Refused 24 0
  unfolding strengths_refusal
  length_refused h =
      before_refused (refuse_true (not_of_false (eqb (length strengths) strength_count) (ne_eqb (length strengths) strength_count h)) 24 0) _

  pub fine_strengths : strengths_refusal strengths ≡ Fine → StrengthsSound strengths
  unfolding strengths_refusal strength_of
  fine_strengths h =
      record {
        long = eqb-true (length strengths) strength_count (not-false (eqb (length strengths) strength_count) (fine_refuse _ 24 0 (fine_left _ _ h)));
        each = λ g some most. fine_strength (get_or strengths (g - 1) 0) (g - 1 + 1) (none_lowest strength_count found (fine_right _ _ h) (g - 1) (omega arith));
      }

-- ---- the call

module _ (s : Survey) (strengths : List ℕ) (copies_length : ℕ) where
  module _ (sound : SurveySound s) where
    sound_passes : given_refusal s strengths ≡ strengths_refusal strengths
    unfolding given_refusal
    sound_passes = before_fine (survey_fine s sound) _

    -- 24 stands before 7 and 8.
    pub given_stops : (g : ℕ) → strengths_refusal strengths ≡ Refused 24 g → winter_refusal s strengths copies_length ≡ Refused 24 g
    unfolding winter_refusal
    given_stops g h = before_refused (sound_passes ∙ h) _

    module _ (strong : StrengthsSound strengths) where
      given_passes : given_refusal s strengths ≡ Fine
      given_passes = sound_passes ∙ strengths_fine strengths strong

      pub short_refused : copies_length < edge_count s → winter_refusal s strengths copies_length ≡ Refused 7 0
      unfolding winter_refusal
      short_refused b = before_fine given_passes _ ∙ before_refused (refuse_true (lt-ltb copies_length (edge_count s) b) 7 0) _

      module _ (room : edge_count s ≤ copies_length) where
        pub groups_decide : winter_refusal s strengths copies_length ≡ group_refusal s 8 (all_usable (problem_of s))
        unfolding winter_refusal
        groups_decide = before_fine given_passes _ ∙ before_fine (refuse_false (le-ltb copies_length (edge_count s) room) 7 0) _

        pub unjoinable_refused : ByteGroups s → (g : ℕ) → LowestUnjoined s (all_usable (problem_of s)) g → winter_refusal s strengths copies_length ≡ Refused 8 g
        unjoinable_refused numbered g h =
            groups_decide ∙ lowest_refused s numbered 8 (all_usable (problem_of s)) (all_bounded s) g h.unjoined h.lower

  pub ready_fine : WinterReady s strengths copies_length → winter_refusal s strengths copies_length ≡ Fine
  ready_fine h =
      groups_decide h.survey h.strengths_sound h.copies_long ∙ joins_fine s 8 (all_usable (problem_of s)) (all_bounded s) h.joinable

  pub fine_ready : ByteGroups s → winter_refusal s strengths copies_length ≡ Fine → WinterReady s strengths copies_length
  unfolding winter_refusal given_refusal
  fine_ready numbered h =
      let given = fine_left _ _ h in
      let behind = fine_right _ _ h in
      record {
        survey = fine_survey s (fine_left _ _ given);
        strengths_sound = fine_strengths strengths (fine_right _ _ given);
        copies_long = ltb-false copies_length (edge_count s) (fine_refuse _ 7 0 (fine_left _ _ behind));
        joinable = group_fine s 8 (all_usable (problem_of s)) (all_bounded s) numbered (fine_right _ _ behind);
      }
