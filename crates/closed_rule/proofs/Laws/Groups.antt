-- The lowest group that is not joined, found of two surveys or two sets of tracks: one finding where the same groups are joined.
use Rattle.std.specs.Prelude.{ℕ, ◌<◌, ◌≡◌, ◌↔◌, Bool, not}
use Rattle.std.proofs.Common.{ap, ⊎_elim, arith}
use Rattle.base_finite.specs.Laws.Test.{same_test_law, not_true_false, not_of_false}
use Rattle.base_finite.specs.Laws.Below.{lt_or_ge}
use Rattle.base_limits.specs.Limits.{group_numbers}
use Rattle.base_limits.specs.Verdict.{refuse_if}
use Rattle.base_limits.specs.declared.Verdict.TheVariants.{Refused}
use Rattle.base_limits.specs.Laws.Verdict.{lowest_cong, lowest_found, lowest_none, refuse_false, refuse_true}
use Rattle.theory_steiner.specs.Problem.{Bounded}
use Rattle.survey_core.specs.Survey.{Survey, problem_of, JoinsGroup, group_joined, components_of}
use Rattle.survey_core.specs.Sound.{ByteGroups}
use Rattle.survey_core.specs.Refusal.{group_refusal}
use Rattle.survey_core.proofs.Laws.Group.{group_joined_elim, group_joined_intro, member_byte}

pub same_finding : (s t : Survey) (number : ℕ) (F G : ℕ → Bool) → Bounded (problem_of s) F → Bounded (problem_of t) G
    → ((g : ℕ) → JoinsGroup s F g ↔ JoinsGroup t G g) → group_refusal s number F ≡ group_refusal t number G
unfolding group_refusal
same_finding s t number F G fs gs same =
    lowest_cong group_numbers _ _
    (λ g b.
    ap (λ x. refuse_if (not x) number g)
    (same_test_law (group_joined s (components_of s F) g) (group_joined t (components_of t G) g)
    (λ h. group_joined_intro t G gs g ((same g).0 (group_joined_elim s F g h)))
    (λ h. group_joined_intro s F fs g ((same g).1 (group_joined_elim t G g h)))))

-- A group that F does not join, above none such, is the finding.
pub lowest_refused : (s : Survey) → ByteGroups s → (number : ℕ) (F : ℕ → Bool) → Bounded (problem_of s) F → (g : ℕ)
    → (JoinsGroup s F g → ⊥) → ((i : ℕ) → i < g → JoinsGroup s F i) → group_refusal s number F ≡ Refused number g
unfolding group_refusal
lowest_refused s numbered number F bounded g unjoined lower =
    lowest_found group_numbers g _ below
    (lowest_none g _ (λ i b. refuse_false (rw (group_joined_intro s F bounded i (lower i b))) number i))
    (refuse_true (not_of_false (group_joined s (components_of s F) g) (not_true_false (group_joined s (components_of s F) g) (λ h. unjoined (group_joined_elim s F g h)))) number g)
  where
    -- a number that is no byte has no members
    below : g < group_numbers
    below =
        ⊎_elim
        (λ l. l)
        (λ out. absurd (unjoined (λ a b ba bb ma mb. absurd (let n = member_byte s numbered g a ma in omega arith))))
        (lt_or_ge g group_numbers)
