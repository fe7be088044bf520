-- Picked edges, by their marks.
use Rattle.std.specs.Prelude.{ℕ, ◌<◌, ◌≡◌, true, false, not, List, length, get_or}
use Rattle.std.proofs.Common.{ap, ⊎_elim, eq-eqb, ne_eqb}
use Rattle.std.proofs.Math.ListN.{get_or-eq_default}
use Rattle.base_finite.specs.Laws.Below.{lt_or_ge}
use Rattle.base_finite.specs.Laws.Test.{true_not_false}
use Rattle.survey_components.specs.Labels.{picked_in}

pub picked_not : (marks : List ℕ) (e : ℕ) → get_or marks e 0 ≡ 0 → picked_in marks e ≡ false
unfolding picked_in
picked_not marks e h = ap not (eq-eqb (get_or marks e 0) 0 h)

pub picked_is : (marks : List ℕ) (e : ℕ) → (get_or marks e 0 ≡ 0 → ⊥) → picked_in marks e ≡ true
unfolding picked_in
picked_is marks e h = ap not (ne_eqb (get_or marks e 0) 0 h)

-- No mark past the end picks anything.
pub picked_below : (marks : List ℕ) (e : ℕ) → picked_in marks e ≡ true → e < length marks
picked_below marks e h =
    ⊎_elim
    (λ l. l)
    (λ out. true_not_false (picked_in marks e) h (picked_not marks e (get_or-eq_default marks 0 out)))
    (lt_or_ge e (length marks))
