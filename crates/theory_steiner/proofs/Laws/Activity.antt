-- Whether a component is active depends on its members alone: when two components become one, every other one is as active as it was, and the
-- two have no member left (source 001, Lemma 22.2). A planner need look at the merged one only.
use Rattle.std.specs.Prelude.{ℕ, ◌<◌, ◌≡◌, ◌⊎◌, false}
use Rattle.std.proofs.Math.Path.{ap, sym}
use Rattle.std.proofs.Common.{◌∙◌}
use Rattle.std.proofs.Math.Logic.{⊎_elim}
use Rattle.std.proofs.Math.Dec.{eqb}
use borrow.Author.Tests.{ne_eqb}
use Rattle.base_finite.specs.Laws.Test.{not_true_false}
use Rattle.theory_graph.specs.Component.{merged}
use Rattle.theory_graph.proofs.Laws.Component.{Merging, inside, outside, merging}
use Rattle.theory_steiner.specs.Problem.{Problem}
use Rattle.theory_steiner.specs.Growth.{active}
use Rattle.theory_steiner.proofs.Laws.Joined.{separates_cong}
use Rattle.theory_steiner.proofs.Laws.Partition.{Inhabited, active_inhabited}

pub active_cong : (p : Problem) (f g : ℕ → ℕ) (c : ℕ) → ((v : ℕ) → v < p.vertices → f v ≡ g v) → active p f c ≡ active p g c
unfolding active
active_cong p f g c h = separates_cong p (λ v. eqb (f v) c) (λ v. eqb (g v) c) (λ v b. ap (λ x. eqb x c) (h v b))

module _ (p : Problem) (label : ℕ → ℕ) (x y z : ℕ) where
  -- Any other component.
  pub active_other : (c : ℕ) → (c ≡ x → ⊥) → (c ≡ y → ⊥) → (c ≡ z → ⊥) → active p (merged x y z label) c ≡ active p label c
  unfolding active
  active_other c cx cy cz =
      separates_cong p (λ v. eqb (merged x y z label v) c) (λ v. eqb (label v) c) (λ v b. by v (merging x y z label v))
    where
      by : (v : ℕ) → Merging x y z label v → eqb (merged x y z label v) c ≡ eqb (label v) c
      by v (outside h k i) = ap (λ t. eqb t c) i
      by v (inside h i) =
          ne_eqb (merged x y z label v) c (λ e. cz (sym e ∙ i)) ∙ sym (ne_eqb (label v) c (λ e. ⊎_elim (λ k. cx (sym e ∙ k)) (λ k. cy (sym e ∙ k)) h))

  -- The two.
  pub active_gone : (c : ℕ) → (c ≡ x) ⊎ (c ≡ y) → (c ≡ z → ⊥) → active p (merged x y z label) c ≡ false
  active_gone c old cz =
      not_true_false (active p (merged x y z label) c)
      (λ h.
      let i : Inhabited p (merged x y z label) c = active_inhabited p (merged x y z label) c h in
      by i.vertex i.labelled (merging x y z label i.vertex))
    where
      by : (v : ℕ) → merged x y z label v ≡ c → Merging x y z label v → ⊥
      by v e (inside h i) = cz (sym e ∙ i)
      by v e (outside h k i) = ⊎_elim (λ q. h (sym i ∙ e ∙ q)) (λ q. k (sym i ∙ e ∙ q)) old
