-- Which test a refusal's number comes from. What 8, 14 and 21 say goes by it.
use Rattle.std.specs.Prelude.{ℕ, ◌<◌, ◌≡◌, refl, ◌⊎◌, Bool, length}
use Rattle.std.proofs.Common.{arith, ◌∙◌, inl, inr, ⊎_elim}
use Rattle.base_limits.specs.Verdict.{refuse_if, ◌before◌, lowest_below}
use Rattle.base_limits.specs.declared.Verdict.{Verdict}
use Rattle.base_limits.specs.declared.Verdict.TheVariants.{Fine, Refused}
use Rattle.base_limits.specs.Laws.Verdict.{lowest_elim, Lowest, refused_refuse}
use Rattle.survey_core.specs.Survey.{Survey, lists_of, edge_count}
use Rattle.survey_core.specs.Lists.{Lists}
use Rattle.survey_core.specs.Pairs.{pair_refusal, pairs_refusal}
use Rattle.survey_core.specs.Refusal.{edge_refusal, survey_refusal}

pub before_cases : (v w : Verdict) {number place : ℕ} → (v before w) ≡ Refused number place → (v ≡ Refused number place) ⊎ ((v ≡ Fine) × (w ≡ Refused number place))
unfolding ◌before◌
before_cases Fine w h = inr (refl, h)
before_cases (Refused a b) w h = inl h

-- The refusal k does not come of it.
pub record Never (k : ℕ) (v : Verdict) : Type 0 where
  pub other : (number place : ℕ) → v ≡ Refused number place → number ≡ k → ⊥

pub refuse_never : (t : Bool) (k a b : ℕ) → (a ≡ k → ⊥) → Never k (refuse_if t a b)
refuse_never t k a b d = record { other = λ number place h q. d ((refused_refuse t a b number place h).1.0 ∙ q) }

pub before_never : (k : ℕ) (v w : Verdict) → Never k v → Never k w → Never k (v before w)
before_never k v w x y =
    record { other = λ number place h. ⊎_elim (x.other number place) (λ p. y.other number place p.1) (before_cases v w h) }

pub lowest_never : (k n : ℕ) (f : ℕ → Verdict) → ((i : ℕ) → Never k (f i)) → Never k (lowest_below n f)
lowest_never k n f x =
    record { other = λ number place h. let l : Lowest n f number place = lowest_elim n f number place h in (x l.at).other number place l.found }

-- A survey is refused with 1 to 6 or 18.
module _ (k : ℕ) (pairs : k ≡ 18 → ⊥) (above : 6 < k) where
  pair_never : (l : Lists) (i : ℕ) → Never k (pair_refusal l i)
  unfolding pair_refusal
  pair_never l i =
      let no : (t : Bool) → Never k (refuse_if t 18 i) = λ t. refuse_never t k 18 i (λ e. pairs (omega arith)) in
      before_never k _ _ (no _) (before_never k _ _ (no _) (before_never k _ _ (no _) (before_never k _ _ (no _) (no _))))

  pub survey_never : (s : Survey) → Never k (survey_refusal s)
  unfolding survey_refusal edge_refusal pairs_refusal
  survey_never s =
      before_never k _ _ (refuse_never _ k 1 0 (λ e. omega arith))
      (before_never k _ _ (refuse_never _ k 2 0 (λ e. omega arith))
      (before_never k _ _ (refuse_never _ k 2 0 (λ e. omega arith))
      (before_never k _ _ (refuse_never _ k 3 0 (λ e. omega arith))
      (before_never k _ _
      (lowest_never k (edge_count s) (edge_refusal s)
      (λ e.
      before_never k _ _ (refuse_never _ k 4 e (λ q. omega arith))
      (before_never k _ _ (refuse_never _ k 5 e (λ q. omega arith)) (refuse_never _ k 6 e (λ q. omega arith)))))
      (lowest_never k (length s.owners) (pair_refusal (lists_of s)) (pair_never (lists_of s)))))))
