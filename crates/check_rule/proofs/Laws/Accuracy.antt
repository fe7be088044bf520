-- The accuracy rule of whatever passes the checker (the buyer's demand 3): for any set of tracks that joins every group, 2k - 2 times its cost is at least k times the kept cost; and with
-- k = 0 the kept cost is 0; and none of them costs less than half the bound. Nothing is said of who drew the marks and the moats.
use Rattle.std.specs.Prelude.{ℕ, zero, suc, ◌/◌, ◌<◌, ◌≡◌, List, [], ◌∷◌, ◌++◌, length}
use Rattle.std.proofs.Common.{ap, sym, ◌∙◌, subst, arith}
use Rattle.base_finite.specs.Below.{tabulate}
use Rattle.base_limits.specs.Limits.{record_bytes}
use Rattle.base_limits.specs.Verdict.{Outcome, answer, outcome}
use Rattle.base_limits.specs.Laws.Verdict.{answer_fine}
use Rattle.theory_steiner.specs.Problem.{terminals, cost}
use Rattle.theory_steiner.specs.Dual.{Dual, EachDual, Separating, total, none, more}
use Rattle.theory_steiner.proofs.Laws.Accuracy.{within_factor}
use Rattle.survey_core.specs.Survey.{Survey, problem_of}
use Rattle.survey_core.specs.Accuracy.{Accurate, DualBound}
use Rattle.survey_core.proofs.Laws.Accuracy.{duals_bound}
use Rattle.survey_core.specs.Sound.{ByteGroups}
use Rattle.check_rule.specs.Check.{Checked, dual_at, duals_in, kept_by, checked_of, check_refusal, checking}
use Rattle.check_rule.specs.Passing.{Passing}
use Rattle.check_rule.proofs.Laws.Meaning.{check_passing, passing_check}

each_tabulate : {P : Dual → Type 0} (n : ℕ) (f : ℕ → Dual) → ((i : ℕ) → i < n → P (f i)) → EachDual P (tabulate n f)
unfolding tabulate
each_tabulate zero f h = none
each_tabulate {P} (suc n) f h = snoc (each_tabulate n f (λ i b. h i (omega arith))) (h n (omega arith))
  where
    snoc : {ds : List Dual} {d : Dual} → EachDual P ds → P d → EachDual P (ds ++ (d ∷ []))
    snoc none x = more x none
    snoc (more y hs) x = more y (snoc hs x)

-- The moats that pass part each two members of a group.
passing_separating : (s : Survey) (marks records : List ℕ) → Passing s marks records → EachDual (Separating (problem_of s)) (duals_in records)
unfolding duals_in
passing_separating s marks records h = each_tabulate (length records / record_bytes) (dual_at records) h.duals_separate

pub passing_accurate : (s : Survey) (marks records : List ℕ) → Passing s marks records → Accurate s (terminals (problem_of s)) (cost (problem_of s) (kept_by marks))
unfolding problem_of
passing_accurate s marks records h =
    record {
      factor = λ F set joins.
          within_factor (problem_of s) F set joins (duals_in records) (passing_separating s marks records h)
          (λ e b u. h.not_overtight e b) (terminals (problem_of s)) (cost (problem_of s) (kept_by marks)) h.rule;
      free = h.none_free;
    }

pub passing_bound : (s : Survey) (marks records : List ℕ) → Passing s marks records → DualBound s (total (duals_in records))
passing_bound s marks records h = duals_bound s (duals_in records) (passing_separating s marks records h) h.not_overtight

-- Whatever passes is accurate, for the k and the cost reported.
pub checking_accurate : (s : Survey) → ByteGroups s → (marks records : List ℕ) (c : Checked) → checking s marks records ≡ answer c →
    Accurate s c.terminals c.cost
unfolding checking checked_of
checking_accurate s numbered marks records c h =
    let v = answer_fine (check_refusal s marks records) (checked_of s marks records) c h in
    subst (λ x. Accurate s x.terminals x.cost) v.1 (passing_accurate s marks records (check_passing s numbered marks records v.0))

-- And no joining set costs less than half the bound reported.
pub checking_bound : (s : Survey) → ByteGroups s → (marks records : List ℕ) (c : Checked) → checking s marks records ≡ answer c → DualBound s c.bound
unfolding checking checked_of
checking_bound s numbered marks records c h =
    let v = answer_fine (check_refusal s marks records) (checked_of s marks records) c h in
    subst (λ x. DualBound s x.bound) v.1 (passing_bound s marks records (check_passing s numbered marks records v.0))

-- Passed exactly if it means what `Passing` says.
pub checking_passing : (s : Survey) → ByteGroups s → (marks records : List ℕ) →
    ((c : Checked) → checking s marks records ≡ answer c → Passing s marks records)
    × (Passing s marks records → checking s marks records ≡ answer (checked_of s marks records))
unfolding checking outcome
checking_passing s numbered marks records = (
  λ c h. check_passing s numbered marks records (answer_fine (check_refusal s marks records) (checked_of s marks records) c h).0,
  λ h. ap (λ v. outcome v (checked_of s marks records)) (passing_check s numbered marks records h),
)

-- What an answer that is the definition's promises.
pub promises : (s : Survey) (marks records : List ℕ) (o : Outcome Checked) → ByteGroups s → o ≡ checking s marks records →
    (o ≡ checking s marks records)
    × ((((c : Checked) → o ≡ answer c → Passing s marks records) × (Passing s marks records → o ≡ answer (checked_of s marks records)))
    × (((c : Checked) → o ≡ answer c → Accurate s c.terminals c.cost)
    × ((c : Checked) → o ≡ answer c → DualBound s c.bound)))
promises s marks records o numbered h = (
  h,
  (
    (λ c k. (checking_passing s numbered marks records).0 c (sym h ∙ k), λ k. h ∙ (checking_passing s numbered marks records).1 k),
    (
      λ c k. checking_accurate s numbered marks records c (sym h ∙ k),
      λ c k. checking_bound s numbered marks records c (sym h ∙ k),
    ),
  ),
)
