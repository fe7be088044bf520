-- What figures that pass the checker show (document 02, No. 14): no set of tracks that joins every group costs less
-- than half the bound, so that a bound of twice the cost leaves no room for a cheaper one; and with k = 2 the accuracy
-- rule's premise is just that.
use Rattle.std.specs.Prelude.{ℕ, ◌*◌, ◌-◌, ◌≤◌, ◌≡◌, refl, true, List}
use Rattle.std.proofs.Common.{arith, subst, leb-true, le-leb}
use Rattle.base_limits.specs.Verdict.{answer}
use Rattle.base_limits.specs.Laws.Verdict.{answer_fine}
use Rattle.theory_steiner.specs.Problem.{EdgeSet, terminals, cost}
use Rattle.theory_steiner.specs.Dual.{total}
use Rattle.survey_core.specs.Survey.{Survey, problem_of}
use Rattle.survey_core.specs.Sound.{ByteGroups}
use Rattle.check_rule.specs.Check.{Checked, duals_in, kept_by, checked_of, check_refusal, checking}
use Rattle.check_rule.specs.Passing.{Passing}
use Rattle.check_rule.specs.Exact.{shows_cheapest, Certified}
use Rattle.check_rule.proofs.Laws.Meaning.{check_passing, kept_bounded}
use Rattle.check_rule.proofs.Laws.Accuracy.{passing_bound}

pub shows_cheapest_iff : (c b : ℕ) → (shows_cheapest c b ≡ true → 2 * c ≤ b) × (2 * c ≤ b → shows_cheapest c b ≡ true)
unfolding shows_cheapest
shows_cheapest_iff c b = (leb-true (2 * c) b, le-leb (2 * c) b)

module _ (s : Survey) (marks records : List ℕ) (h : Passing s marks records) where
  kept_set : EdgeSet (problem_of s) (kept_by marks)
  unfolding problem_of
  kept_set e k = (kept_bounded s marks h.marks_long e k, refl)

  two_fit : terminals (problem_of s) ≡ 2 → 2 * cost (problem_of s) (kept_by marks) ≤ (2 - 1) * total (duals_in records)
  two_fit two = subst (λ k. k * cost (problem_of s) (kept_by marks) ≤ (k - 1) * total (duals_in records)) two h.rule

  pub passing_certified : Certified s marks (checked_of s marks records)
  unfolding checked_of
  passing_certified =
      let test = shows_cheapest_iff (cost (problem_of s) (kept_by marks)) (total (duals_in records)) in
      record {
        joins = h.kept_joins;
        kept_cost_law = refl;
        none_cheaper = λ t F set joins. let x = test.0 t in let y = (passing_bound s marks records h).halved F set joins in omega arith;
        bound_exact = λ t. let x = test.0 t in let y = (passing_bound s marks records h).halved (kept_by marks) kept_set h.kept_joins in omega arith;
        two_sites = λ two. test.1 (let x = two_fit two in omega arith);
        no_sites = λ none. test.1 (let x = h.none_free none in omega arith);
      }

-- Whatever passes, with the figures reported.
pub checking_certified : (s : Survey) → ByteGroups s → (marks records : List ℕ) (c : Checked) → checking s marks records ≡ answer c → Certified s marks c
unfolding checking
checking_certified s numbered marks records c h =
    let v = answer_fine (check_refusal s marks records) (checked_of s marks records) c h in
    subst (Certified s marks) v.1 (passing_certified s marks records (check_passing s numbered marks records v.0))
