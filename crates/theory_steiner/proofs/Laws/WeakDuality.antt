-- Weak duality (source 003, Lemma 3.2; the exchange of sums of source 001, Lemma 22.8): duals that each separate a required pair and overload no edge of F
-- come to at most twice the cost of F, whenever F joins every required pair. Who drew the duals does not matter.
use Rattle.std.specs.Prelude.{ℕ, ◌+◌, ◌*◌, ◌≤◌, ◌<◌, ◌≡◌, Bool}
use Rattle.std.proofs.Math.Path.{refl}
use Rattle.std.proofs.Math.Bool.{true, false}
use mathlib.Core.List.{[], List, ◌∷◌}
use native.Mathlib.Omega.{arith}
use Rattle.base_finite.specs.Below.{counted, sum_below}
use Rattle.base_finite.specs.Laws.Below.{sum_le, sum_cong, sum_add, sum_member, sum_scale, counted_true, counted_false, counted_add}
use Rattle.theory_graph.specs.Path.{crosses}
use Rattle.theory_graph.proofs.Laws.Linked.{Crossing, cut_crossed}
use Rattle.theory_steiner.specs.Problem.{Problem, EdgeSet, Joins, separates, cost}
use Rattle.theory_steiner.specs.Dual.{Dual, weigh, total, dual_load, Separating, EachDual, none, more}
use Rattle.theory_steiner.proofs.Laws.Joined.{Split, separates_elim}

module _ (p : Problem) (F : ℕ → Bool) (set : EdgeSet p F) (joins : Joins p F) where
  -- Every cut that separates a required pair is crossed by F.
  crossed : (S : ℕ → Bool) → separates p S ≡ true → Crossing p.first p.second F S
  crossed S a =
      let split : Split p S = separates_elim p S a in
      cut_crossed S (joins split.u split.v split.u_below split.v_below split.required) split.inside split.outside

  -- Each dual is in the load of an edge of F.
  total_le_load : (ds : List Dual) → EachDual (Separating p) ds → total ds ≤ sum_below p.edges (λ e. counted (F e) (dual_load p ds e))
  unfolding total weigh dual_load
  total_le_load [] none = omega arith
  total_le_load (d ∷ ds) (more h hs) =
      let x : Crossing p.first p.second F d.holds = crossed d.holds h in
      omega (
        arith,
        total_le_load ds hs,
        sum_cong p.edges (λ e. counted (F e) (counted (crosses p.first p.second d.holds e) d.value + dual_load p ds e))
            (λ e. counted (F e) (counted (crosses p.first p.second d.holds e) d.value) + counted (F e) (dual_load p ds e))
            (λ e b. counted_add (F e) (counted (crosses p.first p.second d.holds e) d.value) (dual_load p ds e)),
        sum_add p.edges (λ e. counted (F e) (counted (crosses p.first p.second d.holds e) d.value)) (λ e. counted (F e) (dual_load p ds e)),
        sum_member p.edges (λ e. counted (F e) (counted (crosses p.first p.second d.holds e) d.value)) x.edge (set x.edge x.member).0,
        counted_true x.member (counted (crosses p.first p.second d.holds x.edge) d.value),
        counted_true x.crossing d.value,
        counted_true {t = true} refl d.value,
      )

  load_le_cost : (ds : List Dual) → ((e : ℕ) → e < p.edges → p.usable e ≡ true → dual_load p ds e ≤ 2 * p.weight e) →
      sum_below p.edges (λ e. counted (F e) (dual_load p ds e)) ≤ 2 * cost p F
  unfolding cost
  load_le_cost ds fits =
      omega (
        arith,
        sum_le p.edges (λ e. counted (F e) (dual_load p ds e)) (λ e. 2 * counted (F e) (p.weight e)) (λ e b. by e b (F e) refl),
        sum_scale p.edges 2 (λ e. counted (F e) (p.weight e)),
      )
    where
      by : (e : ℕ) → e < p.edges → (t : Bool) → F e ≡ t → counted (F e) (dual_load p ds e) ≤ 2 * counted (F e) (p.weight e)
      by e b true k = omega (arith, counted_true k (dual_load p ds e), counted_true k (p.weight e), fits e b (set e k).1)
      by e b false k = omega (arith, counted_false k (dual_load p ds e))

  -- The duals come to at most twice the cost of any set that joins.
  pub weak_duality : (ds : List Dual) → EachDual (Separating p) ds → ((e : ℕ) → e < p.edges → p.usable e ≡ true → dual_load p ds e ≤ 2 * p.weight e) →
      total ds ≤ 2 * cost p F
  weak_duality ds h fits = omega (arith, total_le_load ds h, load_le_cost ds fits)
