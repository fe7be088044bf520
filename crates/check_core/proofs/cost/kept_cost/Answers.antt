-- `kept_cost` meets its contract: while it runs, the sum is that of the kept edges below e.
use Prim.Native.Nat.{◌*◌, ◌≤◌}
use native.Mathlib.Omega.{arith}
use mathlib.Core.Path.{ap, ap₂, ◌≡◌, refl, sym, ◌∙◌}
use lib.Dec.{eqb}
use lib.ListN.{get_or, length-take}
use Rattle.base_finite.specs.Laws.Below.{counted_le, sum_limit}
use Rattle.base_finite.specs.Below.{counted, sum_below}
use Rattle.theory_steiner.specs.Problem.{cost}
use Rattle.survey_core.specs.Survey.{problem_of, edge_count}
use Rattle.base_finite.specs.Laws.Count.{sum_more}
use Rattle.base_limits.specs.Limits.{max_edges}
use Rattle.check_rule.specs.Check.{kept_by}
use Rattle.check_core.specs.Cost.{kept_cost}
use Rattle.check_core.proofs.cost.kept_cost.Goals as goal

pub loop-e-init : goal.loop-e-init
unfolding sum_below
loop-e-init c = (omega arith, refl)

pub overflow_add-cost : goal.overflow_add-cost
overflow_add-cost c = let args = c.args in
    let small : c.loop-e.cost ≤ c.loop-e.e * 4294967295 =
    rw c.loop-e.invariant.1 (sum_limit c.loop-e.e 4294967295 (λ e. counted (kept_by args.marks.now e) (get_or args.weights.now e 0)) (λ i b. omega (arith, counted_le (kept_by args.marks.now i) (get_or args.weights.now i 0), c.type_inv.weights i))) in
    let few : c.min-m.result ≤ max_edges = rw c.min-m.ensures (omega arith) in
    omega (arith, counted_le (eqb c.at.result 2) c.at-in-loop-e.result, c.kept_weight-cost.ensures)

pub loop-e-preserved : goal.loop-e-preserved
unfolding kept_by
loop-e-preserved c = (omega arith, sum_more _ _ c.loop-e.invariant.1 (c.kept_weight-cost.ensures ∙ ap₂ (λ m w. counted (eqb m 2) w) c.at.ensures c.at-in-loop-e.ensures))

pub returns : goal.returns
unfolding kept_cost cost problem_of edge_count
returns c =
    let firsts = c.args.firsts.now in
    let e = c.loop-e.e in
    let end : e ≡ c.min-m.result = omega arith in
    c.loop-e.invariant.1 ∙ ap (λ k. sum_below k (λ e. counted (kept_by c.args.marks.now e) (get_or c.args.weights.now e 0))) (end ∙ c.min-m.ensures ∙ sym (length-take max_edges firsts))
