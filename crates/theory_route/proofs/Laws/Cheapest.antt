-- With two terminals the kept edges are a cheapest route between them (document 02, No. 14). Both terminals are one
-- required pair, so a set joins exactly if it links them: the route alone does, no kept edge can be spared, and the
-- accuracy rule with k = 2 leaves no room (`theory_steiner: two_cheapest`).
use Rattle.std.specs.Prelude.{ℕ, ◌+◌, ◌≤◌, ◌<◌, ◌≡◌, refl, ◌⊎◌, Bool, true, false, ◌||◌, cond, List, [], ◌∷◌, eqb}
use Rattle.std.proofs.Common.{arith, ap, sym, ◌∙◌, subst, inl, inr, ⊎_elim, eq-eqb, ne_eqb}
use Rattle.std.proofs.Math.Decide.{ℕ_discrete}
use Rattle.base_finite.specs.Below.{counted, count_below}
use Rattle.base_finite.specs.Laws.Test.{same_test_law}
use Rattle.base_finite.specs.Laws.Below.{Found, count_elim, lt_or_ge, sum_cong, sum_zero, sum_at, sum_at_two, sum_member, counted_true, counted_false}
use Rattle.theory_graph.specs.Path.{Linked, without}
use Rattle.theory_graph.proofs.Laws.Linked.{linked_sym, linked_refl}
use Rattle.theory_steiner.specs.Problem.{Problem, Sound, Bounded, EdgeSet, Joins, all_usable, cost, terminal, terminals}
use Rattle.theory_steiner.specs.Pruning.{kept}
use Rattle.theory_steiner.proofs.Laws.Joined.{Partner, terminal_elim, terminal_intro}
use Rattle.theory_steiner.proofs.Laws.Finish.{kept_joins, kept_edges, kept_spares_none, all_usable_edges}
use Rattle.theory_steiner.proofs.Laws.Exact.{two_cheapest}
use Rattle.theory_route.specs.Route.{occurs, Route, arrived, onward}
use Rattle.theory_route.specs.Cheapest.{route_cost, CheapestRoute, TwoTerminals}
use Rattle.theory_route.proofs.Laws.Route.{Routed, linked_route, head_occurs, occurs_same, route_edge, route_alone, route_once, route_uses}

-- ---- what a route costs

one_more_paid : (p : Problem) (e : ℕ) (es : List ℕ) → e < p.edges → occurs es e ≡ false → cost p (occurs (e ∷ es)) ≡ p.weight e + cost p (occurs es)
unfolding cost
one_more_paid p e es b fresh =
    omega (
      arith,
      sum_at p.edges (λ f. counted (occurs (e ∷ es) f) (p.weight f)) (λ f. counted (occurs es f) (p.weight f)) e b
          (λ f bf other. ap (λ t. counted t (p.weight f)) (occurs_same e f es other)),
      counted_true (head_occurs e es) (p.weight e),
      counted_false fresh (p.weight e),
    )

none_paid : (p : Problem) → cost p (occurs []) ≡ 0
unfolding cost occurs
none_paid p = sum_zero p.edges (λ e. counted false (p.weight e)) (λ e b. counted_false refl (p.weight e))

-- Its price is the cost of the set of its edges.
pub route_price : (p : Problem) {F : ℕ → Bool} → Bounded p F → {u w : ℕ} {es vs : List ℕ} → Route p.first p.second F u w es vs → cost p (occurs es) ≡ route_cost p es
unfolding route_cost
route_price p bounded arrived = none_paid p
route_price p bounded (onward {es = es} e f l fresh r) =
    one_more_paid p e es (bounded e f) (route_once e l fresh r) ∙ ap (λ x. p.weight e + x) (route_price p bounded r)

cost_same : (p : Problem) (F G : ℕ → Bool) → ((e : ℕ) → F e ≡ G e) → cost p F ≡ cost p G
unfolding cost
cost_same p F G h = sum_cong p.edges _ _ (λ e b. ap (λ t. counted t (p.weight e)) (h e))

-- ---- two terminals

-- Three vertices that pass a test are counted.
count_three : (n : ℕ) (t : ℕ → Bool) (i j k : ℕ) → i < n → j < n → k < n → (i ≡ j → ⊥) → (k ≡ i → ⊥) → (k ≡ j → ⊥) →
    t i ≡ true → t j ≡ true → t k ≡ true → 3 ≤ count_below n t
unfolding count_below
count_three n t i j k bi bj bk apart not_i not_j hi hj hk =
    omega (
      arith,
      sum_at_two n (λ l. counted (t l) 1) others i j bi bj apart (λ l b x y. sym (elsewhere l x y)),
      sum_member n others k bk,
      counted_true hi 1,
      counted_true hj 1,
      counted_true hk 1,
      at_i,
      at_j,
      elsewhere k not_i not_j,
    )
  where
    others : ℕ → ℕ
    others l = cond (eqb l i || eqb l j) 0 (counted (t l) 1)

    at_i : others i ≡ 0
    at_i = rw (eq-eqb i i refl)

    at_j : others j ≡ 0
    at_j = rw (eq-eqb j j refl, ne_eqb j i (λ e. apart (sym e)))

    elsewhere : (l : ℕ) → (l ≡ i → ⊥) → (l ≡ j → ⊥) → others l ≡ counted (t l) 1
    elsewhere l x y = rw (ne_eqb l i x, ne_eqb l j y)

required_terminal : (p : Problem) (ok : Sound p) (u v : ℕ) → u < p.vertices → (u ≡ v → ⊥) → p.required u v ≡ true → terminal p v ≡ true
required_terminal p ok u v bu apart r = terminal_intro p v (record { vertex = u; below = bu; other = apart; required = r })

pub two_terminals : (p : Problem) (ok : Sound p) → terminals p ≡ 2 → TwoTerminals p
unfolding terminals
two_terminals p ok two = by (lt_or_ge one.at other.vertex)
  where
    one : Found p.vertices (terminal p)
    one = count_elim p.vertices (terminal p) (omega arith)

    other : Partner p one.at
    other = terminal_elim p one.at one.passes

    back : terminal p other.vertex ≡ true
    back =
        required_terminal p ok one.at other.vertex one.below (λ e. other.other (sym e)) (ok.symmetric other.vertex one.at other.required)

    third : (v : ℕ) → v < p.vertices → terminal p v ≡ true → Dec (v ≡ one.at) → Dec (v ≡ other.vertex) → (v ≡ one.at) ⊎ (v ≡ other.vertex)
    third v b t (yes k) x = inl k
    third v b t (no d) (yes k) = inr k
    third v b t (no d) (no c) =
        absurd
        (omega (
          arith,
          two,
          count_three p.vertices (terminal p) one.at other.vertex v one.below other.below b (λ e. other.other (sym e)) d c one.passes back t,
        ))

    only : (v : ℕ) → v < p.vertices → terminal p v ≡ true → (v ≡ one.at) ⊎ (v ≡ other.vertex)
    only v b t = third v b t (ℕ_discrete v one.at) (ℕ_discrete v other.vertex)

    by : (one.at < other.vertex) ⊎ (other.vertex ≤ one.at) → TwoTerminals p
    by (inl l) =
        record {
          low = one.at;
          high = other.vertex;
          rising = l;
          high_below = other.below;
          low_terminal = one.passes;
          high_terminal = back;
          no_other = only;
        }
    by (inr g) =
        record {
          low = other.vertex;
          high = one.at;
          rising = omega (arith, other.other);
          high_below = one.below;
          low_terminal = back;
          high_terminal = one.passes;
          no_other = λ v b t. ⊎_elim inr inl (only v b t);
        }

module _ (p : Problem) (ok : Sound p) (t : TwoTerminals p) where
  low_below : t.low < p.vertices
  low_below = omega (arith, t.rising, t.high_below)

  -- They are required to be linked,
  pub two_required : p.required t.low t.high ≡ true
  two_required = by (t.no_other w.vertex w.below (required_terminal p ok t.low w.vertex low_below (λ e. w.other (sym e)) (ok.symmetric w.vertex t.low w.required)))
    where
      w : Partner p t.low
      w = terminal_elim p t.low t.low_terminal

      by : (w.vertex ≡ t.low) ⊎ (w.vertex ≡ t.high) → p.required t.low t.high ≡ true
      by (inl same) = absurd (w.other same)
      by (inr same) = subst (λ x. p.required t.low x ≡ true) same (ok.symmetric w.vertex t.low w.required)

  -- and a set that links them joins.
  pub two_joins : (F : ℕ → Bool) → Linked p.first p.second F t.low t.high → Joins p F
  two_joins F l u v bu bv r = by (ℕ_discrete u v)
    where
      at : (u ≡ v → ⊥) → (u ≡ t.low) ⊎ (u ≡ t.high) → (v ≡ t.low) ⊎ (v ≡ t.high) → Linked p.first p.second F u v
      at apart (inl x) (inl y) = absurd (apart (x ∙ sym y))
      at apart (inr x) (inr y) = absurd (apart (x ∙ sym y))
      at apart (inl x) (inr y) = rw (x, y) l
      at apart (inr x) (inl y) = rw (x, y) (linked_sym l)

      by : Dec (u ≡ v) → Linked p.first p.second F u v
      by (yes same) = linked_refl same
      by (no apart) =
          at apart (t.no_other u bu (required_terminal p ok v u bv (λ e. apart (sym e)) (ok.symmetric u v r)))
          (t.no_other v bv (required_terminal p ok u v bu apart r))

  module _ (some : 0 < p.vertices) (joinable : Joins p (all_usable p)) (two : terminals p ≡ 2) where
    -- The plan for two terminals is a cheapest route between them.
    pub two_cheapest_route : CheapestRoute p (kept p) t.low t.high
    two_cheapest_route =
        record {
          edges = es;
          path = record { vertices = r.vertices; route = r.route };
          no_more = whole;
          price = paid;
          cheapest = λ fs path.
              let F : EdgeSet p (occurs fs) = λ e h. all_usable_edges p e (route_edge e path.route h) in
              let least = two_cheapest p ok some joinable two (occurs fs) F (two_joins (occurs fs) (route_alone path.route)) in
              omega (arith, least, route_price p (λ e h. (all_usable_edges p e h).0) path.route);
        }
      where
        r : Routed p.first p.second (kept p) t.low t.high
        r = linked_route (kept_joins p ok some joinable t.low t.high low_below t.high_below two_required)

        es : List ℕ
        es = r.edges

        whole : (e : ℕ) → kept p e ≡ occurs es e
        whole e =
            same_test_law (kept p e) (occurs es e)
            (λ k. route_uses e r.route (λ l. kept_spares_none p ok some joinable e k (two_joins (without (kept p) e) l)))
            (route_edge e r.route)

        paid : cost p (kept p) ≡ route_cost p es
        paid = cost_same p (kept p) (occurs es) whole ∙ route_price p (λ e h. (kept_edges p ok some joinable e h).0) r.route
