-- What a plan takes from the requirement is which cuts it separates (f(S) of source 001, section 22.1). So a requirement and any other between it and its
-- chains have one plan, and the same sets of edges join both. Lists poured together use it (document 02, No. 2).
use Prim.Native.Nat.{ℕ, zero, suc, ◌+◌, ◌<◌}
use Rattle.std.proofs.Math.Decide.{ℕ_discrete}
use Rattle.std.specs.Prelude.{◌≡◌, ◌↔◌, Bool, true, false, ◌&&◌, ◌||◌}
use Rattle.std.proofs.Math.Path.{refl, ap, sym}
use Rattle.std.proofs.Common.{◌∙◌, subst, ⊎_elim, eqb-true, eq-eqb, ne_eqb}
use Rattle.std.proofs.Math.Bool.{not, cond}
use Rattle.std.proofs.Math.Dec.{eqb}
use Rattle.std.proofs.lemmas.Bool.{eqb-false, not-true}
use Rattle.base_finite.specs.Below.{all_below, sum_below, counted, memo, tabulate}
use Rattle.base_finite.specs.Laws.Test.{either, or_cases, or_left, or_right, not_of_false, true_not_false, same_test_law}
use Rattle.base_finite.specs.Laws.Below.{all_intro, all_elim, count_cong}
use Rattle.theory_graph.specs.Path.{without}
use Rattle.theory_graph.specs.Component.{components, merged}
use Rattle.theory_steiner.specs.Problem.{Problem, Bounded, Joins, joined, separates, terminal, terminals, cost}
use Rattle.theory_steiner.specs.Growth.{State, active, slack, load, numbers, delay, Winner, nobody, edge, winner_below, winner, pick, advance, state_at, grown}
use Rattle.theory_steiner.specs.Dual.{duals_of}
use Rattle.theory_steiner.specs.Pruning.{needed, picked, kept, mark_of, mark, dual_bound}
use Rattle.theory_steiner.specs.Requirement.{requiring, Chain, one, more, SamePlan}
use Rattle.theory_steiner.proofs.Laws.Joined.{Split, separates_elim, separates_intro, Partner, terminal_elim, terminal_intro, joined_elim, joined_intro}

-- Labels are equal on every required pair.
abbrev Even : Problem → (ℕ → ℕ) → Type 0
Even p label = (u v : ℕ) → u < p.vertices → v < p.vertices → p.required u v ≡ true → label u ≡ label v

test : Problem → (ℕ → ℕ) → Bool
test p label = all_below p.vertices (λ u. all_below p.vertices (λ v. not (p.required u v) || eqb (label u) (label v)))

test_even : (p : Problem) (label : ℕ → ℕ) → test p label ≡ true → Even p label
unfolding test
test_even p label h u v bu bv r =
    eqb-true (label u) (label v)
    (⊎_elim
    (λ n. true_not_false (p.required u v) r (not-true (p.required u v) n))
    (λ e. e)
    (or_cases (not (p.required u v)) (eqb (label u) (label v))
    (all_elim p.vertices (λ v. not (p.required u v) || eqb (label u) (label v))
    (all_elim p.vertices (λ u. all_below p.vertices (λ v. not (p.required u v) || eqb (label u) (label v))) h u bu) v bv)))

even_test : (p : Problem) (label : ℕ → ℕ) → Even p label → test p label ≡ true
unfolding test
even_test p label h =
    all_intro p.vertices (λ u. all_below p.vertices (λ v. not (p.required u v) || eqb (label u) (label v)))
    (λ u bu.
    all_intro p.vertices (λ v. not (p.required u v) || eqb (label u) (label v))
    (λ v bv.
    ⊎_elim
    (λ r. or_right (not (p.required u v)) (eqb (label u) (label v)) (eq-eqb (label u) (label v) (h u v bu bv r)))
    (λ r. or_left (not (p.required u v)) (eqb (label u) (label v)) (not_of_false (p.required u v) r))
    (either (p.required u v))))

-- A problem whose cuts are all cuts of another asks no more of labels.
even_from : (p q : Problem) (label : ℕ → ℕ) → ((S : ℕ → Bool) → separates q S ≡ true → separates p S ≡ true) → Even p label → Even q label
even_from p q label cuts h u v bu bv r = by (ℕ_discrete (label u) (label v))
  where
    S : ℕ → Bool
    S w = eqb (label w) (label u)

    by : Dec (label u ≡ label v) → label u ≡ label v
    by (yes e) = e
    by (no d) =
        let s : Split p S =
        separates_elim p S
        (cuts S
        (separates_intro q S
        (record {
          u = u;
          v = v;
          u_below = bu;
          v_below = bv;
          required = r;
          inside = eq-eqb (label u) (label u) refl;
          outside = ne_eqb (label v) (label u) (λ e. d (sym e));
        }))) in
        absurd
        (eqb-false (label s.v) (label u) s.outside
        (sym (h s.u s.v s.u_below s.v_below s.required) ∙ eqb-true (label s.u) (label u) s.inside))

abbrev Symmetric : Problem → Type 0
Symmetric p = (u v : ℕ) → p.required u v ≡ true → p.required v u ≡ true

-- A terminal is a vertex that is a cut by itself.
terminal_from : (p q : Problem) → Symmetric p → Symmetric q → ((S : ℕ → Bool) → separates q S ≡ true → separates p S ≡ true)
    → (v : ℕ) → v < q.vertices → terminal q v ≡ true → terminal p v ≡ true
terminal_from p q sym_p sym_q cuts v b h =
    let w : Partner q v = terminal_elim q v h in
    let s : Split p (λ x. eqb x v) =
    separates_elim p (λ x. eqb x v)
    (cuts (λ x. eqb x v)
    (separates_intro q (λ x. eqb x v)
    (record {
      u = v;
      v = w.vertex;
      u_below = b;
      v_below = w.below;
      required = sym_q w.vertex v w.required;
      inside = eq-eqb v v refl;
      outside = ne_eqb w.vertex v w.other;
    }))) in
    let e : s.u ≡ v = eqb-true s.u v s.inside in
    terminal_intro p v
    (record {
      vertex = s.v;
      below = s.v_below;
      other = eqb-false s.v v s.outside;
      required = subst (λ x. p.required s.v x ≡ true) e (sym_p s.u s.v s.required);
    })

module _ (p : Problem) (r : ℕ → ℕ → Bool) (same : (S : ℕ → Bool) → separates p S ≡ separates (requiring p r) S) where
  abbrev q : Problem
  q = requiring p r

  active_same : (label : ℕ → ℕ) (c : ℕ) → active p label c ≡ active q label c
  unfolding active
  active_same label c = same (λ v. eqb (label v) c)

  slack_same : (s : State) (e : ℕ) → slack p s e ≡ slack q s e
  unfolding slack load numbers
  slack_same s e = refl

  delay_same : (s : State) (e : ℕ) → delay p s e ≡ delay q s e
  unfolding delay
  delay_same s e = rw (active_same s.label (s.label (p.first e)), active_same s.label (s.label (p.second e)), slack_same s e)

  winner_below_same : (s : State) (k : ℕ) → winner_below p s k ≡ winner_below q s k
  unfolding winner_below
  winner_below_same s zero = refl
  winner_below_same s (suc e) = rw (winner_below_same s e, delay_same s e)

  winner_same : (s : State) → winner p s ≡ winner q s
  unfolding winner
  winner_same s = winner_below_same s p.edges

  pick_same : (s : State) (e d : ℕ) → pick p s e d ≡ pick q s e d
  unfolding pick numbers
  pick_same s e d i =
      record {
        rounds = suc s.rounds;
        label = memo p.vertices (merged (s.label (p.first e)) (s.label (p.second e)) (p.vertices + s.rounds) s.label);
        value = memo (p.vertices + s.rounds) (λ c. s.value c + counted (active_same s.label c i) d);
        holds = λ c v. cond (eqb c (p.vertices + s.rounds)) (s.holds (s.label (p.first e)) v || s.holds (s.label (p.second e)) v) (s.holds c v);
        picked = λ f. s.picked f || eqb f e;
      }

  advance_same : (s : State) (w : Winner) → advance p s w ≡ advance q s w
  unfolding advance
  advance_same s nobody = refl
  advance_same s (edge e d) = pick_same s e d

  -- The states of all rounds are the same.
  pub state_same : (k : ℕ) → state_at p k ≡ state_at q k
  unfolding state_at
  state_same zero = refl
  state_same (suc k) =
      advance_same (state_at p k) (winner p (state_at p k))
      ∙ ap (advance q (state_at p k)) (winner_same (state_at p k))
      ∙ ap (λ s. advance q s (winner q s)) (state_same k)

  pub grown_same : grown p ≡ grown q
  unfolding grown
  grown_same = state_same p.vertices

  joined_same : (F : ℕ → Bool) → joined p F ≡ joined q F
  unfolding joined test
  joined_same F =
      let label : ℕ → ℕ = components p.vertices p.first p.second F p.edges in
      same_test_law (test p label) (test q label)
      (λ h. even_test q label (even_from p q label (λ S k. same S ∙ k) (test_even p label h)))
      (λ h. even_test p label (even_from q p label (λ S k. sym (same S) ∙ k) (test_even q label h)))

  -- The same sets of edges join every required pair.
  pub joins_same : (F : ℕ → Bool) → Bounded p F → Joins p F ↔ Joins q F
  joins_same F bounded = (
    λ h. joined_elim q F (sym (joined_same F) ∙ joined_intro p F bounded h),
    λ h. joined_elim p F (joined_same F ∙ joined_intro q F bounded h),
  )

  pub needed_same : (F : ℕ → Bool) (e : ℕ) → needed p F e ≡ needed q F e
  unfolding needed
  needed_same F e = ap (λ t. F e && not t) (joined_same (without F e))

  pub picked_same : picked p ≡ picked q
  unfolding picked
  picked_same = ap (λ (s : State). s.picked) grown_same

  kept_at : (e : ℕ) → kept p e ≡ kept q e
  unfolding kept
  kept_at e = needed_same (picked p) e ∙ ap (λ F. needed q F e) picked_same

  pub kept_same : kept p ≡ kept q
  kept_same i e = kept_at e i

  pub mark_same : mark p ≡ mark q
  unfolding mark
  mark_same i e = mark_of (picked_same i e) (kept_same i e)

  cost_same : cost p (kept p) ≡ cost q (kept q)
  unfolding cost
  cost_same = ap (λ (F : ℕ → Bool). sum_below p.edges (λ e. counted (F e) (p.weight e))) kept_same

  bound_same : dual_bound p (grown p) ≡ dual_bound q (grown q)
  unfolding dual_bound numbers
  bound_same = ap (λ (s : State). sum_below (p.vertices + s.rounds) s.value) grown_same

  duals_for_law : (s : State) → duals_of p s ≡ duals_of q s
  unfolding duals_of numbers
  duals_for_law s = refl

  duals_same : duals_of p (grown p) ≡ duals_of q (grown q)
  duals_same = duals_for_law (grown p) ∙ ap (duals_of q) grown_same

  terminals_same : Symmetric p → Symmetric q → terminals p ≡ terminals q
  unfolding terminals
  terminals_same sym_p sym_q =
      count_cong p.vertices (terminal p) (terminal q)
      (λ v b.
      same_test_law (terminal p v) (terminal q v)
      (terminal_from q p sym_q sym_p (λ S k. sym (same S) ∙ k) v b)
      (terminal_from p q sym_p sym_q (λ S k. same S ∙ k) v b))

  -- Everything that planning answers and draws is the same.
  pub plan_same : Symmetric p → Symmetric q → SamePlan p q
  plan_same sym_p sym_q =
      record {
        same_terminals = terminals_same sym_p sym_q;
        same_cost = cost_same;
        same_bound = bound_same;
        same_rounds = ap (λ (s : State). s.rounds) grown_same;
        same_marks_law = ap (λ (f : ℕ → ℕ). tabulate p.edges f) mark_same;
        same_duals = duals_same;
      }

-- ---- chains

-- A cut that parts the ends of a chain parts a required pair of it.
chain_separated : (p : Problem) (S : ℕ → Bool) {u w : ℕ} → Chain p u w → S u ≡ true → S w ≡ false → separates p S ≡ true
chain_separated p S (one {u} {v} bu bv r) h k =
    separates_intro p S (record { u = u; v = v; u_below = bu; v_below = bv; required = r; inside = h; outside = k })
chain_separated p S (more {u} {v} {w} bu bv r c) h k =
    ⊎_elim
    (λ t. chain_separated p S c t k)
    (λ f. separates_intro p S (record { u = u; v = v; u_below = bu; v_below = bv; required = r; inside = h; outside = f }))
    (either (S v))

-- Any requirement between that of p and its chains separates the same cuts.
pub between_separates : (p : Problem) (r : ℕ → ℕ → Bool)
    → ((u v : ℕ) → u < p.vertices → v < p.vertices → p.required u v ≡ true → r u v ≡ true)
    → ((u v : ℕ) → u < p.vertices → v < p.vertices → r u v ≡ true → Chain p u v)
    → (S : ℕ → Bool) → separates p S ≡ separates (requiring p r) S
between_separates p r low high S =
    same_test_law (separates p S) (separates (requiring p r) S)
    (λ h.
    let s : Split p S = separates_elim p S h in
    separates_intro (requiring p r) S
    (record {
      u = s.u;
      v = s.v;
      u_below = s.u_below;
      v_below = s.v_below;
      required = low s.u s.v s.u_below s.v_below s.required;
      inside = s.inside;
      outside = s.outside;
    }))
    (λ h.
    let s : Split (requiring p r) S = separates_elim (requiring p r) S h in
    chain_separated p S (high s.u s.v s.u_below s.v_below s.required) s.inside s.outside)
