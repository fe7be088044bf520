-- What one round does to each part of the state, and the states that rounds reach. Laws of growth go by recursion over `Reached`.
use Rattle.std.specs.Prelude.{ℕ, zero, suc, ◌+◌, ◌≡◌, true, ◌||◌, ◌⊎◌, eqb}
use Rattle.std.proofs.Math.Path.{refl}
use native.Mathlib.Omega.{arith}
use Rattle.std.proofs.Math.Logic.{inl, inr, ⊎_elim}
use Rattle.std.proofs.Common.{eqb-true, eq-eqb, ne_eqb}
use Rattle.base_finite.specs.Laws.Test.{or_cases, or_left, or_right}
use Rattle.base_finite.specs.Below.{counted}
use Rattle.base_finite.specs.Laws.Below.{memo_is}
use Rattle.theory_graph.specs.Component.{merged}
use Rattle.theory_steiner.specs.Problem.{Problem}
use Rattle.theory_steiner.specs.Growth.{State, active, numbers, Winner, nobody, edge, winner, pick, Reached, first, next, advance, state_at}

pub advance_reached : (p : Problem) {s : State} → Reached p s → (w : Winner) → winner p s ≡ w → Reached p (advance p s w)
unfolding advance
advance_reached p h nobody e = h
advance_reached p h (edge f d) e = next h e

pub state_at_reached : (p : Problem) (r : ℕ) → Reached p (state_at p r)
unfolding state_at
state_at_reached p zero = first
state_at_reached p (suc r) = advance_reached p (state_at_reached p r) (winner p (state_at p r)) refl

module _ (p : Problem) (s : State) (e d : ℕ) where
  pub pick_rounds : (pick p s e d).rounds ≡ suc s.rounds
  unfolding pick
  pick_rounds = refl

  pub pick_numbers : numbers p (pick p s e d) ≡ suc (numbers p s)
  unfolding pick numbers
  pick_numbers = omega arith

  pub pick_label : (v : ℕ) → (pick p s e d).label v ≡ merged (s.label (p.first e)) (s.label (p.second e)) (numbers p s) s.label v
  unfolding pick
  pick_label v = memo_is p.vertices (merged (s.label (p.first e)) (s.label (p.second e)) (numbers p s) s.label) v

  pub pick_value : (c : ℕ) → (pick p s e d).value c ≡ s.value c + counted (active p s.label c) d
  unfolding pick
  pick_value c = memo_is (numbers p s) (λ c. s.value c + counted (active p s.label c) d) c

  pub pick_holds_old : (c v : ℕ) → (c ≡ numbers p s → ⊥) → (pick p s e d).holds c v ≡ s.holds c v
  unfolding pick
  pick_holds_old c v h = rw (ne_eqb c (numbers p s) h)

  pub pick_holds_new : (v : ℕ) → (pick p s e d).holds (numbers p s) v ≡ (s.holds (s.label (p.first e)) v || s.holds (s.label (p.second e)) v)
  unfolding pick
  pick_holds_new v = rw (eq-eqb (numbers p s) (numbers p s) refl)

  pub pick_picked : (f : ℕ) → (pick p s e d).picked f ≡ (s.picked f || eqb f e)
  unfolding pick
  pick_picked f = refl

  pub pick_more : (f : ℕ) → s.picked f ≡ true → (pick p s e d).picked f ≡ true
  unfolding pick
  pick_more f h = or_left (s.picked f) (eqb f e) h

  pub pick_new : (pick p s e d).picked e ≡ true
  unfolding pick
  pick_new = or_right (s.picked e) (eqb e e) (eq-eqb e e refl)

  pub pick_only : (f : ℕ) → (pick p s e d).picked f ≡ true → (s.picked f ≡ true) ⊎ (f ≡ e)
  unfolding pick
  pick_only f h = ⊎_elim inl (λ k. inr (eqb-true f e k)) (or_cases (s.picked f) (eqb f e) h)
