-- What is read of an arc, case by case, and how long the flags of sweeps are.
use Prim.Native.Nat.{ℕ, zero, suc, ◌-◌, ◌≤◌, ◌<◌}
use Rattle.std.proofs.Common.{arith, ◌∙◌, inl, inr, true≢false, lt-ltb, le-ltb}
use Rattle.std.specs.Prelude.{◌≡◌, ◌⊎◌, Bool, ◌&&◌, cond, List, get_or, set, replicate, eqb, min}
use Rattle.std.proofs.Math.Path.{refl}
use Rattle.std.proofs.Math.Bool.{true, false}
use Rattle.std.proofs.Math.ListN.{length, length-set}
use Rattle.base_finite.specs.Laws.Below.{lt_or_ge}
use Rattle.base_buffer.specs.Store.{remade}
use Rattle.base_buffer.proofs.Laws.Store.{remade_end}
use Rattle.floor_rule.specs.Ascent.{max_arcs, lesser, arc_count, edge_of, tail_of, head_of, enters_at, flag_at, sweep, sweeps, prices}

pub lesser_taken : (x y : ℕ) {r : ℕ} → r ≡ y → r < x → r ≡ lesser x y
unfolding lesser
lesser_taken x y r_is h = let b : y < x = omega (arith, r_is, h) in rw (lt-ltb y x b) r_is

pub lesser_kept : (x y : ℕ) {r : ℕ} → r ≡ y → x ≤ r → x ≡ lesser x y
unfolding lesser
lesser_kept x y r_is h = let b : x ≤ y = omega (arith, r_is, h) in rw (le-ltb y x b)

pub lesser_min : (x y : ℕ) → min x y ≡ lesser x y
lesser_min x y = by (lt_or_ge y x)
  where
    by : (y < x) ⊎ (x ≤ y) → min x y ≡ lesser x y
    by (inl h) = let e : min x y ≡ y = omega arith in e ∙ lesser_taken x y refl h
    by (inr h) = let e : min x y ≡ x = omega arith in e ∙ lesser_kept x y refl h

pub edge_low : (firsts : List ℕ) (a : ℕ) → a < length firsts → a ≡ edge_of firsts a
unfolding edge_of
edge_low firsts a b = rw (lt-ltb a (length firsts) b)

pub edge_high : (firsts : List ℕ) (a : ℕ) → length firsts ≤ a → a - length firsts ≡ edge_of firsts a
unfolding edge_of
edge_high firsts a b = rw (le-ltb a (length firsts) b)

module _ (firsts seconds : List ℕ) (a : ℕ) where
  pub tail_low : a < length firsts → get_or firsts a 0 ≡ tail_of firsts seconds a
  unfolding tail_of
  tail_low b = rw (lt-ltb a (length firsts) b)

  pub tail_high : length firsts ≤ a → get_or seconds (a - length firsts) 0 ≡ tail_of firsts seconds a
  unfolding tail_of
  tail_high b = rw (le-ltb a (length firsts) b)

  pub head_low : a < length firsts → get_or seconds a 0 ≡ head_of firsts seconds a
  unfolding head_of
  head_low b = rw (lt-ltb a (length firsts) b)

  pub head_high : length firsts ≤ a → get_or firsts (a - length firsts) 0 ≡ head_of firsts seconds a
  unfolding head_of
  head_high b = rw (le-ltb a (length firsts) b)

-- A flag that says 'more' stays.
pub more_false : {A : Type 0} → true ≡ false → A
more_false h = absurd (true≢false h)

module _ (firsts seconds rests : List ℕ) where
  length_flag : (a : ℕ) (flags : List ℕ) → length (flag_at firsts seconds rests a flags) ≡ length flags
  unfolding flag_at
  length_flag a flags = by (eqb (get_or rests a 0) 0 && enters_at firsts seconds flags a)
    where
      by : (t : Bool) → length (cond t (set flags (tail_of firsts seconds a) 1) flags) ≡ length flags
      by true = length-set flags (tail_of firsts seconds a) 1
      by false = refl

  pub length_sweep : (n : ℕ) (flags : List ℕ) → length (sweep firsts seconds rests n flags) ≡ length flags
  unfolding sweep
  length_sweep zero flags = refl
  length_sweep (suc a) flags = length_flag a (sweep firsts seconds rests a flags) ∙ length_sweep a flags

  pub length_sweeps : (n : ℕ) (flags : List ℕ) → length (sweeps firsts seconds rests n flags) ≡ length flags
  unfolding sweeps
  length_sweeps zero flags = refl
  length_sweeps (suc i) flags = length_sweep (arc_count firsts) (sweeps firsts seconds rests i flags) ∙ length_sweeps i flags

pub prices_end : (firsts weights : List ℕ) (arcs a : ℕ) {now : List ℕ} → a ≤ arcs → arcs ≤ a → arcs ≡ arc_count firsts
    → now ≡ remade (λ b rest. get_or weights (edge_of firsts b) 0) a (replicate max_arcs 0) → now ≡ prices firsts weights
unfolding prices
prices_end firsts weights arcs a b c arcs_are h = h ∙ remade_end _ (arc_count firsts) a (replicate max_arcs 0) (omega (arith, arcs_are)) (omega (arith, arcs_are))
