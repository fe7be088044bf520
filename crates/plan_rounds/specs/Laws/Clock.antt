-- While a component is active its value is the time less that at which it was 0, and activity changes at merging alone: so a round changes what is
-- held of the two components that it joins and of the one that they become, and of no other (001, Algorithm 22.3).
use Rattle.std.specs.Prelude.{◌≡◌, ℕ, ◌+◌, ◌<◌, ◌≤◌, Bool, true, false, cond, ◌⊎◌, List, ◌==◌, ◌≢◌, slice_index, slice_set, refl}
use Rattle.std.proofs.Common.{arith, ap, sym, ◌∙◌, inl, inr, eq-eqb, ne_eqb}
use Rattle.std.proofs.Math.Decide.{ℕ_discrete}
use Rattle.std.proofs.Math.Seq.{set_out}
use Rattle.base_finite.specs.Below.{tabulate}
use Rattle.base_finite.specs.Laws.Below.{counted_true, counted_false, counted_le, length_tabulate, get_d_tabulate, lt_or_ge}
use Rattle.base_finite.specs.Laws.Test.{either, not_true_false}
use Rattle.base_buffer.proofs.Laws.Store.{tabulate_cong, set_table}
use Rattle.theory_graph.specs.Component.{merged}
use Rattle.theory_steiner.specs.Problem.{Problem}
use Rattle.theory_steiner.specs.Growth.{State, active, numbers, pick, Reached}
use Rattle.theory_steiner.proofs.Laws.Round.{pick_label, pick_value}
use Rattle.theory_steiner.proofs.Laws.Partition.{active_below_law}
use Rattle.theory_steiner.proofs.Laws.Weighed.{value_fresh, value_newborn}
use Rattle.theory_steiner.proofs.Laws.Activity.{active_cong, active_other, active_gone}
use Rattle.plan_search.specs.Held.{held_value, settled_by}
use Rattle.plan_search.proofs.Laws.Held.{held_on, held_off, settled_on, settled_off}
use Rattle.plan_rounds.specs.Tables.{settled_at}

-- Three of them settled, at places that were read.
pub settled_three : (flags after values : List ℕ) (time z : ℕ) {one two three : List ℕ} {i j x y : ℕ} → i ≡ x → j ≡ y → one ≡ settled_at flags time i values
    → two ≡ settled_at flags time j one → three ≡ settled_at after time z two
    → three ≡ settled_at after time z (settled_at flags time y (settled_at flags time x values))
settled_three flags after values time z h k a b c = c ∙ rw (b, a, h, k)

-- ---- a round that picks edge e

module _ (p : Problem) {s : State} (h : Reached p s) (e d time : ℕ) (timely : (c : ℕ) → s.value c ≤ time) where
  abbrev x : ℕ
  x = s.label (p.first e)

  abbrev y : ℕ
  y = s.label (p.second e)

  abbrev held : ℕ → ℕ
  held c = held_value time (active p s.label c) (s.value c)

  abbrev held_next : ℕ → ℕ
  held_next c = held_value (time + d) (active p (pick p s e d).label c) ((pick p s e d).value c)

  pub timely_next : (c : ℕ) → (pick p s e d).value c ≤ time + d
  timely_next c = omega (arith, pick_value p s e d c, timely c, counted_le (active p s.label c) d)

  active_next : (c : ℕ) → active p (pick p s e d).label c ≡ active p (merged x y (numbers p s) s.label) c
  active_next c = active_cong p (pick p s e d).label (merged x y (numbers p s) s.label) c (λ v b. pick_label p s e d v)

  -- Any other component.
  held_other : (c : ℕ) → (c ≢ x) → (c ≢ y) → (c ≢ numbers p s) → held c ≡ held_next c
  held_other c cx cy cz = by (either (active p s.label c))
    where
      same : active p (pick p s e d).label c ≡ active p s.label c
      same = active_next c ∙ active_other p s.label x y (numbers p s) c cx cy cz

      by : (active p s.label c ≡ true) ⊎ (active p s.label c ≡ false) → held c ≡ held_next c
      by (inl t) =
          omega (
            arith,
            held_on time (s.value c) t,
            held_on (time + d) ((pick p s e d).value c) (same ∙ t),
            pick_value p s e d c,
            counted_true t d,
          )
      by (inr t) =
          omega (
            arith,
            held_off time (s.value c) t,
            held_off (time + d) ((pick p s e d).value c) (same ∙ t),
            pick_value p s e d c,
            counted_false t d,
          )

  -- The two.
  held_gone : (c : ℕ) → (c ≡ x) ⊎ (c ≡ y) → (c ≢ numbers p s) → settled_by (time + d) (active p s.label c) (held c) ≡ held_next c
  held_gone c old cz = by (either (active p s.label c))
    where
      idle : active p (pick p s e d).label c ≡ false
      idle = active_next c ∙ active_gone p s.label x y (numbers p s) c old cz

      by : (active p s.label c ≡ true) ⊎ (active p s.label c ≡ false) → settled_by (time + d) (active p s.label c) (held c) ≡ held_next c
      by (inl t) =
          omega (
            arith,
            timely c,
            settled_on (time + d) (held c) t,
            held_on time (s.value c) t,
            held_off (time + d) ((pick p s e d).value c) idle,
            pick_value p s e d c,
            counted_true t d,
          )
      by (inr t) =
          omega (
            arith,
            settled_off (time + d) (held c) t,
            held_off time (s.value c) t,
            held_off (time + d) ((pick p s e d).value c) idle,
            pick_value p s e d c,
            counted_false t d,
          )

  -- The new one.
  held_new : settled_by (time + d) (active p (pick p s e d).label (numbers p s)) (held (numbers p s)) ≡ held_next (numbers p s)
  held_new = by (either (active p (pick p s e d).label (numbers p s)))
    where
      idle : active p s.label (numbers p s) ≡ false
      idle = not_true_false (active p s.label (numbers p s)) (λ a. let l = active_below_law p h (numbers p s) a in omega arith)

      none : held (numbers p s) ≡ 0
      none = held_off time (s.value (numbers p s)) idle ∙ value_fresh p h (numbers p s) (omega arith)

      by : (active p (pick p s e d).label (numbers p s) ≡ true) ⊎ (active p (pick p s e d).label (numbers p s) ≡ false)
          → settled_by (time + d) (active p (pick p s e d).label (numbers p s)) (held (numbers p s)) ≡ held_next (numbers p s)
      by (inl t) =
          omega (
            arith,
            none,
            value_newborn p h e d,
            settled_on (time + d) (held (numbers p s)) t,
            held_on (time + d) ((pick p s e d).value (numbers p s)) t,
          )
      by (inr t) =
          omega (
            arith,
            none,
            value_newborn p h e d,
            settled_off (time + d) (held (numbers p s)) t,
            held_off (time + d) ((pick p s e d).value (numbers p s)) t,
          )

  -- ---- the same in a table

  abbrev turned : (c : ℕ) (t : Bool) → (ℕ → ℕ) → ℕ → ℕ
  turned c t f k = cond (k == c) (settled_by (time + d) t (f c)) (f k)

  turn_table : (n c : ℕ) (t : Bool) (f : ℕ → ℕ) → slice_set (tabulate n f) c (settled_by (time + d) t (slice_index (tabulate n f) c)) ≡ tabulate n (turned c t f)
  turn_table n c t f = by (lt_or_ge c n)
    where
      stays : (k : ℕ) → (k ≢ c) → f k ≡ turned c t f k
      stays k q = sym (ap (λ b. cond b (settled_by (time + d) t (f c)) (f k)) (ne_eqb k c q))

      by : (c < n) ⊎ (n ≤ c) → slice_set (tabulate n f) c (settled_by (time + d) t (slice_index (tabulate n f) c)) ≡ tabulate n (turned c t f)
      by (inl l) =
          set_table n f (turned c t f) c (settled_by (time + d) t (slice_index (tabulate n f) c))
          (ap (settled_by (time + d) t) (get_d_tabulate n f c 0 l) ∙ sym (ap (λ b. cond b (settled_by (time + d) t (f c)) (f c)) (eq-eqb c c refl)))
          stays
      by (inr l) =
          set_out (tabulate n f) c (settled_by (time + d) t (slice_index (tabulate n f) c)) (rw (length_tabulate n f) l)
          ∙ tabulate_cong n f (turned c t f) (λ k b. stays k (λ q. omega arith))

  module _ (apart : x ≡ y → ⊥) (xz : x ≡ numbers p s → ⊥) (yz : y ≡ numbers p s → ⊥) where
    abbrev one : ℕ → ℕ
    one = turned x (active p s.label x) held

    abbrev two : ℕ → ℕ
    two = turned y (active p s.label y) one

    turned_at_law : (c : ℕ) (t : Bool) (f : ℕ → ℕ) (k : ℕ) → k ≡ c → turned c t f k ≡ settled_by (time + d) t (f c)
    turned_at_law c t f k q = ap (λ b. cond b (settled_by (time + d) t (f c)) (f k)) (eq-eqb k c q)

    turned_off : (c : ℕ) (t : Bool) (f : ℕ → ℕ) (k : ℕ) → (k ≢ c) → turned c t f k ≡ f k
    turned_off c t f k q = ap (λ b. cond b (settled_by (time + d) t (f c)) (f k)) (ne_eqb k c q)

    settled_all : (k : ℕ) → turned (numbers p s) (active p (pick p s e d).label (numbers p s)) two k ≡ held_next k
    settled_all k = by (ℕ_discrete k (numbers p s)) (ℕ_discrete k y) (ℕ_discrete k x)
      where
        t : Bool
        t = active p (pick p s e d).label (numbers p s)

        by : Dec (k ≡ numbers p s) → Dec (k ≡ y) → Dec (k ≡ x) → turned (numbers p s) (active p (pick p s e d).label (numbers p s)) two k ≡ held_next k
        by (yes q) b c =
            turned_at_law (numbers p s) t two k q
            ∙ ap (settled_by (time + d) t)
            (turned_off y (active p s.label y) one (numbers p s) (λ u. yz (sym u)) ∙ turned_off x (active p s.label x) held (numbers p s) (λ u. xz (sym u)))
            ∙ held_new
            ∙ ap held_next (sym q)
        by (no a) (yes q) c =
            turned_off (numbers p s) t two k a
            ∙ turned_at_law y (active p s.label y) one k q
            ∙ ap (settled_by (time + d) (active p s.label y)) (turned_off x (active p s.label x) held y (λ u. apart (sym u)))
            ∙ held_gone y (inr refl) yz
            ∙ ap held_next (sym q)
        by (no a) (no b) (yes q) =
            turned_off (numbers p s) t two k a
            ∙ turned_off y (active p s.label y) one k b
            ∙ turned_at_law x (active p s.label x) held k q
            ∙ held_gone x (inl refl) xz
            ∙ ap held_next (sym q)
        by (no a) (no b) (no c) =
            turned_off (numbers p s) t two k a ∙ turned_off y (active p s.label y) one k b ∙ turned_off x (active p s.label x) held k c ∙ held_other k c b a

    -- The three are settled one after another: x and y by what they were, the new one by what it is.
    pub settled_next : (n : ℕ) {values one_after two_after three_after : List ℕ} {i j k : ℕ} {u v w : Bool} → values ≡ tabulate n held
        → i ≡ x → j ≡ y → k ≡ numbers p s
        → u ≡ active p s.label x → v ≡ active p s.label y → w ≡ active p (pick p s e d).label (numbers p s)
        → one_after ≡ slice_set values i (settled_by (time + d) u (slice_index values i))
        → two_after ≡ slice_set one_after j (settled_by (time + d) v (slice_index one_after j))
        → three_after ≡ slice_set two_after k (settled_by (time + d) w (slice_index two_after k))
        → three_after ≡ tabulate n held_next
    settled_next n {values} {one_after} {two_after} h i_is j_is k_is u_is v_is w_is a b c =
        let first : one_after ≡ tabulate n one = a ∙ rw (h, i_is, u_is) (turn_table n x (active p s.label x) held) in
        let second : two_after ≡ tabulate n two = b ∙ rw (first, j_is, v_is) (turn_table n y (active p s.label y) one) in
        c ∙ rw (second, k_is, w_is) (turn_table n (numbers p s) (active p (pick p s e d).label (numbers p s)) two)
        ∙ tabulate_cong n _ held_next (λ k b. settled_all k)
