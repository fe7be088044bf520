-- What is held for the load of a vertex changes only where the flag of its component does: a round turns it for the members of the two components that it joins,
-- if they get another flag, and for no other vertex (001, Algorithm 22.3).
use Rattle.std.specs.Prelude.{◌≡◌, ℕ, ◌+◌, ◌<◌, ◌≤◌, Bool, true, false, cond, not, ◌⊎◌, List, length, ◌==◌, ◌≢◌, nat_lt, slice_index, slice_index_or}
use Rattle.std.proofs.Common.{arith, ap, ◌∙◌, inl, inr, length-set, get_or-set_same, get_or-set_other, eq-eqb, ne_eqb, lt-ltb, le-ltb}
use Rattle.std.proofs.Math.Path.{refl, sym}
use Rattle.std.proofs.lemmas.List.{set-get_or}
use Rattle.base_finite.specs.Below.{counted}
use Rattle.base_finite.specs.Laws.Below.{counted_le, lt_or_ge}
use Rattle.base_buffer.proofs.Laws.Store.{length_remade, remade_ahead, remade_passed, remade_more}
use Rattle.theory_graph.specs.Component.{merged}
use Rattle.theory_graph.proofs.Laws.Component.{Merging, inside, outside, merged_in, merged_out}
use Rattle.theory_steiner.specs.Problem.{Problem, Sound}
use Rattle.theory_steiner.specs.Growth.{State, start, active, numbers, load, pick, Reached, first, next}
use Rattle.theory_steiner.proofs.Laws.Round.{pick_label}
use Rattle.theory_steiner.proofs.Laws.Partition.{label_merging, label_below_law}
use Rattle.theory_steiner.proofs.Laws.Weighed.{load_pick}
use Rattle.theory_steiner.proofs.Laws.Activity.{active_cong, active_other}
use Rattle.plan_active.specs.Flags.{relabelled_first, merged_flags}
use Rattle.plan_search.specs.Held.{held_value, settled_by}
use Rattle.plan_search.proofs.Laws.Held.{settled_off}
use Rattle.plan_rounds.specs.Tables.{turned_at, turned_members, turned_component, turned_to}
use Rattle.plan_rounds.specs.Represents.{held_load}

-- A label below n is the vertex's own.
pub label_own : (p : Problem) {s : State} → Reached p s → (v : ℕ) → s.label v < p.vertices → s.label v ≡ v
unfolding start numbers
label_own p first v b = refl
label_own p (next {s = s} {e = e} {d = d} h w) v b = by (λ k. label_own p h v k) (label_merging p s e v)
  where
    by : (s.label v < p.vertices → s.label v ≡ v) → Merging (s.label (p.first e)) (s.label (p.second e)) (numbers p s) s.label v
        → (pick p s e d).label v ≡ v
    by before (inside q i) = absurd (omega (arith, pick_label p s e d v, i))
    by before (outside q r i) = let same = pick_label p s e d v ∙ i in same ∙ before (omega arith)

-- ---- one load

-- What is held after d more, where the flag was f and becomes g.
pub held_turned : (time d value : ℕ) (f g : Bool) → value ≤ time
    → settled_by (time + d) (not (counted f 1 == counted g 1)) (held_value time f value) ≡ held_value (time + d) g (value + counted f d)
unfolding settled_by held_value counted
held_turned time d value true true h = omega arith
held_turned time d value true false h = omega arith
held_turned time d value false true h = omega arith
held_turned time d value false false h = omega arith

-- And where it stays.
held_same : (time d value : ℕ) (f : Bool) → held_value time f value ≡ held_value (time + d) f (value + counted f d)
unfolding held_value counted
held_same time d value true = omega arith
held_same time d value false = omega arith

-- ---- one vertex after another

module _ (labels : List ℕ) (time c v : ℕ) (l : List ℕ) {now next : List ℕ} {label : ℕ} (made : now ≡ turned_members labels v time c l) (Label_is : label ≡ slice_index labels v) where
  pub member_turned : label ≡ c → next ≡ turned_at time v now → next ≡ turned_members labels (v + 1) time c l
  unfolding turned_members turned_at
  member_turned q turned =
      turned
      ∙ remade_more (λ v x. settled_by time (slice_index labels v == c) x) v l now (settled_by time true (slice_index now v)) made
      (ap (λ t. settled_by time t (slice_index now v)) (sym (eq-eqb (slice_index labels v) c (sym Label_is ∙ q))))

  pub member_passed : (label ≢ c) → next ≡ now → next ≡ turned_members labels (v + 1) time c l
  unfolding turned_members
  member_passed q same =
      same
      ∙ sym (set-get_or now v 0)
      ∙ remade_more (λ v x. settled_by time (slice_index labels v == c) x) v l now (slice_index now v) made
      (sym (settled_off time (slice_index now v) (ne_eqb (slice_index labels v) c (λ k. q (Label_is ∙ k)))))

-- ---- as the code reads it

pub turned_stays : (flag : ℕ) (flags labels : List ℕ) (n time c : ℕ) (loads : List ℕ) {i before : ℕ} → i ≡ c → before ≡ slice_index flags i → before ≡ flag
    → loads ≡ turned_to flag flags labels n time c loads
unfolding turned_to
turned_stays flag flags labels n time c loads i_is before_is same =
    rw (eq-eqb (slice_index flags c) flag (ap (λ k. slice_index flags k) (sym i_is) ∙ sym before_is ∙ same))

pub turned_changes : (flag : ℕ) (flags labels : List ℕ) (n time c : ℕ) (loads : List ℕ) {i before : ℕ} {after : List ℕ} → i ≡ c → before ≡ slice_index flags i
    → (before ≢ flag) → after ≡ turned_component labels n time c loads → after ≡ turned_to flag flags labels n time c loads
unfolding turned_to
turned_changes flag flags labels n time c loads i_is before_is other made =
    rw (ne_eqb (slice_index flags c) flag (λ k. other (before_is ∙ ap (λ k. slice_index flags k) i_is ∙ k))) made

-- Two components, by numbers and a flag that were read.
pub turned_both : (flags labels : List ℕ) (n time : ℕ) (loads : List ℕ) {one two : List ℕ} {x y a b flag f : ℕ} → x ≡ a → y ≡ b → flag ≡ f
    → one ≡ turned_to flag flags labels n time x loads → two ≡ turned_to flag flags labels n time y one
    → two ≡ turned_to f flags labels n time b (turned_to f flags labels n time a loads)
turned_both flags labels n time loads h k f_is made_one made_two = made_two ∙ rw (made_one, h, k, f_is)

-- The components that become z, by numbers and a flag that were read.
pub merged_both : (flags labels : List ℕ) (n z : ℕ) {flags_after labels_after_ : List ℕ} {x y a b flag f : ℕ} → x ≡ a → y ≡ b → flag ≡ f
    → (labels_after_ ≡ relabelled_first n x y z labels) × (flags_after ≡ merged_flags x y z flag flags)
    → (labels_after_ ≡ relabelled_first n a b z labels) × (flags_after ≡ merged_flags a b z f flags)
merged_both flags labels n z h k f_is made = (made.0 ∙ rw (h, k), made.1 ∙ rw (h, k, f_is))

-- ---- turned in a table

module _ (labels : List ℕ) (n time c u : ℕ) (own : (v : ℕ) → v < n → slice_index labels v < n → slice_index labels v ≡ v) (u_below : u < n) (u_in : slice_index_or labels u 0 ≡ c)
    (loads : List ℕ) (long : n ≤ length loads) where
  component_own : (v : ℕ) → v < n → slice_index labels v ≡ c → slice_index (turned_component labels n time c loads) v ≡ settled_by time true (slice_index loads v)
  unfolding turned_component turned_at turned_members
  component_own v b q = by (lt_or_ge c n)
    where
      by : (c < n) ⊎ (n ≤ c) → slice_index (turned_component labels n time c loads) v ≡ settled_by time true (slice_index loads v)
      by (inl l) =
          let v_is : v ≡ c = sym (own v b (omega arith)) ∙ q in
          rw (lt-ltb c n l, v_is) (get_or-set_same loads c (settled_by time true (slice_index loads c)) 0 (omega arith))
      by (inr l) = rw (le-ltb c n l) (remade_passed (λ v x. settled_by time (slice_index labels v == c) x) n loads v b (omega arith) ∙ rw (eq-eqb (slice_index labels v) c q))

  component_other : (v : ℕ) → (v < n → slice_index labels v ≢ c) → slice_index (turned_component labels n time c loads) v ≡ slice_index loads v
  unfolding turned_component turned_at turned_members
  component_other v out = by (lt_or_ge c n) (lt_or_ge v n)
    where
      by : (c < n) ⊎ (n ≤ c) → (v < n) ⊎ (n ≤ v) → slice_index (turned_component labels n time c loads) v ≡ slice_index loads v
      by (inl l) b =
          let u_is : u ≡ c = sym (own u u_below (omega arith)) ∙ u_in in
          rw (lt-ltb c n l)
          (get_or-set_other loads c v (settled_by time true (slice_index loads c)) 0 (λ q. out (omega arith) (ap (λ i. slice_index labels i) (q ∙ sym u_is) ∙ u_in)))
      by (inr l) (inl b) =
          rw (le-ltb c n l)
          (remade_passed (λ v x. settled_by time (slice_index labels v == c) x) n loads v b (omega arith) ∙ settled_off time (slice_index loads v) (ne_eqb (slice_index labels v) c (out b)))
      by (inr l) (inr b) = rw (le-ltb c n l) (remade_ahead (λ v x. settled_by time (slice_index labels v == c) x) n loads v b)

  module _ (flag : ℕ) (flags : List ℕ) where
    pub turned_own : (v : ℕ) → v < n → slice_index labels v ≡ c
        → slice_index (turned_to flag flags labels n time c loads) v ≡ settled_by time (not (slice_index flags c == flag)) (slice_index loads v)
    unfolding turned_to settled_by
    turned_own v b q = by (slice_index flags c == flag)
      where
        by : (t : Bool) → slice_index (cond t loads (turned_component labels n time c loads)) v ≡ settled_by time (not t) (slice_index loads v)
        by true = refl
        by false = component_own v b q

    pub turned_other : (v : ℕ) → (v < n → slice_index labels v ≢ c) → slice_index (turned_to flag flags labels n time c loads) v ≡ slice_index loads v
    unfolding turned_to
    turned_other v out = by (slice_index flags c == flag)
      where
        by : (t : Bool) → slice_index (cond t loads (turned_component labels n time c loads)) v ≡ slice_index loads v
        by true = refl
        by false = component_other v out

pub length_turned : (flag : ℕ) (flags labels : List ℕ) (n time c : ℕ) (loads : List ℕ) → length (turned_to flag flags labels n time c loads) ≡ length loads
unfolding turned_to turned_component turned_at turned_members
length_turned flag flags labels n time c loads = by (slice_index flags c == flag) (nat_lt c n)
  where
    by : (s t : Bool) → length (cond s loads (cond t (turned_at time c loads) (turned_members labels n time c loads))) ≡ length loads
    by true t = refl
    by false true = length-set loads c (settled_by time true (slice_index loads c))
    by false false = length_remade (λ v x. settled_by time (slice_index labels v == c) x) n loads

-- ---- a round that picks edge e

module _ (p : Problem) (ok : Sound p) {s : State} (h : Reached p s) (e d time : ℕ) where
  abbrev x : ℕ
  x = s.label (p.first e)

  abbrev y : ℕ
  y = s.label (p.second e)

  pub load_timely : (v : ℕ) → v < p.vertices → load p s v ≤ time → load p (pick p s e d) v ≤ time + d
  load_timely v b timely = omega (arith, load_pick p ok h e d v b, counted_le (active p s.label (s.label v)) d)

  -- A member of the components that are joined.
  pub load_joined : (v : ℕ) → v < p.vertices → load p s v ≤ time → (s.label v ≡ x) ⊎ (s.label v ≡ y)
      → settled_by (time + d) (not (counted (active p s.label (s.label v)) 1 == counted (active p (pick p s e d).label (numbers p s)) 1)) (held_load p s time v)
      ≡ held_load p (pick p s e d) (time + d) v
  unfolding held_load
  load_joined v b timely old =
      rw (pick_label p s e d v ∙ merged_in x y (numbers p s) s.label v old, load_pick p ok h e d v b)
      (held_turned time d (load p s v) (active p s.label (s.label v)) (active p (pick p s e d).label (numbers p s)) timely)

  -- Any other vertex.
  pub load_other : (v : ℕ) → v < p.vertices → (s.label v ≢ x) → (s.label v ≢ y) → held_load p s time v ≡ held_load p (pick p s e d) (time + d) v
  unfolding held_load
  load_other v b vx vy =
      let below = label_below_law p h v b in
      let same : active p (pick p s e d).label (s.label v) ≡ active p s.label (s.label v) =
      active_cong p (pick p s e d).label (merged x y (numbers p s) s.label) (s.label v) (λ v b. pick_label p s e d v)
      ∙ active_other p s.label x y (numbers p s) (s.label v) vx vy (λ q. omega arith) in
      rw (pick_label p s e d v ∙ merged_out x y (numbers p s) s.label v vx vy, load_pick p ok h e d v b, same)
      (held_same time d (load p s v) (active p s.label (s.label v)))
