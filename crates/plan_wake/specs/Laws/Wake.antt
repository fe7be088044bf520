-- Waking leaves keys that serve the next round, and floors that are not above them.
use Prim.Native.Nat.{ℕ, zero, suc, ◌+◌, ◌*◌, ◌/◌, ◌<◌, ◌≤◌}
use native.Mathlib.Omega.{arith}
use Rattle.std.specs.Prelude.{◌≡◌, ◌⊎◌, Bool, ◌&&◌, List, set, eqb}
use Rattle.std.proofs.Math.Path.{refl, sym, subst}
use Rattle.std.proofs.Common.{ap, ◌∙◌, inl, inr, get_or-set_same, get_or-set_other}
use Rattle.std.proofs.Math.Bool.{true, false, cond}
use Rattle.std.proofs.Math.ListN.{length, get_or, length-set, get_or-eq_default}
use Rattle.std.proofs.Math.Dec.{ltb}
use borrow.Author.Tests.{eq-eqb, eqb-true, eqb-false, ltb-true, ltb-false, lt-ltb, le-ltb}
use Rattle.base_finite.specs.Laws.Below.{lt_or_ge}
use Rattle.base_finite.specs.Laws.Test.{and_both, and_left, and_right, or_left, or_right}
use Rattle.theory_steiner.specs.Problem.{Problem}
use Rattle.theory_steiner.specs.Growth.{State, slack}
use Rattle.plan_search.specs.Scan.{idle_alone, reach, Keyed, Woken, block_edges, Floored}
use Rattle.plan_search.specs.Tables.{Tables}
use Rattle.plan_search.proofs.Laws.Scan.{slack_reach, set_low}
use Rattle.plan_wake.specs.Wake.{ends_at, idle_vertex, KeyNotes, notes_from, behind_by, woken_key, lowered, woken_edge, woken_on, woken_at, woken_by}

-- ---- a number lowered

module _ (l : List ℕ) (i x : ℕ) where
  pub lowered_falls : {y : ℕ} {after : List ℕ} → y ≡ get_or l i 0 → x < y → after ≡ set l i x → after ≡ lowered l i x
  unfolding lowered
  lowered_falls y_is h k = k ∙ sym (ap (λ t. cond t (set l i x) l) (lt-ltb x (get_or l i 0) (omega arith)))

  pub lowered_stays : {y : ℕ} → y ≡ get_or l i 0 → y ≤ x → l ≡ lowered l i x
  unfolding lowered
  lowered_stays y_is h = sym (ap (λ t. cond t (set l i x) l) (le-ltb x (get_or l i 0) (omega arith)))

  length_lowered : length (lowered l i x) ≡ length l
  unfolding lowered
  length_lowered = by (ltb x (get_or l i 0))
    where
      by : (t : Bool) → length (cond t (set l i x) l) ≡ length l
      by true = length-set l i x
      by false = refl

  -- None is higher, and number i is x at most.
  lowered_le : (k : ℕ) → get_or (lowered l i x) k 0 ≤ get_or l k 0
  unfolding lowered
  lowered_le k = by (ltb x (get_or l i 0)) refl
    where
      by : (t : Bool) → ltb x (get_or l i 0) ≡ t → get_or (cond t (set l i x) l) k 0 ≤ get_or l k 0
      by true t = let h = ltb-true x (get_or l i 0) t in set_low l i x k (get_or l k 0) (λ q. subst (λ j. x ≤ get_or l j 0) (sym q) (omega arith)) (λ q. omega arith)
      by false t = omega arith

  lowered_at : get_or (lowered l i x) i 0 ≤ x
  unfolding lowered
  lowered_at = by (ltb x (get_or l i 0)) refl
    where
      by : (t : Bool) → ltb x (get_or l i 0) ≡ t → get_or (cond t (set l i x) l) i 0 ≤ x
      by true t = set_low l i x i x (λ q. omega arith) (λ q. absurd (q refl))
      by false t = ltb-false x (get_or l i 0) t

-- A bound from below outlasts a store that it bounds.
set_high : (l : List ℕ) (e x i B : ℕ) → (i ≡ e → B ≤ x) → B ≤ get_or l i 0 → B ≤ get_or (set l e x) i 0
set_high l e x i B h k = by (eqb i e) refl (lt_or_ge e (length l))
  where
    by : (t : Bool) → eqb i e ≡ t → (e < length l) ⊎ (length l ≤ e) → B ≤ get_or (set l e x) i 0
    by true t (inl b) = let q = eqb-true i e t in let s = get_or-set_same l e x 0 b in let y = h q in rw q (omega arith)
    by true t (inr b) =
        let q = eqb-true i e t in
        let z : get_or l i 0 ≡ 0 = get_or-eq_default l 0 (omega arith) in
        omega arith
    by false t b = let s = get_or-set_other l e i x 0 (eqb-false i e t) in omega arith

module _ (wakes : ℕ → Bool) (fresh : ℕ → ℕ) where
  -- ---- one edge

  abbrev woken : KeyNotes → ℕ → KeyNotes
  woken s e = notes_from (set s.keys e (fresh e)) (lowered s.floors (e / block_edges) (fresh e))

  edge_length : (s : KeyNotes) (e : ℕ) → (length (woken_edge wakes fresh s e).keys ≡ length s.keys) × (length (woken_edge wakes fresh s e).floors ≡ length s.floors)
  unfolding woken_edge
  edge_length s e = by (wakes e)
    where
      by : (t : Bool) → (length (cond t (woken s e) s).keys ≡ length s.keys) × (length (cond t (woken s e) s).floors ≡ length s.floors)
      by true = (length-set s.keys e (fresh e), length_lowered s.floors (e / block_edges) (fresh e))
      by false = (refl, refl)

  -- A key stays within a bound that its fresh key is within.
  edge_low : (s : KeyNotes) (e i B : ℕ) → get_or s.keys i 0 ≤ B → (wakes i ≡ true → fresh i ≤ B) → get_or (woken_edge wakes fresh s e).keys i 0 ≤ B
  unfolding woken_edge
  edge_low s e i B h k = by (wakes e) refl
    where
      by : (t : Bool) → wakes e ≡ t → get_or (cond t (woken s e) s).keys i 0 ≤ B
      by true t = set_low s.keys e (fresh e) i B (λ q. subst (λ j. fresh j ≤ B) q (k (ap wakes q ∙ t))) (λ q. h)
      by false t = h

  edge_fresh : (s : KeyNotes) (e : ℕ) → wakes e ≡ true → get_or (woken_edge wakes fresh s e).keys e 0 ≤ fresh e
  unfolding woken_edge
  edge_fresh s e h = rw h (set_low s.keys e (fresh e) e (fresh e) (λ q. omega arith) (λ q. absurd (q refl)))

  edge_floored : (m : ℕ) (s : KeyNotes) (e : ℕ) → Floored m s.keys s.floors → Floored m (woken_edge wakes fresh s e).keys (woken_edge wakes fresh s e).floors
  unfolding woken_edge
  edge_floored m s e f = by (wakes e)
    where
      low : (i : ℕ) → i < m → get_or (lowered s.floors (e / block_edges) (fresh e)) (i / block_edges) 0 ≤ get_or (set s.keys e (fresh e)) i 0
      low i b =
          let l = lowered_le s.floors (e / block_edges) (fresh e) (i / block_edges) in
          let k = f.low i b in
          set_high s.keys e (fresh e) i (get_or (lowered s.floors (e / block_edges) (fresh e)) (i / block_edges) 0)
          (λ q. subst (λ j. get_or (lowered s.floors (e / block_edges) (fresh e)) j 0 ≤ fresh e) (sym (ap (λ j. j / block_edges) q)) (lowered_at s.floors (e / block_edges) (fresh e)))
          (omega arith)

      by : (t : Bool) → Floored m (cond t (woken s e) s).keys (cond t (woken s e) s).floors
      by true = record { low = low }
      by false = f

  -- ---- so many edges

  pub on_length : (s : KeyNotes) (from n : ℕ) → (length (woken_on wakes fresh s from n).keys ≡ length s.keys) × (length (woken_on wakes fresh s from n).floors ≡ length s.floors)
  unfolding woken_on
  on_length s from zero = (refl, refl)
  on_length s from (suc n) =
      let k = edge_length (woken_on wakes fresh s from n) (from + n) in
      let h = on_length s from n in
      (k.0 ∙ h.0, k.1 ∙ h.1)

  on_low : (s : KeyNotes) (from n i B : ℕ) → get_or s.keys i 0 ≤ B → (wakes i ≡ true → fresh i ≤ B) → get_or (woken_on wakes fresh s from n).keys i 0 ≤ B
  unfolding woken_on
  on_low s from zero i B h k = h
  on_low s from (suc n) i B h k = edge_low (woken_on wakes fresh s from n) (from + n) i B (on_low s from n i B h k) k

  on_fresh : (s : KeyNotes) (from n k : ℕ) → k < n → wakes (from + k) ≡ true → get_or (woken_on wakes fresh s from n).keys (from + k) 0 ≤ fresh (from + k)
  unfolding woken_on
  on_fresh s from zero k b w = absurd (omega arith)
  on_fresh s from (suc n) k b w = by (lt_or_ge k n) (λ c. on_fresh s from n k c w)
    where
      by : (k < n) ⊎ (n ≤ k) → (k < n → get_or (woken_on wakes fresh s from n).keys (from + k) 0 ≤ fresh (from + k))
          → get_or (woken_edge wakes fresh (woken_on wakes fresh s from n) (from + n)).keys (from + k) 0 ≤ fresh (from + k)
      by (inl c) ih = edge_low (woken_on wakes fresh s from n) (from + n) (from + k) (fresh (from + k)) (ih c) (λ _. omega arith)
      by (inr c) ih =
          let q : k ≡ n = omega arith in
          subst (λ i. get_or (woken_edge wakes fresh (woken_on wakes fresh s from n) (from + i)).keys (from + k) 0 ≤ fresh (from + k)) q
          (edge_fresh (woken_on wakes fresh s from n) (from + k) w)

  on_floored : (m : ℕ) (s : KeyNotes) (from n : ℕ) → Floored m s.keys s.floors → Floored m (woken_on wakes fresh s from n).keys (woken_on wakes fresh s from n).floors
  unfolding woken_on
  on_floored m s from zero f = f
  on_floored m s from (suc n) f = edge_floored m (woken_on wakes fresh s from n) (from + n) (on_floored m s from n f)

-- ---- the edges at the two components that edge e joins

module _ (tables : Tables) (time n e : ℕ) (t : KeyNotes) where
  -- Floors stay below the keys.
  pub woken_floored : (m : ℕ) → Floored m t.keys t.floors → Floored m (woken_by tables time n e t).keys (woken_by tables time n e t).floors
  unfolding woken_by woken_at
  woken_floored m f = on_floored _ _ m _ 0 (length tables.firsts) (on_floored _ _ m t 0 (length tables.firsts) f)

  abbrev x : ℕ
  x = get_or tables.labels (get_or tables.firsts e 0) 0

  abbrev y : ℕ
  y = get_or tables.labels (get_or tables.seconds e 0) 0

  abbrev idle : ℕ → Bool
  idle c = idle_vertex tables.flags n c

  abbrev ends : (c f : ℕ) → Bool
  ends c f = ends_at tables.firsts tables.seconds c f

  abbrev keyed : (c f : ℕ) → ℕ
  keyed c f = woken_key tables.weights (behind_by tables.loads time c) f

  abbrev at : (c : ℕ) → KeyNotes → KeyNotes
  at c s = woken_at tables.firsts tables.seconds tables.weights tables.loads tables.flags time n c s

  at_fresh : (c f : ℕ) (s : KeyNotes) → f < length tables.firsts → idle c ≡ true → ends c f ≡ true → get_or (at c s).keys f 0 ≤ keyed c f
  unfolding woken_at
  at_fresh c f s b i h =
      let z : 0 + f ≡ f = omega arith in
      subst (λ k. get_or (woken_on (λ e. idle c && ends c e) (keyed c) s 0 (length tables.firsts)).keys k 0 ≤ keyed c k) z
      (on_fresh (λ e. idle c && ends c e) (keyed c) s 0 (length tables.firsts) f b (ap (λ k. idle c && ends c k) z ∙ and_both (idle c) (ends c f) i h))

  at_low : (c f B : ℕ) (s : KeyNotes) → get_or s.keys f 0 ≤ B → (idle c ≡ true → ends c f ≡ true → keyed c f ≤ B) → get_or (at c s).keys f 0 ≤ B
  unfolding woken_at
  at_low c f B s h k = on_low (λ e. idle c && ends c e) (keyed c) s 0 (length tables.firsts) f B h (λ w. k (and_left (idle c) (ends c f) w) (and_right (idle c) (ends c f) w))

  -- The keys are those that the next round needs, where the lists are the problem's, the flags tell which vertices are idle, and the woken keys bound from below.
  module _ (p : Problem) (s : State) (m : p.edges ≡ length tables.firsts) (of : (f : ℕ) → (p.first f ≡ get_or tables.firsts f 0) × (p.second f ≡ get_or tables.seconds f 0))
      (low : (c f : ℕ) → (c ≡ x) ⊎ (c ≡ y) → f < p.edges → idle c ≡ true → ends c f ≡ true → keyed c f ≤ 2 * time + slack p s f) where
    -- Either of the two.
    woken_up : (c f : ℕ) → f < p.edges → idle c ≡ true → ends c f ≡ true → (c ≡ x) ⊎ (c ≡ y) → get_or (woken_by tables time n e t).keys f 0 ≤ 2 * time + slack p s f
    unfolding woken_by
    woken_up c f b i h (inl q) =
        let l = low c f (inl q) b i h in
        let k = at_fresh c f t (omega arith) i h in
        let z : get_or (at x t).keys f 0 ≤ 2 * time + slack p s f = subst (λ k. get_or (at k t).keys f 0 ≤ 2 * time + slack p s f) q (omega arith) in
        at_low y f (2 * time + slack p s f) (at x t) z (low y f (inr refl) b)
    woken_up c f b i h (inr q) =
        let l = low c f (inr q) b i h in
        let k = at_fresh c f (at x t) (omega arith) i h in
        subst (λ k. get_or (at k (at x t)).keys f 0 ≤ 2 * time + slack p s f) q (omega arith)

    first_end : (f : ℕ) → ends (p.first f) f ≡ true
    unfolding ends_at
    first_end f =
        or_left (eqb (get_or tables.firsts f 0) (p.first f)) (eqb (get_or tables.seconds f 0) (p.first f))
        (eq-eqb (get_or tables.firsts f 0) (p.first f) (sym (of f).0))

    second_end : (f : ℕ) → ends (p.second f) f ≡ true
    unfolding ends_at
    second_end f =
        or_right (eqb (get_or tables.firsts f 0) (p.second f)) (eqb (get_or tables.seconds f 0) (p.second f))
        (eq-eqb (get_or tables.seconds f 0) (p.second f) (sym (of f).1))

    reaching : (c f : ℕ) → (c ≡ x) ⊎ (c ≡ y) → f < p.edges → idle c ≡ true → ends c f ≡ true → keyed c f ≤ 2 * time + reach p s f
    reaching c f q b i h = let l = low c f q b i h in let r = slack_reach p s f in omega arith

    pub woken_keys : ((f : ℕ) → f < p.edges → idle_alone p s (p.first f) ≡ true → idle (p.first f) ≡ true)
        → ((f : ℕ) → f < p.edges → idle_alone p s (p.second f) ≡ true → idle (p.second f) ≡ true)
        → Keyed p s time t.keys → Woken p s time x y (woken_by tables time n e t).keys
    unfolding woken_by
    woken_keys idle_first idle_second k =
        record {
          awake = λ f b a r. at_low y f (2 * time + reach p s f) (at x t) (at_low x f (2 * time + reach p s f) t (k.low f b a r) (reaching x f (inl refl) b)) (reaching y f (inr refl) b);
          first_up = λ f b i. woken_up (p.first f) f b (idle_first f b i) (first_end f);
          second_up = λ f b i. woken_up (p.second f) f b (idle_second f b i) (second_end f);
        }
