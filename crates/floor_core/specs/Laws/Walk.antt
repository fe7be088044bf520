-- A walk finds the cut: what holds before its first turn holds before the next, and at the end.
use Prim.Native.Nat.{ℕ, zero, suc, ◌+◌, ◌-◌, ◌/◌, ◌%◌, ◌≤◌, ◌<◌}
use native.Mathlib.Omega.{arith}
use Rattle.std.proofs.Math.Decide.{ℕ_discrete}
use Rattle.std.specs.Prelude.{◌≡◌, refl, ◌⊎◌, Some, None, Bool, true, not, List, length, set, replicate}
use Rattle.std.proofs.Math.Path.{ap, sym, subst}
use Rattle.std.proofs.Common.{◌∙◌, inl, inr, get_or-set_same, get_or-set_other, eqb-true, eq-eqb, ne_eqb}
use Rattle.std.proofs.Math.Logic.{⊎_elim}
use Rattle.std.proofs.Math.Bool.{false}
use Rattle.std.proofs.Math.ListN.{get_or, length-set, get_or-eq_default}
use Rattle.std.proofs.lemmas.List.{length-replicate, get_or-replicate}
use Rattle.std.proofs.Math.Dec.{eqb}
use Rattle.base_finite.specs.Below.{counted, count_below, any_below}
use Rattle.base_finite.specs.Laws.Test.{either, true_not_false}
use Rattle.base_finite.specs.Laws.Below.{lt_or_ge, below_suc, sum_at, sum_only, counted_true, counted_false, count_le, any_intro, any_elim}
use Rattle.base_limits.specs.Limits.{max_vertices}
use Rattle.floor_rule.specs.Ascent.{max_arcs, head_of, flagged}
use Rattle.floor_core.specs.Chain.{last_into, link_of}
use Rattle.floor_core.specs.Laws.Chain.{last_le}
use Rattle.floor_core.specs.Laws.End.{count_more_than}
use Rattle.floor_core.specs.Laws.Reach.{here, along}
use Rattle.floor_core.specs.Walk.{Ground, arcs_in, tail_in, head_in, LeadsIn, LinkedIn, ChainedIn, LeadsTo, looked, Among, Turn, Begun, Next, Cut, CutFound}

-- ---- the last arc that leads to a vertex

module _ (firsts seconds : List ℕ) (v : ℕ) where
  pub last_head : (n a : ℕ) → last_into firsts seconds v n ≡ suc a → (a < n) × (head_of firsts seconds a ≡ v)
  unfolding last_into
  last_head zero a e = absurd (omega (arith, e))
  last_head (suc b) a e = by (either (eqb (head_of firsts seconds b) v)) (λ h. last_head b a h)
    where
      by : (eqb (head_of firsts seconds b) v ≡ true) ⊎ (eqb (head_of firsts seconds b) v ≡ false) → (last_into firsts seconds v b ≡ suc a → (a < b) × (head_of firsts seconds a ≡ v))
          → (a < suc b) × (head_of firsts seconds a ≡ v)
      by (inl t) before =
          let same : suc b ≡ suc a = rw t at e in
          let is : b ≡ a = omega (arith, same) in
          (omega arith, subst (λ c. head_of firsts seconds c ≡ v) is (eqb-true (head_of firsts seconds b) v t))
      by (inr t) before = let x = before (rw t at e) in (omega (arith, x.0), x.1)

  pub last_none : (n b : ℕ) → last_into firsts seconds v n ≤ b → b < n → head_of firsts seconds b ≡ v → ⊥
  unfolding last_into
  last_none zero b h c e = omega (arith, c)
  last_none (suc a) b h c e = by (either (eqb (head_of firsts seconds a) v)) (λ x y. last_none a b x y e)
    where
      by : (eqb (head_of firsts seconds a) v ≡ true) ⊎ (eqb (head_of firsts seconds a) v ≡ false) → (last_into firsts seconds v a ≤ b → b < a → ⊥) → ⊥
      by (inl t) before = let top : suc a ≤ b = rw t at h in omega (arith, top, c)
      by (inr t) before = ⊎_elim
          (λ d. before (rw t at h) d)
          (λ d. true_not_false (eqb (head_of firsts seconds a) v) (eq-eqb (head_of firsts seconds a) v (subst (λ x. head_of firsts seconds x ≡ v) d e)) t)
          (below_suc b a c)

-- ---- flags

flag_on : (flags : List ℕ) (u x : ℕ) → (x ≡ 0 → ⊥) → get_or flags u 0 ≡ x → flagged flags u ≡ true
flag_on flags u x some h = ap not (ne_eqb (get_or flags u 0) 0 (λ z. some (sym h ∙ z)))

flag_off : (flags : List ℕ) (u : ℕ) → get_or flags u 0 ≡ 0 → flagged flags u ≡ false
flag_off flags u h = ap not (eq-eqb (get_or flags u 0) 0 h)

pub off_value : (flags : List ℕ) (u : ℕ) → flagged flags u ≡ false → get_or flags u 0 ≡ 0
off_value flags u h = by (ℕ_discrete (get_or flags u 0) 0)
  where
    by : Dec (get_or flags u 0 ≡ 0) → get_or flags u 0 ≡ 0
    by (yes e) = e
    by (no e) = true_not_false (flagged flags u) (flag_on flags u (get_or flags u 0) e refl) h

pub looked_flagged : (flags : List ℕ) (u : ℕ) → looked flags u ≡ true → flagged flags u ≡ true
looked_flagged flags u h = flag_on flags u 2 (λ z. omega (arith, z)) (eqb-true (get_or flags u 0) 2 h)

-- What is flagged has a place.
pub flag_below : (flags : List ℕ) (u : ℕ) → flagged flags u ≡ true → u < length flags
flag_below flags u h = ⊎_elim (λ b. b) (λ b. true_not_false (flagged flags u) h (flag_off flags u (get_or-eq_default flags 0 {n = u} b))) (lt_or_ge u (length flags))

module _ (flags : List ℕ) (u x : ℕ) (low : u < length flags) where
  set_flagged : (x ≡ 0 → ⊥) → flagged (set flags u x) u ≡ true
  set_flagged some = flag_on (set flags u x) u x some (get_or-set_same flags u x 0 low)

  flag_stays : (x ≡ 0 → ⊥) → (w : ℕ) → flagged flags w ≡ true → flagged (set flags u x) w ≡ true
  flag_stays some w h = by (ℕ_discrete w u)
    where
      by : Dec (w ≡ u) → flagged (set flags u x) w ≡ true
      by (yes e) = subst (λ y. flagged (set flags u x) y ≡ true) (sym e) (set_flagged some)
      by (no e) = ap (λ y. not (eqb y 0)) (get_or-set_other flags u w x 0 e) ∙ h

  flag_other : (w : ℕ) → (w ≡ u → ⊥) → flagged (set flags u x) w ≡ flagged flags w
  flag_other w e = ap (λ y. not (eqb y 0)) (get_or-set_other flags u w x 0 e)

  looked_other : (w : ℕ) → (w ≡ u → ⊥) → looked (set flags u x) w ≡ looked flags w
  looked_other w e = ap (λ y. eqb y 2) (get_or-set_other flags u w x 0 e)

-- ---- at most as many different arcs as there are

module _ (l : List ℕ) (n : ℕ) where
  among : ℕ → ℕ → Bool
  among e b = any_below e (λ j. eqb (get_or l j 0) b)

  among_true : (e b j : ℕ) → j < e → get_or l j 0 ≡ b → among e b ≡ true
  unfolding among
  among_true e b j c h = any_intro e (λ k. eqb (get_or l k 0) b) j c (eq-eqb (get_or l j 0) b h)

  among_false : (e b : ℕ) → ((j : ℕ) → j < e → get_or l j 0 ≡ b → ⊥) → among e b ≡ false
  unfolding among
  among_false e b none = by (either (any_below e (λ j. eqb (get_or l j 0) b)))
    where
      by : (any_below e (λ j. eqb (get_or l j 0) b) ≡ true) ⊎ (any_below e (λ j. eqb (get_or l j 0) b) ≡ false) → any_below e (λ j. eqb (get_or l j 0) b) ≡ false
      by (inr t) = t
      by (inl t) = let f = any_elim e (λ j. eqb (get_or l j 0) b) t in absurd (none f.at f.below (eqb-true (get_or l f.at 0) b f.passes))

  among_more : (e b : ℕ) → among e b ≡ true → among (suc e) b ≡ true
  unfolding among
  among_more e b t = let f = any_elim e (λ j. eqb (get_or l j 0) b) t in let c : f.at < e = f.below in any_intro (suc e) (λ j. eqb (get_or l j 0) b) f.at (omega arith) f.passes

  different : (e : ℕ) → ((j : ℕ) → j < e → get_or l j 0 < n) → ((j k : ℕ) → j < e → k < e → get_or l j 0 ≡ get_or l k 0 → j ≡ k) → e ≤ count_below n (among e)
  different zero low apart = omega arith
  different (suc e) low apart =
      let before : e ≤ count_below n (among e) = different e (λ j b. low j (omega arith)) (λ j k b c. apart j k (omega arith) (omega arith)) in
      let one : count_below n (among e) < count_below n (among (suc e)) =
      count_more_than n (among e) (among (suc e)) (get_or l e 0) (low e (omega arith)) (λ j b. among_more e j)
      (among_false e (get_or l e 0) (λ j b same. omega (arith, b, apart j e (omega arith) (omega arith) same))) (among_true (suc e) (get_or l e 0) e (omega arith) refl) in
      omega (arith, before, one)

  -- One more is not among them.
  pub room_for : (e a : ℕ) → a < n → ((j : ℕ) → j < e → get_or l j 0 < n) → ((j k : ℕ) → j < e → k < e → get_or l j 0 ≡ get_or l k 0 → j ≡ k)
      → ((j : ℕ) → j < e → get_or l j 0 ≡ a → ⊥) → e < n
  room_for e a b low apart none =
      let some : count_below n (among e) < count_below n (λ j. true) = count_more_than n (among e) (λ j. true) a b (λ j c h. refl) (among_false e a none) refl in
      omega (arith, different e low apart, some, count_le n (λ j. true))

-- ---- turns

module _ (g : Ground) (rests : List ℕ) where
  -- Before the first turn t alone is found.
  module _ (flags found rim : List ℕ) (flags_are : flags ≡ set (replicate max_vertices 0) g.t 1) (found_are : found ≡ set (replicate max_vertices 0) 0 g.t) where
    t_below : g.t < max_vertices
    t_below = omega (arith, g.inside, g.ends.few)

    none : (u : ℕ) → get_or {A = ℕ} (replicate max_vertices 0) u 0 ≡ 0
    none u =
        ⊎_elim
        (λ b. get_or-replicate max_vertices u 0 0 b)
        (λ b. get_or-eq_default (replicate max_vertices 0) 0 {n = u} (subst (λ k. k ≤ u) (sym (length-replicate {A = ℕ} max_vertices 0)) b))
        (lt_or_ge u max_vertices)

    at_t : get_or flags g.t 0 ≡ 1
    at_t = ap (λ (l : List ℕ). get_or l g.t 0) flags_are ∙ get_or-set_same (replicate max_vertices 0) g.t 1 0 (subst (λ k. g.t < k) (sym (length-replicate {A = ℕ} max_vertices 0)) t_below)

    at_other : (u : ℕ) → (u ≡ g.t → ⊥) → get_or flags u 0 ≡ 0
    at_other u e = ap (λ (l : List ℕ). get_or l u 0) flags_are ∙ get_or-set_other (replicate max_vertices 0) g.t u 1 0 e ∙ none u

    on_t : flagged flags g.t ≡ true
    on_t = flag_on flags g.t 1 (λ z. omega (arith, z)) at_t

    only_t : (u : ℕ) → flagged flags u ≡ true → u ≡ g.t
    only_t u h = by (ℕ_discrete u g.t)
      where
        by : Dec (u ≡ g.t) → u ≡ g.t
        by (yes e) = e
        by (no e) = true_not_false (flagged flags u) h (flag_off flags u (at_other u e))

    first : get_or found 0 0 ≡ g.t
    first = ap (λ (l : List ℕ). get_or l 0 0) found_are ∙ get_or-set_same (replicate max_vertices 0) 0 g.t 0 (subst (λ k. 0 < k) (sym (length-replicate {A = ℕ} max_vertices 0)) (omega (arith, t_below)))

    unlooked : (u : ℕ) → looked flags u ≡ true → ⊥
    unlooked u h =
        let two : get_or flags u 0 ≡ 2 = eqb-true (get_or flags u 0) 2 h in
        let same : u ≡ g.t = only_t u (looked_flagged flags u h) in
        omega (arith, two, ap (λ w. get_or flags w 0) same, at_t)

    one : 1 ≡ count_below max_vertices (flagged flags)
    unfolding count_below
    one = sym (sum_only max_vertices (λ i. counted (flagged flags i) 1) g.t t_below (λ i b e. counted_false (flag_off flags i (at_other i e)) 1) ∙ counted_true on_t 1)

    pub turn_start : Turn g rests 0 0 0 flags found rim 1 0
    turn_start = record {
      flags_long = ap length flags_are ∙ length-set {A = ℕ} (replicate max_vertices 0) g.t 1 ∙ length-replicate {A = ℕ} max_vertices 0;
      found_long = ap length found_are ∙ length-set {A = ℕ} (replicate max_vertices 0) 0 g.t ∙ length-replicate {A = ℕ} max_vertices 0;
      start = on_t;
      sound = λ u h. subst (LeadsIn g rests) (sym (only_t u h)) here;
      counted = one;
      queue = λ j b. let e : j ≡ 0 = omega (arith, b) in subst (λ k. flagged flags (get_or found k 0) ≡ true) (sym e) (subst (λ u. flagged flags u ≡ true) (sym first) on_t);
      queued = λ u h. record { place = 0; below = omega arith; is = first ∙ sym (only_t u h) };
      ahead = omega arith;
      passed = λ j b. absurd (omega (arith, b));
      turned = λ b. absurd (omega (arith, b));
      seen = λ a b h late. absurd (unlooked (head_in g a) h);
      rim_below = λ j b. absurd (omega (arith, b));
      rim_looked = λ j b. absurd (omega (arith, b));
      rim_late = λ j b e. absurd (omega (arith, b));
      distinct = λ j k b c e. absurd (omega (arith, b));
    }

  module _ {i v x : ℕ} {flags found rim : List ℕ} {vertices arcs : ℕ} (w : Turn g rests i v x flags found rim vertices arcs) where
    pub turn_few : vertices ≤ max_vertices
    turn_few = omega (arith, w.counted, count_le max_vertices (flagged flags))

    -- No arc that leads to v lies between.
    pub turn_skip : Turn g rests i v (last_into g.firsts g.seconds v x) flags found rim vertices arcs
    turn_skip = record {
      flags_long = w.flags_long;
      found_long = w.found_long;
      start = w.start;
      sound = w.sound;
      counted = w.counted;
      queue = w.queue;
      queued = w.queued;
      ahead = w.ahead;
      passed = w.passed;
      turned = λ b. w.turned (omega (arith, b, low));
      seen = λ a b h late. w.seen a b h (λ e. by a e (late e));
      rim_below = w.rim_below;
      rim_looked = w.rim_looked;
      rim_late = λ j b e. omega (arith, low, w.rim_late j b e);
      distinct = w.distinct;
    }
      where
        low : last_into g.firsts g.seconds v x ≤ x
        low = last_le g.firsts g.seconds v x

        by : (a : ℕ) → head_in g a ≡ v → last_into g.firsts g.seconds v x ≤ a → x ≤ a
        by a e h = ⊎_elim (λ c. absurd (last_none g.firsts g.seconds v x a h c e)) (λ c. c) (lt_or_ge a x)

  -- A turn at the next vertex that is found.
  module _ {i : ℕ} {flags found rim : List ℕ} {vertices arcs : ℕ} (w : Turn g rests i 0 0 flags found rim vertices arcs) (more : i < vertices) {u : ℕ} (next : u ≡ get_or found i 0) where
    on_u : flagged flags u ≡ true
    on_u = subst (λ y. flagged flags y ≡ true) (sym next) (w.queue i more)

    pub next_below : u < max_vertices
    next_below = subst (λ k. u < k) w.flags_long (flag_below flags u on_u)

    -- It is looked at already.
    pub turn_again : get_or flags u 0 ≡ 2 → Turn g rests (i + 1) 0 0 flags found rim vertices arcs
    turn_again at = record {
      flags_long = w.flags_long;
      found_long = w.found_long;
      start = w.start;
      sound = w.sound;
      counted = w.counted;
      queue = w.queue;
      queued = w.queued;
      ahead = omega arith;
      passed = λ j b. by j (below_suc j i (omega (arith, b)));
      turned = w.turned;
      seen = w.seen;
      rim_below = w.rim_below;
      rim_looked = w.rim_looked;
      rim_late = w.rim_late;
      distinct = w.distinct;
    }
      where
        by : (j : ℕ) → (j < i) ⊎ (j ≡ i) → looked flags (get_or found j 0) ≡ true
        by j (inl c) = w.passed j c
        by j (inr e) = eq-eqb (get_or flags (get_or found j 0) 0) 2 (ap (λ y. get_or flags y 0) (ap (λ k. get_or found k 0) e ∙ sym next) ∙ at)

    module _ (fresh : get_or flags u 0 ≡ 2 → ⊥) where
      u_low : u < length flags
      u_low = flag_below flags u on_u

      two : ◌≡◌ {A = ℕ} 2 0 → ⊥
      two z = omega (arith, z)

      same_flags : (y : ℕ) → flagged (set flags u 2) y ≡ true → flagged flags y ≡ true
      same_flags y h = by (ℕ_discrete y u)
        where
          by : Dec (y ≡ u) → flagged flags y ≡ true
          by (yes e) = subst (λ z. flagged flags z ≡ true) (sym e) on_u
          by (no e) = sym (flag_other flags u 2 u_low y e) ∙ h

      looked_stays : (y : ℕ) → looked flags y ≡ true → looked (set flags u 2) y ≡ true
      looked_stays y h = by (ℕ_discrete y u)
        where
          by : Dec (y ≡ u) → looked (set flags u 2) y ≡ true
          by (yes e) = subst (λ z. looked (set flags u 2) z ≡ true) (sym e) (eq-eqb (get_or (set flags u 2) u 0) 2 (get_or-set_same flags u 2 0 u_low))
          by (no e) = looked_other flags u 2 u_low y e ∙ h

      -- u itself was not looked at.
      not_yet : (y : ℕ) → looked flags y ≡ true → y ≡ u → ⊥
      not_yet y h e = fresh (sym (ap (λ z. get_or flags z 0) e) ∙ eqb-true (get_or flags y 0) 2 h)

      same_count : count_below max_vertices (flagged flags) ≡ count_below max_vertices (flagged (set flags u 2))
      unfolding count_below
      same_count =
          let at = sum_at max_vertices (λ y. counted (flagged flags y) 1) (λ y. counted (flagged (set flags u 2) y) 1) u (subst (λ k. u < k) w.flags_long u_low)
          (λ y b e. ap (λ t. counted t 1) (sym (flag_other flags u 2 u_low y e))) in
          omega (arith, at, counted_true on_u 1, counted_true (set_flagged flags u 2 u_low two) 1)

      pub turn_at : Turn g rests (i + 1) u (last_into g.firsts g.seconds u (arcs_in g)) (set flags u 2) found rim vertices arcs
      turn_at = record {
        flags_long = length-set flags u 2 ∙ w.flags_long;
        found_long = w.found_long;
        start = flag_stays flags u 2 u_low two g.t w.start;
        sound = λ y h. w.sound y (same_flags y h);
        counted = w.counted ∙ same_count;
        queue = λ j b. flag_stays flags u 2 u_low two (get_or found j 0) (w.queue j b);
        queued = λ y h. w.queued y (same_flags y h);
        ahead = omega arith;
        passed = λ j b. before j (below_suc j i (omega (arith, b)));
        turned = λ b. eq-eqb (get_or (set flags u 2) u 0) 2 (get_or-set_same flags u 2 0 u_low);
        seen = λ a b h late. by a b h late (ℕ_discrete (head_in g a) u);
        rim_below = w.rim_below;
        rim_looked = λ j b. looked_stays (head_in g (get_or rim j 0)) (w.rim_looked j b);
        rim_late = λ j b e. absurd (not_yet (head_in g (get_or rim j 0)) (w.rim_looked j b) e);
        distinct = w.distinct;
      }
        where
          before : (j : ℕ) → (j < i) ⊎ (j ≡ i) → looked (set flags u 2) (get_or found j 0) ≡ true
          before j (inl c) = looked_stays (get_or found j 0) (w.passed j c)
          before j (inr e) =
              subst (λ y. looked (set flags u 2) y ≡ true) (next ∙ ap (λ k. get_or found k 0) (sym e)) (eq-eqb (get_or (set flags u 2) u 0) 2 (get_or-set_same flags u 2 0 u_low))

          by : (a : ℕ) → a < arcs_in g → looked (set flags u 2) (head_in g a) ≡ true → (head_in g a ≡ u → last_into g.firsts g.seconds u (arcs_in g) ≤ a) → Dec (head_in g a ≡ u)
              → (flagged (set flags u 2) (tail_in g a) ≡ true) ⊎ ((get_or rests a 0 ≡ 0 → ⊥) × Among rim arcs a)
          by a b h late (yes e) = absurd (last_none g.firsts g.seconds u (arcs_in g) a (late e) b e)
          by a b h late (no e) =
              ⊎_elim (λ y. inl (flag_stays flags u 2 u_low two (tail_in g a) y)) (λ y. inr y)
              (w.seen a b (sym (looked_other flags u 2 u_low (head_in g a) e) ∙ h) (λ z. omega arith))

  -- One arc that leads to v.
  module _ {i v a : ℕ} {flags found rim : List ℕ} {vertices arcs : ℕ} (w : Turn g rests i v (suc a) flags found rim vertices arcs) (b : a < arcs_in g) (into : head_in g a ≡ v) where
    -- Arc c is a, or is looked at already.
    or_later : (c : ℕ) → (head_in g c ≡ v → a ≤ c) → (c ≡ a → ⊥) → head_in g c ≡ v → suc a ≤ c
    or_later c late e h = let d : a ≤ c = late h in ⊎_elim (λ y. absurd (e (omega (arith, d, y)))) (λ y. y) (lt_or_ge c (suc a))

    pub turn_inside : flagged flags (tail_in g a) ≡ true → Turn g rests i v a flags found rim vertices arcs
    turn_inside on = record {
      flags_long = w.flags_long;
      found_long = w.found_long;
      start = w.start;
      sound = w.sound;
      counted = w.counted;
      queue = w.queue;
      queued = w.queued;
      ahead = w.ahead;
      passed = w.passed;
      turned = λ c. w.turned (omega arith);
      seen = λ c low h late. by c low h late (ℕ_discrete c a);
      rim_below = w.rim_below;
      rim_looked = w.rim_looked;
      rim_late = λ j low e. omega (arith, w.rim_late j low e);
      distinct = w.distinct;
    }
      where
        by : (c : ℕ) → c < arcs_in g → looked flags (head_in g c) ≡ true → (head_in g c ≡ v → a ≤ c) → Dec (c ≡ a) → (flagged flags (tail_in g c) ≡ true) ⊎ ((get_or rests c 0 ≡ 0 → ⊥) × Among rim arcs c)
        by c low h late (yes e) = inl (subst (λ y. flagged flags (tail_in g y) ≡ true) (sym e) on)
        by c low h late (no e) = w.seen c low h (or_later c late e)

    module _ (off : flagged flags (tail_in g a) ≡ false) where
      tail : ℕ
      tail = tail_in g a

      tail_low : tail < length flags
      unfolding tail
      tail_low = omega (arith, g.ends.tails_below a b, g.ends.few, w.flags_long)

      some : ◌≡◌ {A = ℕ} 1 0 → ⊥
      some z = omega (arith, z)

      zero_flag : get_or flags tail 0 ≡ 0
      unfolding tail
      zero_flag = off_value flags (tail_in g a) off

      looked_same : (y : ℕ) → looked (set flags tail 1) y ≡ looked flags y
      looked_same y = by (ℕ_discrete y tail)
        where
          by : Dec (y ≡ tail) → looked (set flags tail 1) y ≡ looked flags y
          by (no e) = looked_other flags tail 1 tail_low y e
          by (yes e) = subst (λ z. looked (set flags tail 1) z ≡ looked flags z) (sym e) (ap (λ z. eqb z 2) (get_or-set_same flags tail 1 0 tail_low) ∙ sym (ap (λ z. eqb z 2) zero_flag))

      one_more_law : suc (count_below max_vertices (flagged flags)) ≡ count_below max_vertices (flagged (set flags tail 1))
      unfolding count_below tail
      one_more_law =
          let at = sum_at max_vertices (λ y. counted (flagged flags y) 1) (λ y. counted (flagged (set flags tail 1) y) 1) tail (subst (λ k. tail < k) w.flags_long tail_low)
          (λ y c e. ap (λ t. counted t 1) (sym (flag_other flags tail 1 tail_low y e))) in
          omega (arith, at, counted_false off 1, counted_true (set_flagged flags tail 1 tail_low some) 1)

      v_on : flagged flags (head_in g a) ≡ true
      v_on = subst (λ y. flagged flags y ≡ true) (sym into) (looked_flagged flags v (w.turned (omega arith)))

      -- It has no rest: its tail is found.
      pub turn_found : get_or rests a 0 ≡ 0 → Turn g rests i v a (set flags (tail_in g a) 1) (set found vertices (tail_in g a)) rim (suc vertices) arcs
      unfolding tail
      turn_found bare = record {
        flags_long = length-set flags tail 1 ∙ w.flags_long;
        found_long = length-set found vertices tail ∙ w.found_long;
        start = stays g.t w.start;
        sound = λ y h. led y h (ℕ_discrete y tail);
        counted = ap suc w.counted ∙ one_more_law;
        queue = λ j c. on_queue j (below_suc j vertices c);
        queued = λ y h. to_queue y h (ℕ_discrete y tail);
        ahead = omega (arith, w.ahead);
        passed = λ j c. let d : i ≤ vertices = w.ahead in looked_same (get_or (set found vertices tail) j 0) ∙ ap (looked flags) (kept j (omega (arith, c, d))) ∙ w.passed j c;
        turned = λ c. looked_same v ∙ w.turned (omega arith);
        seen = λ c low h late. by c low (sym (looked_same (head_in g c)) ∙ h) late (ℕ_discrete c a);
        rim_below = w.rim_below;
        rim_looked = λ j c. looked_same (head_in g (get_or rim j 0)) ∙ w.rim_looked j c;
        rim_late = λ j low e. omega (arith, w.rim_late j low e);
        distinct = w.distinct;
      }
        where
          full : suc vertices ≤ max_vertices
          full = omega (arith, ap suc w.counted, one_more_law, count_le max_vertices (flagged (set flags tail 1)))

          stays : (y : ℕ) → flagged flags y ≡ true → flagged (set flags tail 1) y ≡ true
          stays y h = flag_stays flags tail 1 tail_low some y h

          kept : (j : ℕ) → j < vertices → get_or (set found vertices tail) j 0 ≡ get_or found j 0
          kept j c = get_or-set_other found vertices j tail 0 (λ e. omega (arith, e, c))

          last : get_or (set found vertices tail) vertices 0 ≡ tail
          last = get_or-set_same found vertices tail 0 (omega (arith, full, w.found_long))

          led : (y : ℕ) → flagged (set flags tail 1) y ≡ true → Dec (y ≡ tail) → LeadsIn g rests y
          led y h (yes e) = along a b bare (sym e) (w.sound (head_in g a) v_on)
          led y h (no e) = w.sound y (sym (flag_other flags tail 1 tail_low y e) ∙ h)

          on_queue : (j : ℕ) → (j < vertices) ⊎ (j ≡ vertices) → flagged (set flags tail 1) (get_or (set found vertices tail) j 0) ≡ true
          on_queue j (inl c) = subst (λ y. flagged (set flags tail 1) y ≡ true) (sym (kept j c)) (stays (get_or found j 0) (w.queue j c))
          on_queue j (inr e) =
              subst (λ k. flagged (set flags tail 1) (get_or (set found vertices tail) k 0) ≡ true) (sym e)
              (subst (λ y. flagged (set flags tail 1) y ≡ true) (sym last) (set_flagged flags tail 1 tail_low some))

          to_queue : (y : ℕ) → flagged (set flags tail 1) y ≡ true → Dec (y ≡ tail) → Among (set found vertices tail) (suc vertices) y
          to_queue y h (yes e) = record { place = vertices; below = omega arith; is = last ∙ sym e }
          to_queue y h (no e) =
              let p = w.queued y (sym (flag_other flags tail 1 tail_low y e) ∙ h) in
              let c : p.place < vertices = p.below in
              record { place = p.place; below = omega arith; is = kept p.place c ∙ p.is }

          by : (c : ℕ) → c < arcs_in g → looked flags (head_in g c) ≡ true → (head_in g c ≡ v → a ≤ c) → Dec (c ≡ a)
              → (flagged (set flags tail 1) (tail_in g c) ≡ true) ⊎ ((get_or rests c 0 ≡ 0 → ⊥) × Among rim arcs c)
          by c low h late (yes e) = inl (subst (λ y. flagged (set flags tail 1) (tail_in g y) ≡ true) (sym e) (set_flagged flags tail 1 tail_low some))
          by c low h late (no e) = ⊎_elim (λ y. inl (stays (tail_in g c) y)) (λ y. inr y) (w.seen c low h (or_later c late e))

      -- a is not at the rim yet.
      fresh : (j : ℕ) → j < arcs → get_or rim j 0 ≡ a → ⊥
      fresh j c e = omega (arith, e, w.rim_late j c (ap (head_in g) e ∙ into))

      pub rim_room : arcs < arcs_in g
      rim_room = room_for rim (arcs_in g) arcs a b w.rim_below w.distinct fresh

      -- It has a rest: it is at the rim.
      pub turn_rim : length rim ≡ max_arcs → (get_or rests a 0 ≡ 0 → ⊥) → Turn g rests i v a flags found (set rim arcs a) vertices (suc arcs)
      turn_rim long rest = record {
        flags_long = w.flags_long;
        found_long = w.found_long;
        start = w.start;
        sound = w.sound;
        counted = w.counted;
        queue = w.queue;
        queued = w.queued;
        ahead = w.ahead;
        passed = w.passed;
        turned = λ c. w.turned (omega arith);
        seen = λ c low h late. by c low h late (ℕ_discrete c a);
        rim_below = λ j c. at_rim j (λ y. y < arcs_in g) b w.rim_below (below_suc j arcs c);
        rim_looked = λ j c. at_rim j (λ y. looked flags (head_in g y) ≡ true) (subst (λ y. looked flags y ≡ true) (sym into) (w.turned (omega arith))) w.rim_looked (below_suc j arcs c);
        rim_late = λ j c. at_rim j (λ y. head_in g y ≡ v → a ≤ y) (λ e. omega arith) (λ k d e. omega (arith, w.rim_late k d e)) (below_suc j arcs c);
        distinct = λ j k c d e. apart j k e (below_suc j arcs c) (below_suc k arcs d);
      }
        where
          kept : (j : ℕ) → j < arcs → get_or (set rim arcs a) j 0 ≡ get_or rim j 0
          kept j c = get_or-set_other rim arcs j a 0 (λ e. omega (arith, e, c))

          last : get_or (set rim arcs a) arcs 0 ≡ a
          last = let s = g.ends.short in get_or-set_same rim arcs a 0 (omega (arith, rim_room, long, s))

          at_rim : (j : ℕ) (P : ℕ → Type 0) → P a → ((k : ℕ) → k < arcs → P (get_or rim k 0)) → (j < arcs) ⊎ (j ≡ arcs) → P (get_or (set rim arcs a) j 0)
          at_rim j P new old (inl c) = subst P (sym (kept j c)) (old j c)
          at_rim j P new old (inr e) = subst (λ k. P (get_or (set rim arcs a) k 0)) (sym e) (subst P (sym last) new)

          apart : (j k : ℕ) → get_or (set rim arcs a) j 0 ≡ get_or (set rim arcs a) k 0 → (j < arcs) ⊎ (j ≡ arcs) → (k < arcs) ⊎ (k ≡ arcs) → j ≡ k
          apart j k e (inl c) (inl d) = w.distinct j k c d (sym (kept j c) ∙ e ∙ kept k d)
          apart j k e (inl c) (inr d) = absurd (fresh j c (sym (kept j c) ∙ e ∙ ap (λ m. get_or (set rim arcs a) m 0) d ∙ last))
          apart j k e (inr c) (inl d) = absurd (fresh k d (sym (kept k d) ∙ sym e ∙ ap (λ m. get_or (set rim arcs a) m 0) c ∙ last))
          apart j k e (inr c) (inr d) = c ∙ sym d

          by : (c : ℕ) → c < arcs_in g → looked flags (head_in g c) ≡ true → (head_in g c ≡ v → a ≤ c) → Dec (c ≡ a)
              → (flagged flags (tail_in g c) ≡ true) ⊎ ((get_or rests c 0 ≡ 0 → ⊥) × Among (set rim arcs a) (suc arcs) c)
          by c low h late (yes e) = inr (subst (λ y. (get_or rests y 0 ≡ 0 → ⊥)) (sym e) rest, record { place = arcs; below = omega arith; is = last ∙ sym e })
          by c low h late (no e) = ⊎_elim (λ y. inl y) (λ y. inr (y.0, more y.1)) (w.seen c low h (or_later c late e))
            where
              more : Among rim arcs c → Among (set rim arcs a) (suc arcs) c
              more p = let d : p.place < arcs = p.below in record { place = p.place; below = omega arith; is = kept p.place d ∙ p.is }

  -- No arc that leads to v is left.
  pub turn_over : {i v : ℕ} {flags found rim : List ℕ} {vertices arcs : ℕ} → Turn g rests i v 0 flags found rim vertices arcs → Turn g rests i 0 0 flags found rim vertices arcs
  turn_over w = record {
    flags_long = w.flags_long;
    found_long = w.found_long;
    start = w.start;
    sound = w.sound;
    counted = w.counted;
    queue = w.queue;
    queued = w.queued;
    ahead = w.ahead;
    passed = w.passed;
    turned = λ b. absurd (omega (arith, b));
    seen = λ a b h late. w.seen a b h (λ e. omega arith);
    rim_below = w.rim_below;
    rim_looked = w.rim_looked;
    rim_late = λ j b e. omega arith;
    distinct = w.distinct;
  }

  -- ---- the end

  module _ {i : ℕ} {flags found rim : List ℕ} {vertices arcs : ℕ} (w : Turn g rests i 0 0 flags found rim vertices arcs) (all : vertices ≤ i) where
    at_all : (u : ℕ) → flagged flags u ≡ true → looked flags u ≡ true
    at_all u h = let p = w.queued u h in subst (λ y. looked flags y ≡ true) p.is (w.passed p.place (omega (arith, p.below, all)))

    at_arc : (a : ℕ) → a < arcs_in g → flagged flags (head_in g a) ≡ true → (flagged flags (tail_in g a) ≡ true) ⊎ ((get_or rests a 0 ≡ 0 → ⊥) × Among rim arcs a)
    at_arc a b h = w.seen a b (at_all (head_in g a) h) (λ e. omega arith)

    reached : {u : ℕ} → LeadsIn g rests u → flagged flags u ≡ true
    reached here = w.start
    reached (along a b bare same rest) =
        subst (λ y. flagged flags y ≡ true) same (⊎_elim (λ h. h) (λ h. absurd (h.0 bare)) (at_arc a b (reached rest)))

    pub turn_end : Cut g rests flags rim arcs
    turn_end = record {
      inside = λ u. (λ h. w.sound u h, λ h. reached h);
      entering = λ a b h off. ⊎_elim (λ on. true_not_false (flagged flags (tail_in g a)) on off) (λ p. p.1) (at_arc a b h);
      rim_below = w.rim_below;
      rim_heads = λ j b. looked_flagged flags (head_in g (get_or rim j 0)) (w.rim_looked j b);
      distinct = w.distinct;
    }

-- ---- links

module _ (g : Ground) (a : ℕ) (low : a < arcs_in g) {link : ℕ} (link_is : link ≡ link_of g.firsts g.seconds a) where
  tail_room : tail_in g a < 512
  tail_room = omega (arith, g.ends.tails_below a low, g.ends.few)

  pub link_tail : link % 512 ≡ tail_in g a
  unfolding link_of
  link_tail = omega (arith, link_is, tail_room)

  pub link_before : link / 512 ≡ last_into g.firsts g.seconds (head_in g a) a
  unfolding link_of
  link_before = omega (arith, link_is, tail_room)

module _ (g : Ground) (rests links : List ℕ) (linked : LinkedIn g links) where
  module _ (x v : ℕ) (to : LeadsTo g v x) (some : 0 < x) where
    this : x ≡ suc (x - 1)
    this = omega arith

    pub arc_low : x - 1 < arcs_in g
    arc_low = (to (x - 1) this).0

    pub arc_head : head_in g (x - 1) ≡ v
    arc_head = (to (x - 1) this).1

    module _ {link : ℕ} (link_is : link ≡ get_or links (x - 1) 0) where
      is : link ≡ link_of g.firsts g.seconds (x - 1)
      is = link_is ∙ linked (x - 1) arc_low

      pub arc_tail : link % 512 ≡ tail_in g (x - 1)
      arc_tail = link_tail g (x - 1) arc_low is

      before_is : link / 512 ≡ last_into g.firsts g.seconds v (x - 1)
      before_is = link_before g (x - 1) arc_low is ∙ ap (λ u. last_into g.firsts g.seconds u (x - 1)) arc_head

      pub before_leads : LeadsTo g v (link / 512)
      before_leads a e = let h = last_head g.firsts g.seconds v (x - 1) a (sym before_is ∙ e) in let b : a < x - 1 = h.0 in (omega (arith, b, arc_low), h.1)

      pub turn_before : {i : ℕ} {flags found rim : List ℕ} {vertices arcs : ℕ} → Turn g rests i v (x - 1) flags found rim vertices arcs → Turn g rests i v (link / 512) flags found rim vertices arcs
      turn_before {i} {flags} {found} {rim} {vertices} {arcs} w = subst (λ y. Turn g rests i v y flags found rim vertices arcs) (sym before_is) (turn_skip g rests w)

-- The last arc that leads to v.
module _ (g : Ground) (tops links : List ℕ) (chained : ChainedIn g tops links) (v : ℕ) (low : v < max_vertices) {last : ℕ} (last_is : last ≡ get_or tops v 0) where
  top_is : last ≡ last_into g.firsts g.seconds v (arcs_in g)
  top_is = last_is ∙ chained.tops_are v low

  pub top_room : last ≤ max_arcs
  top_room = omega (arith, top_is, last_le g.firsts g.seconds v (arcs_in g), g.ends.short)

  pub top_leads : LeadsTo g v last
  top_leads a e = last_head g.firsts g.seconds v (arcs_in g) a (sym top_is ∙ e)

  pub links_fall : (a : ℕ) → a < last → get_or links a 0 / 512 ≤ a
  links_fall a b =
      let c : a < arcs_in g = omega (arith, b, top_is, last_le g.firsts g.seconds v (arcs_in g)) in
      omega (arith, link_before g a c (chained.links_are a c), last_le g.firsts g.seconds (head_in g a) a)

  pub turn_top : (rests : List ℕ) {i : ℕ} {flags found rim : List ℕ} {vertices arcs : ℕ} → Turn g rests i v (last_into g.firsts g.seconds v (arcs_in g)) flags found rim vertices arcs
      → Turn g rests i v last flags found rim vertices arcs
  turn_top rests {i} {flags} {found} {rim} {vertices} {arcs} w = subst (λ y. Turn g rests i v y flags found rim vertices arcs) (sym top_is) w

-- ---- what the code finds of an arc

module _ (rests flags found rim : List ℕ) (a tail vertices arcs : ℕ) {t y : ℕ} (t_is : t ≡ tail) (y_is : y ≡ get_or flags t 0) where
  at_tail : (g : Ground) → tail ≡ tail_in g a → get_or flags (tail_in g a) 0 ≡ y
  at_tail g tail_is = sym (y_is ∙ ap (λ u. get_or flags u 0) (t_is ∙ tail_is))

  pub look_inside : (y ≡ 0 → ⊥) → (g : Ground) (i v : ℕ) → a < arcs_in g → head_in g a ≡ v → tail ≡ tail_in g a
      → Turn g rests i v (suc a) flags found rim vertices arcs → Turn g rests i v a flags found rim vertices arcs
  look_inside some g i v b into tail_is w = turn_inside g rests w b into (flag_on flags (tail_in g a) y some (at_tail g tail_is))

  module _ (none : y ≡ 0) {b z : ℕ} (b_is : b ≡ a) (z_is : z ≡ get_or rests b 0) where
    off : (g : Ground) → tail ≡ tail_in g a → flagged flags (tail_in g a) ≡ false
    off g tail_is = flag_off flags (tail_in g a) (at_tail g tail_is ∙ none)

    pub look_rim : length rim ≡ max_arcs → (z ≡ 0 → ⊥) → {after : List ℕ} → after ≡ set rim arcs a → (g : Ground) (i v : ℕ) → a < arcs_in g → head_in g a ≡ v → tail ≡ tail_in g a
        → Turn g rests i v (suc a) flags found rim vertices arcs → Turn g rests i v a flags found after vertices (arcs + 1)
    look_rim long some {after} after_is g i v low into tail_is w =
        let n : suc arcs ≡ arcs + 1 = omega arith in
        subst (λ (l : List ℕ). Turn g rests i v a flags found l vertices (arcs + 1)) (sym after_is)
        (subst (λ e. Turn g rests i v a flags found (set rim arcs a) vertices e) n (turn_rim g rests w low into (off g tail_is) long (λ e. some (z_is ∙ ap (λ c. get_or rests c 0) b_is ∙ e))))

    pub look_found : z ≡ 0 → {u : ℕ} {flags_after found_after : List ℕ} → u ≡ tail → flags_after ≡ set flags u 1 → found_after ≡ set found vertices tail
        → (g : Ground) (i v : ℕ) → a < arcs_in g → head_in g a ≡ v → tail ≡ tail_in g a
        → Turn g rests i v (suc a) flags found rim vertices arcs → Turn g rests i v a flags_after found_after rim (vertices + 1) arcs
    look_found bare {u} {flags_after} {found_after} u_is flags_is found_is g i v low into tail_is w =
        let n : suc vertices ≡ vertices + 1 = omega arith in
        let there : set flags (tail_in g a) 1 ≡ flags_after = ap (λ k. set flags k 1) (sym (u_is ∙ tail_is)) ∙ sym flags_is in
        let here : set found vertices (tail_in g a) ≡ found_after = ap (set found vertices) (sym tail_is) ∙ sym found_is in
        subst (λ (l : List ℕ). Turn g rests i v a l found_after rim (vertices + 1) arcs) there
        (subst (λ (l : List ℕ). Turn g rests i v a (set flags (tail_in g a) 1) l rim (vertices + 1) arcs) here
        (subst (λ e. Turn g rests i v a (set flags (tail_in g a) 1) (set found vertices (tail_in g a)) rim e arcs) n
        (turn_found g rests w low into (off g tail_is) (sym (z_is ∙ ap (λ c. get_or rests c 0) b_is) ∙ bare))))

pub falls : (links : List ℕ) (last : ℕ) → ((a : ℕ) → a < last → get_or links a 0 / 512 ≤ a) → {x b link : ℕ} → 0 < x → x ≤ last → b ≡ x - 1 → link ≡ get_or links b 0 → link / 512 < x
falls links last h {x} {b} {link} some low b_is link_is =
    let q : get_or links (x - 1) 0 / 512 ≤ x - 1 = h (x - 1) (omega arith) in
    let e : link ≡ get_or links (x - 1) 0 = link_is ∙ ap (λ k. get_or links k 0) b_is in
    omega (arith, subst (λ y. y / 512 ≤ x - 1) (sym e) q, some)

-- From the arc before `last` down to the one before x: what held before the first holds before the next.
pub TurnsFrom : (links rests : List ℕ) (last : ℕ) (flags₀ found₀ rim₀ : List ℕ) (vertices₀ arcs₀ x : ℕ) (flags found rim : List ℕ) (vertices arcs : ℕ) → Type 0
TurnsFrom links rests last flags₀ found₀ rim₀ vertices₀ arcs₀ x flags found rim vertices arcs =
    (g : Ground) (i v : ℕ) → LinkedIn g links → LeadsTo g v last → Turn g rests i v last flags₀ found₀ rim₀ vertices₀ arcs₀
    → LeadsTo g v x × Turn g rests i v x flags found rim vertices arcs

module _ (links rests : List ℕ) (last : ℕ) (flags₀ found₀ rim₀ : List ℕ) (vertices₀ arcs₀ : ℕ) where
  pub turns_start : TurnsFrom links rests last flags₀ found₀ rim₀ vertices₀ arcs₀ last flags₀ found₀ rim₀ vertices₀ arcs₀
  unfolding TurnsFrom
  turns_start g i v linked to w = (to, w)

  module _ {x : ℕ} {flags found rim : List ℕ} {vertices arcs : ℕ} (h : TurnsFrom links rests last flags₀ found₀ rim₀ vertices₀ arcs₀ x flags found rim vertices arcs) where
    pub turns_more : 0 < x → {b link : ℕ} → b ≡ x - 1 → link ≡ get_or links b 0 → {flags_after found_after rim_after : List ℕ} {vertices_after arcs_after : ℕ}
        → ((g : Ground) (i v : ℕ) → x - 1 < arcs_in g → head_in g (x - 1) ≡ v → link % 512 ≡ tail_in g (x - 1) → Turn g rests i v (suc (x - 1)) flags found rim vertices arcs
        → Turn g rests i v (x - 1) flags_after found_after rim_after vertices_after arcs_after)
        → TurnsFrom links rests last flags₀ found₀ rim₀ vertices₀ arcs₀ (link / 512) flags_after found_after rim_after vertices_after arcs_after
    unfolding TurnsFrom
    turns_more some {b} {link} b_is link_is step g i v linked to w =
        let held = h g i v linked to w in
        let is : link ≡ get_or links (x - 1) 0 = link_is ∙ ap (λ k. get_or links k 0) b_is in
        let this : x ≡ suc (x - 1) = omega arith in (
          before_leads g rests links linked x v held.0 some is,
          turn_before g rests links linked x v held.0 some is
              (step g i v (arc_low g rests links linked x v held.0 some) (arc_head g rests links linked x v held.0 some) (arc_tail g rests links linked x v held.0 some is)
              (subst (λ y. Turn g rests i v y flags found rim vertices arcs) this held.1)),
        )

    pub turns_end : x ≤ 0 → (g : Ground) (i v : ℕ) → LinkedIn g links → LeadsTo g v last → Turn g rests i v last flags₀ found₀ rim₀ vertices₀ arcs₀
        → Turn g rests i v 0 flags found rim vertices arcs
    unfolding TurnsFrom
    turns_end none g i v linked to w = let e : x ≡ 0 = omega arith in subst (λ y. Turn g rests i v y flags found rim vertices arcs) e (h g i v linked to w).1

-- ---- the next vertex of the queue

pub turn_arcs : (g : Ground) (rests : List ℕ) {i v x : ℕ} {flags found rim : List ℕ} {vertices arcs : ℕ} → Turn g rests i v x flags found rim vertices arcs → arcs ≤ max_arcs
turn_arcs g rests {i} {v} {x} {flags} {found} {rim} {vertices} {arcs} w =
    omega (arith, different rim (arcs_in g) arcs w.rim_below w.distinct, count_le (arcs_in g) (among rim (arcs_in g) arcs), g.ends.short)

pub cut_arcs : (g : Ground) {rests flags rim : List ℕ} {arcs : ℕ} → Cut g rests flags rim arcs → arcs ≤ max_arcs
cut_arcs g {rests} {flags} {rim} {arcs} k = omega (arith, different rim (arcs_in g) arcs k.rim_below k.distinct, count_le (arcs_in g) (among rim (arcs_in g) arcs), g.ends.short)

module _ (tops links rests flags found rim : List ℕ) (v vertices arcs : ℕ) where
  pub next_ready : Next tops links rests flags found rim v vertices arcs → {last : ℕ} → last ≡ get_or tops v 0
      → ((vertices ≤ max_vertices) × (arcs ≤ max_arcs) × (last ≤ max_arcs)) × ((a : ℕ) → a < last → get_or links a 0 / 512 ≤ a)
  next_ready n last_is =
      let low : v < max_vertices = next_below n.graph rests n.turn n.more n.is in (
        (turn_few n.graph rests n.turn, turn_arcs n.graph rests n.turn, top_room n.graph tops links n.chained v low last_is),
        links_fall n.graph tops links n.chained v low last_is,
      )

  pub look_again : {x : ℕ} → x ≡ get_or flags v 0 → x ≡ 2 → (g : Ground) (i : ℕ) → ChainedIn g tops links → i < vertices → v ≡ get_or found i 0
      → Turn g rests i 0 0 flags found rim vertices arcs → Turn g rests (i + 1) 0 0 flags found rim vertices arcs
  look_again x_is two g i chained more next w = turn_again g rests w more next (sym x_is ∙ two)

  pub look_next : {x last : ℕ} {marked flags_after found_after rim_after : List ℕ} {vertices_after arcs_after : ℕ} → x ≡ get_or flags v 0 → (x ≡ 2 → ⊥) → marked ≡ set flags v 2 → last ≡ get_or tops v 0
      → ((g : Ground) (i u : ℕ) → LinkedIn g links → LeadsTo g u last → Turn g rests i u last marked found rim vertices arcs → Turn g rests i u 0 flags_after found_after rim_after vertices_after arcs_after)
      → (g : Ground) (i : ℕ) → ChainedIn g tops links → i < vertices → v ≡ get_or found i 0 → Turn g rests i 0 0 flags found rim vertices arcs
      → Turn g rests (i + 1) 0 0 flags_after found_after rim_after vertices_after arcs_after
  look_next {x} {last} {marked} x_is fresh marked_is last_is step g i chained more next w =
      let low : v < max_vertices = next_below g rests w more next in
      let at = turn_at g rests w more next (λ e. fresh (x_is ∙ e)) in
      turn_over g rests
      (step g (i + 1) v chained.links_are (top_leads g tops links chained v low last_is)
      (subst (λ (l : List ℕ). Turn g rests (i + 1) v last l found rim vertices arcs) (sym marked_is) (turn_top g tops links chained v low last_is rests at)))

-- ---- a whole walk

module _ (tops links rests flags₀ found₀ rim₀ : List ℕ) where
  -- What held at the beginning holds for the first i vertices of the queue.
  abbrev pub Walks : (i : ℕ) (flags found rim : List ℕ) (vertices arcs : ℕ) → Type 0
  Walks i flags found rim vertices arcs = (g : Ground) → ChainedIn g tops links → Turn g rests 0 0 0 flags₀ found₀ rim₀ 1 0 → Turn g rests i 0 0 flags found rim vertices arcs

  pub walks_start : Walks 0 flags₀ found₀ rim₀ 1 0
  walks_start g chained w = w

  module _ {i : ℕ} {flags found rim : List ℕ} {vertices arcs : ℕ} (h : Walks i flags found rim vertices arcs) where
    pub walks_next : Begun tops links rests flags₀ found₀ rim₀ → i < vertices → {x v : ℕ} → x ≡ get_or found i 0 → v ≡ x → Next tops links rests flags found rim v vertices arcs
    walks_next b more x_is v_is = record { graph = b.graph; i = i; chained = b.chained; more = more; is = v_is ∙ x_is; turn = h b.graph b.chained b.turn }

    pub walks_few : Begun tops links rests flags₀ found₀ rim₀ → vertices ≤ max_vertices
    walks_few b = turn_few b.graph rests (h b.graph b.chained b.turn)

    pub walks_more : i < vertices → {x v : ℕ} → x ≡ get_or found i 0 → v ≡ x → {flags_after found_after rim_after : List ℕ} {vertices_after arcs_after : ℕ}
        → ((g : Ground) (j : ℕ) → ChainedIn g tops links → j < vertices → v ≡ get_or found j 0 → Turn g rests j 0 0 flags found rim vertices arcs
        → Turn g rests (j + 1) 0 0 flags_after found_after rim_after vertices_after arcs_after)
        → Walks (i + 1) flags_after found_after rim_after vertices_after arcs_after
    walks_more more x_is v_is step g chained w = step g i chained more (v_is ∙ x_is) (h g chained w)

    pub walked_inside : (root : ℕ) {x : ℕ} → x ≡ get_or flags root 0 → (x ≡ 0 → ⊥) → (g : Ground) → ChainedIn g tops links → Turn g rests 0 0 0 flags₀ found₀ rim₀ 1 0 → CutFound g rests flags rim root None
    walked_inside root x_is some g chained w = record {
      led = λ e. (h g chained w).sound root (flag_on flags root _ some (sym x_is));
      cut = λ n e. cc;
      outside = λ n e. cc;
    }

    pub walked_outside : vertices ≤ i → (root : ℕ) {x : ℕ} → x ≡ get_or flags root 0 → x ≡ 0 → (g : Ground) → ChainedIn g tops links → Turn g rests 0 0 0 flags₀ found₀ rim₀ 1 0
        → CutFound g rests flags rim root (Some arcs)
    walked_outside all root x_is none g chained w = record {
      led = λ e. cc;
      cut = λ n e. let same : arcs ≡ n = cc in subst (λ k. Cut g rests flags rim k) same (turn_end g rests (h g chained w) all);
      outside = λ n e. flag_off flags root (sym x_is ∙ none);
    }
