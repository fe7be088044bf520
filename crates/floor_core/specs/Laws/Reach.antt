-- The cut round a vertex is what it is meant to be: flagged are exactly the vertices from which arcs without rest lead to it. So many sweeps as there are vertices
-- suffice, since a sweep that changes something leaves a flag more.
use Prim.Native.Nat.{ℕ, zero, suc, ◌≤◌, ◌<◌}
use native.Mathlib.Omega.{arith}
use Rattle.std.proofs.Math.Decide.{ℕ_discrete}
use Rattle.std.specs.Prelude.{◌≡◌, ◌⊎◌, ◌↔◌, Bool, false, ◌&&◌, not, cond, length, replicate, eqb}
use Rattle.std.proofs.Math.Path.{refl, subst}
use Rattle.std.proofs.Common.{ap, sym, ◌∙◌, length-set, get_or-set_same, get_or-set_other}
use Rattle.std.proofs.Math.Logic.{inl, inr, ⊎_elim}
use Rattle.std.proofs.Math.Bool.{true}
use mathlib.Core.List.{List}
use Rattle.std.proofs.Math.ListN.{get_or, set, get_or-replicate, get_or-eq_default}
use Rattle.std.proofs.lemmas.List.{length-replicate}
use borrow.Author.Tests.{eqb-true, eq-eqb, not-true}
use Rattle.base_finite.specs.Below.{count_below}
use Rattle.base_finite.specs.Laws.Test.{either, and_left, and_right, and_both, not_of_false, true_not_false}
use Rattle.base_finite.specs.Laws.Below.{lt_or_ge, count_le}
use Rattle.base_limits.specs.Limits.{max_vertices}
use Rattle.theory_directed.specs.Directed.{enters}
use Rattle.floor_rule.specs.Ascent.{arc_count, tail_of, head_of, flagged, enters_at, flag_at, sweep, sweeps, reaching}
use Rattle.floor_rule.proofs.Laws.Cut.{reaching_self}
use Rattle.floor_core.specs.Laws.Arcs.{length_sweep, length_sweeps}
use Rattle.floor_core.specs.Laws.End.{count_more_than}

module _ (firsts seconds rests : List ℕ) where
  -- Arcs without rest lead from v to t.
  pub data Leads (t : ℕ) : ℕ → Type 0 where
    here : Leads t t
    along : {v : ℕ} (a : ℕ) → a < arc_count firsts → get_or rests a 0 ≡ 0 → tail_of firsts seconds a ≡ v → Leads t (head_of firsts seconds a) → Leads t v

  -- The test of `flag_at`.
  abbrev flags_more : ℕ → List ℕ → Bool
  flags_more a flags = eqb (get_or rests a 0) 0 && enters_at firsts seconds flags a

  tail_unflagged : (a : ℕ) (flags : List ℕ) → flags_more a flags ≡ true → flagged flags (tail_of firsts seconds a) ≡ false
  unfolding enters_at enters
  tail_unflagged a flags h =
      let e : enters_at firsts seconds flags a ≡ true = and_right (eqb (get_or rests a 0) 0) (enters_at firsts seconds flags a) h in
      not-true (flagged flags (tail_of firsts seconds a)) (and_left (not (flagged flags (tail_of firsts seconds a))) (flagged flags (head_of firsts seconds a)) e)

  head_flagged : (a : ℕ) (flags : List ℕ) → flags_more a flags ≡ true → flagged flags (head_of firsts seconds a) ≡ true
  unfolding enters_at enters
  head_flagged a flags h =
      let e : enters_at firsts seconds flags a ≡ true = and_right (eqb (get_or rests a 0) 0) (enters_at firsts seconds flags a) h in
      and_right (not (flagged flags (tail_of firsts seconds a))) (flagged flags (head_of firsts seconds a)) e

  -- ---- whatever is flagged leads there

  module _ (t : ℕ) where
    Sound : List ℕ → Type 0
    Sound flags = (v : ℕ) → flagged flags v ≡ true → Leads t v

    flag_sound : (a : ℕ) (flags : List ℕ) → a < arc_count firsts → Sound flags → Sound (flag_at firsts seconds rests a flags)
    unfolding flag_at Sound
    flag_sound a flags b h = by (either (flags_more a flags))
      where
        tail : ℕ
        tail = tail_of firsts seconds a

        one_more_law : flags_more a flags ≡ true → (v : ℕ) → flagged (set flags tail 1) v ≡ true → Dec (v ≡ tail) → Leads t v
        one_more_law c v x (no other) = h v (ap (λ y. not (eqb y 0)) (sym (get_or-set_other flags tail v 1 0 other)) ∙ x)
        one_more_law c v x (yes same) =
            along a b (eqb-true (get_or rests a 0) 0 (and_left (eqb (get_or rests a 0) 0) (enters_at firsts seconds flags a) c)) (sym same) (h (head_of firsts seconds a) (head_flagged a flags c))

        by : (flags_more a flags ≡ true) ⊎ (flags_more a flags ≡ false) → (v : ℕ) → flagged (cond (flags_more a flags) (set flags tail 1) flags) v ≡ true → Leads t v
        by (inl c) v x = one_more_law c v (rw c at x) (ℕ_discrete v tail)
        by (inr c) v x = h v (rw c at x)

    sweep_sound : (n : ℕ) (flags : List ℕ) → n ≤ arc_count firsts → Sound flags → Sound (sweep firsts seconds rests n flags)
    unfolding sweep
    sweep_sound zero flags b h = h
    sweep_sound (suc a) flags b h = flag_sound a (sweep firsts seconds rests a flags) (omega arith) (sweep_sound a flags (omega arith) h)

    sweeps_sound : (n : ℕ) (flags : List ℕ) → Sound flags → Sound (sweeps firsts seconds rests n flags)
    unfolding sweeps
    sweeps_sound zero flags h = h
    sweeps_sound (suc i) flags h = sweep_sound (arc_count firsts) (sweeps firsts seconds rests i flags) (omega arith) (sweeps_sound i flags h)

    start_sound : Sound (set (replicate max_vertices 0) t 1)
    unfolding Sound
    start_sound v h = by (ℕ_discrete v t)
      where
        none : get_or {A = ℕ} (replicate max_vertices 0) v 0 ≡ 0
        none =
            ⊎_elim
            (λ b. get_or-replicate max_vertices v 0 0 b)
            (λ b. get_or-eq_default (replicate max_vertices 0) 0 {n = v} (subst (λ n. n ≤ v) (sym (length-replicate {A = ℕ} max_vertices 0)) b))
            (lt_or_ge v max_vertices)

        by : Dec (v ≡ t) → Leads t v
        by (yes same) = subst (Leads t) (sym same) here
        by (no other) =
            let off : flagged (set (replicate max_vertices 0) t 1) v ≡ false = ap (λ y. not (eqb y 0)) (get_or-set_other (replicate max_vertices 0) t v 1 0 other ∙ none) in
            true_not_false (flagged (set (replicate max_vertices 0) t 1) v) h off

  -- ---- whatever leads there is flagged

  module _ (n : ℕ) (few : n ≤ max_vertices) (tails_below : (a : ℕ) → a < arc_count firsts → tail_of firsts seconds a < n) where
    count : List ℕ → ℕ
    count flags = count_below n (flagged flags)

    flag_moves : (a : ℕ) (flags : List ℕ) → a < arc_count firsts → max_vertices ≤ length flags
        → (flag_at firsts seconds rests a flags ≡ flags) ⊎ (count flags < count (flag_at firsts seconds rests a flags))
    unfolding flag_at count
    flag_moves a flags b long = by (either (flags_more a flags))
      where
        tail : ℕ
        tail = tail_of firsts seconds a

        low : tail < n
        low = tails_below a b

        on : flagged (set flags tail 1) tail ≡ true
        on = ap (λ y. not (eqb y 0)) (get_or-set_same flags tail 1 0 (omega (arith, low, few, long)))

        stays : (v : ℕ) → v < n → flagged flags v ≡ true → flagged (set flags tail 1) v ≡ true
        stays v c h = ⊎-by (ℕ_discrete v tail)
          where
            ⊎-by : Dec (v ≡ tail) → flagged (set flags tail 1) v ≡ true
            ⊎-by (yes same) = subst (λ u. flagged (set flags tail 1) u ≡ true) (sym same) on
            ⊎-by (no other) = ap (λ y. not (eqb y 0)) (get_or-set_other flags tail v 1 0 other) ∙ h

        by : (flags_more a flags ≡ true) ⊎ (flags_more a flags ≡ false)
            → (cond (flags_more a flags) (set flags tail 1) flags ≡ flags) ⊎ (count_below n (flagged flags) < count_below n (flagged (cond (flags_more a flags) (set flags tail 1) flags)))
        by (inl c) = rw c (inr (count_more_than n (flagged flags) (flagged (set flags tail 1)) tail low stays (tail_unflagged a flags c) on))
        by (inr c) = rw c (inl refl)

    sweep_moves : (k : ℕ) (flags : List ℕ) → k ≤ arc_count firsts → max_vertices ≤ length flags
        → (sweep firsts seconds rests k flags ≡ flags) ⊎ (count flags < count (sweep firsts seconds rests k flags))
    unfolding sweep
    sweep_moves zero flags b long = inl refl
    sweep_moves (suc a) flags b long =
        by (sweep_moves a flags (omega arith) long)
        (flag_moves a before (omega arith) (subst (λ m. max_vertices ≤ m) (sym (length_sweep firsts seconds rests a flags)) long))
      where
        before : List ℕ
        before = sweep firsts seconds rests a flags

        by : (before ≡ flags) ⊎ (count flags < count before) → (flag_at firsts seconds rests a before ≡ before) ⊎ (count before < count (flag_at firsts seconds rests a before))
            → (flag_at firsts seconds rests a before ≡ flags) ⊎ (count flags < count (flag_at firsts seconds rests a before))
        by (inl e) (inl f) = inl (f ∙ e)
        by (inl e) (inr f) = inr (subst (λ (x : List ℕ). count x < count (flag_at firsts seconds rests a before)) e f)
        by (inr e) (inl f) = inr (subst (λ (x : List ℕ). count flags < count x) (sym f) e)
        by (inr e) (inr f) = inr (omega (arith, e, f))

    sweeps_move : (i : ℕ) (flags : List ℕ) → max_vertices ≤ length flags
        → (sweep firsts seconds rests (arc_count firsts) (sweeps firsts seconds rests i flags) ≡ sweeps firsts seconds rests i flags)
        ⊎ (i < count (sweep firsts seconds rests (arc_count firsts) (sweeps firsts seconds rests i flags)))
    unfolding sweeps
    sweeps_move zero flags long = ⊎_elim (λ e. inl e) (λ h. inr (omega (arith, h))) (sweep_moves (arc_count firsts) flags (omega arith) long)
    sweeps_move (suc i) flags long =
        by (sweeps_move i flags long)
        (sweep_moves (arc_count firsts) next (omega arith) (subst (λ m. max_vertices ≤ m) (sym (length_sweeps firsts seconds rests (suc i) flags)) long))
      where
        now : List ℕ
        now = sweeps firsts seconds rests i flags

        next : List ℕ
        next = sweep firsts seconds rests (arc_count firsts) now

        by : (next ≡ now) ⊎ (i < count next) → (sweep firsts seconds rests (arc_count firsts) next ≡ next) ⊎ (count next < count (sweep firsts seconds rests (arc_count firsts) next))
            → (sweep firsts seconds rests (arc_count firsts) next ≡ next) ⊎ (suc i < count (sweep firsts seconds rests (arc_count firsts) next))
        by x (inl e) = inl e
        by (inl x) (inr m) = inl (ap (sweep firsts seconds rests (arc_count firsts)) x)
        by (inr x) (inr m) = inr (omega (arith, x, m))

    -- One sweep more changes nothing.
    pub sweeps_suffice : (flags : List ℕ) → max_vertices ≤ length flags
        → sweep firsts seconds rests (arc_count firsts) (sweeps firsts seconds rests n flags) ≡ sweeps firsts seconds rests n flags
    unfolding count
    sweeps_suffice flags long =
        ⊎_elim
        (λ e. e)
        (λ h. absurd (omega (arith, h, count_le n (flagged (sweep firsts seconds rests (arc_count firsts) (sweeps firsts seconds rests n flags))))))
        (sweeps_move n flags long)

    -- Flags that a sweep leaves as they are it leaves arc by arc.
    later_count : (k m : ℕ) (flags : List ℕ) → k ≤ m → m ≤ arc_count firsts → max_vertices ≤ length flags → count (sweep firsts seconds rests k flags) ≤ count (sweep firsts seconds rests m flags)
    unfolding sweep
    later_count k zero flags b c long = let e : k ≡ zero = omega arith in subst (λ j. count (sweep firsts seconds rests j flags) ≤ count flags) (sym e) (omega arith)
    later_count k (suc m) flags b c long =
        by (λ d. later_count k m flags d (omega arith) long) (lt_or_ge m k)
        (flag_moves m last (omega arith) (subst (λ j. max_vertices ≤ j) (sym (length_sweep firsts seconds rests m flags)) long))
      where
        last : List ℕ
        last = sweep firsts seconds rests m flags

        by : (k ≤ m → count (sweep firsts seconds rests k flags) ≤ count last) → (m < k) ⊎ (k ≤ m)
            → (flag_at firsts seconds rests m last ≡ last) ⊎ (count last < count (flag_at firsts seconds rests m last))
            → count (sweep firsts seconds rests k flags) ≤ count (flag_at firsts seconds rests m last)
        by before (inl d) x = let e : k ≡ suc m = omega arith in subst (λ j. count (sweep firsts seconds rests j flags) ≤ count (flag_at firsts seconds rests m last)) (sym e) (omega arith)
        by before (inr d) (inl x) = subst (λ (l : List ℕ). count (sweep firsts seconds rests k flags) ≤ count l) (sym x) (before d)
        by before (inr d) (inr x) = omega (arith, before d, x)

    still_part : (flags : List ℕ) → max_vertices ≤ length flags → sweep firsts seconds rests (arc_count firsts) flags ≡ flags → (k : ℕ) → k ≤ arc_count firsts → sweep firsts seconds rests k flags ≡ flags
    still_part flags long fixed k b =
        ⊎_elim
        (λ e. e)
        (λ h. absurd (omega (arith, h, later_count k (arc_count firsts) flags b (omega arith) long, ap count fixed)))
        (sweep_moves k flags b long)

    closed : (flags : List ℕ) → max_vertices ≤ length flags → sweep firsts seconds rests (arc_count firsts) flags ≡ flags → (a : ℕ) → a < arc_count firsts → get_or rests a 0 ≡ 0
        → flagged flags (head_of firsts seconds a) ≡ true → flagged flags (tail_of firsts seconds a) ≡ true
    unfolding sweep flag_at enters_at enters
    closed flags long fixed a b bare head = by (either (flagged flags (tail_of firsts seconds a)))
      where
        tail : ℕ
        tail = tail_of firsts seconds a

        step : flag_at firsts seconds rests a flags ≡ flags
        step = ap (flag_at firsts seconds rests a) (sym (still_part flags long fixed a (omega arith))) ∙ still_part flags long fixed (suc a) (omega arith)

        by : (flagged flags tail ≡ true) ⊎ (flagged flags tail ≡ false) → flagged flags tail ≡ true
        by (inl h) = h
        by (inr h) =
            let more : flags_more a flags ≡ true =
            and_both (eqb (get_or rests a 0) 0) (enters_at firsts seconds flags a) (eq-eqb (get_or rests a 0) 0 bare)
            (and_both (not (flagged flags tail)) (flagged flags (head_of firsts seconds a)) (not_of_false (flagged flags tail) h) head) in
            let low : tail < n = tails_below a b in
            let stored : set flags tail 1 ≡ flags = rw more at step in
            let on : flagged (set flags tail 1) tail ≡ true = ap (λ y. not (eqb y 0)) (get_or-set_same flags tail 1 0 (omega (arith, low, few, long))) in
            subst (λ (l : List ℕ). flagged l tail ≡ true) stored on

    -- Exactly those from which v is reached by arcs without rest.
    pub reaching_iff : (t : ℕ) → t < n → (v : ℕ) → (flagged (reaching firsts seconds rests n t) v ≡ true) ↔ Leads t v
    unfolding reaching Sound
    reaching_iff t b v = (λ h. sweeps_sound t n start (start_sound t) v h, complete)
      where
        start : List ℕ
        start = set (replicate max_vertices 0) t 1

        start_long : max_vertices ≤ length start
        start_long = omega (arith, length-set {A = ℕ} (replicate max_vertices 0) t 1, length-replicate {A = ℕ} max_vertices 0)

        whole_long : max_vertices ≤ length (sweeps firsts seconds rests n start)
        whole_long = omega (arith, length_sweeps firsts seconds rests n start, start_long)

        all : {u : ℕ} → Leads t u → flagged (sweeps firsts seconds rests n start) u ≡ true
        all here = reaching_self firsts seconds rests n t (omega arith)
        all (along a c bare same rest) =
            subst (λ u. flagged (sweeps firsts seconds rests n start) u ≡ true) same
            (closed (sweeps firsts seconds rests n start) whole_long (sweeps_suffice start start_long) a c bare (all rest))

        complete : Leads t v → flagged (sweeps firsts seconds rests n start) v ≡ true
        complete h = all h
