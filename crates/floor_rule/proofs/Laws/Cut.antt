-- What a visit's cut holds and how much the arcs bear of it.
use Prim.Native.Nat.{ℕ, zero, suc, ◌+◌, ◌-◌, ◌≤◌, ◌<◌}
use native.Mathlib.Omega.{arith}
use Rattle.std.specs.Prelude.{◌≡◌, refl, ◌⊎◌, Bool, true, ◌&&◌, cond, List, get_or, set, replicate, eqb}
use Rattle.std.proofs.Common.{ap, sym, ◌∙◌, subst, inl, inr, get_or-set_same, get_or-set_other}
use Rattle.std.proofs.Math.Bool.{false, not}
use Rattle.std.proofs.lemmas.Bool.{false≢true}
use Rattle.std.proofs.Math.ListN.{length}
use Rattle.std.proofs.lemmas.List.{length-replicate}
use Rattle.std.proofs.Math.Dec.{ltb}
use borrow.Author.Tests.{ltb-true, lt-ltb, le-ltb, not-true}
use Rattle.base_finite.specs.Below.{counted}
use Rattle.base_finite.specs.Laws.Test.{either, and_left, and_right, true_not_false}
use Rattle.base_finite.specs.Laws.Below.{below_suc, lt_or_ge}
use Rattle.base_buffer.proofs.Laws.Store.{length_remade, remade_passed}
use Rattle.base_limits.specs.Limits.{max_vertices}
use Rattle.theory_directed.specs.Directed.{enters}
use Rattle.floor_rule.specs.Ascent.{lesser, arc_count, edge_of, tail_of, head_of, flagged, enters_at, flag_at, sweep, sweeps, reaching, least_rest, loaded}

pub lesser_left : (x y : ℕ) → lesser x y ≤ x
unfolding lesser
lesser_left x y = by (ltb y x) refl
  where
    by : (t : Bool) → ltb y x ≡ t → cond t y x ≤ x
    by true h = let c : y < x = ltb-true y x h in omega arith
    by false h = omega arith

pub lesser_right : (x y : ℕ) → lesser x y ≤ y
unfolding lesser
lesser_right x y = by (ltb y x) refl (lt_or_ge y x)
  where
    by : (t : Bool) → ltb y x ≡ t → (y < x) ⊎ (x ≤ y) → cond t y x ≤ y
    by true h c = omega arith
    by false h (inr c) = c
    by false h (inl c) = absurd (false≢true (sym h ∙ lt-ltb y x c))

module _ (firsts seconds : List ℕ) where
  module _ (rests : List ℕ) where
    -- A flag that is set stays.
    flag_stays : (a v : ℕ) (flags : List ℕ) → flagged flags v ≡ true → flagged (flag_at firsts seconds rests a flags) v ≡ true
    unfolding flag_at enters_at enters
    flag_stays a v flags h = by (either (eqb (get_or rests a 0) 0 && enters_at firsts seconds flags a))
      where
        tail : ℕ
        tail = tail_of firsts seconds a

        unflagged : enters_at firsts seconds flags a ≡ true → flagged flags tail ≡ false
        unflagged t = not-true (flagged flags tail) (and_left (not (flagged flags tail)) (flagged flags (head_of firsts seconds a)) t)

        by : ((eqb (get_or rests a 0) 0 && enters_at firsts seconds flags a) ≡ true) ⊎ ((eqb (get_or rests a 0) 0 && enters_at firsts seconds flags a) ≡ false)
            → flagged (flag_at firsts seconds rests a flags) v ≡ true
        by (inr t) = rw t h
        by (inl t) =
            let other : (v ≡ tail → ⊥) =
            λ e. true_not_false (flagged flags v) h (subst (λ u. flagged flags u ≡ false) (sym e) (unflagged (and_right (eqb (get_or rests a 0) 0) (enters_at firsts seconds flags a) t))) in
            rw t (ap (λ x. not (eqb x 0)) (get_or-set_other flags tail v 1 0 other) ∙ h)

    sweep_stays : (n v : ℕ) (flags : List ℕ) → flagged flags v ≡ true → flagged (sweep firsts seconds rests n flags) v ≡ true
    unfolding sweep
    sweep_stays zero v flags h = h
    sweep_stays (suc a) v flags h = flag_stays a v (sweep firsts seconds rests a flags) (sweep_stays a v flags h)

    sweeps_stay : (n v : ℕ) (flags : List ℕ) → flagged flags v ≡ true → flagged (sweeps firsts seconds rests n flags) v ≡ true
    unfolding sweeps
    sweeps_stay zero v flags h = h
    sweeps_stay (suc i) v flags h = sweep_stays (arc_count firsts) v (sweeps firsts seconds rests i flags) (sweeps_stay i v flags h)

    -- The visited vertex is inside.
    pub reaching_self : (n v : ℕ) → v < max_vertices → flagged (reaching firsts seconds rests n v) v ≡ true
    unfolding reaching
    reaching_self n v b =
        sweeps_stay n v (set (replicate max_vertices 0) v 1)
        (ap (λ x. not (eqb x 0)) (get_or-set_same (replicate max_vertices 0) v 1 0 (subst (λ k. v < k) (sym (length-replicate {A = ℕ} max_vertices 0)) b)))

    -- No arc that enters bears less than the least.
    pub least_le : (flags : List ℕ) (cap n a : ℕ) → a < n → enters_at firsts seconds flags a ≡ true → least_rest firsts seconds rests flags cap n ≤ get_or rests a 0
    unfolding least_rest
    least_le flags cap zero a b h = absurd (omega arith)
    least_le flags cap (suc n) a b h = by (λ c. least_le flags cap n a c h) (either (enters_at firsts seconds flags n)) (below_suc a n b)
      where
        least : ℕ
        least = least_rest firsts seconds rests flags cap n

        by : (a < n → least ≤ get_or rests a 0) → (enters_at firsts seconds flags n ≡ true) ⊎ (enters_at firsts seconds flags n ≡ false) → (a < n) ⊎ (a ≡ n)
            → least_rest firsts seconds rests flags cap (suc n) ≤ get_or rests a 0
        by before (inl t) (inl c) = rw t (omega (arith, lesser_left least (get_or rests n 0), before c))
        by before (inr t) (inl c) = rw t (before c)
        by before (inl t) (inr e) = rw (t, e) (lesser_right least (get_or rests n 0))
        by before (inr t) (inr e) = true_not_false (enters_at firsts seconds flags a) h (subst (λ k. enters_at firsts seconds flags k ≡ false) (sym e) t)

    pub least_cap : (flags : List ℕ) (cap n : ℕ) → least_rest firsts seconds rests flags cap n ≤ cap
    unfolding least_rest
    least_cap flags cap zero = omega arith
    least_cap flags cap (suc n) = by (least_cap flags cap n) (either (enters_at firsts seconds flags n))
      where
        by : least_rest firsts seconds rests flags cap n ≤ cap → (enters_at firsts seconds flags n ≡ true) ⊎ (enters_at firsts seconds flags n ≡ false)
            → least_rest firsts seconds rests flags cap (suc n) ≤ cap
        by before (inl t) = rw t (omega (arith, lesser_left (least_rest firsts seconds rests flags cap n) (get_or rests n 0), before))
        by before (inr t) = rw t before

  pub loaded_at : (flags : List ℕ) (d a : ℕ) (rests : List ℕ) → a < arc_count firsts → arc_count firsts ≤ length rests
      → get_or (loaded firsts seconds flags d rests) a 0 ≡ get_or rests a 0 - counted (enters_at firsts seconds flags a) d
  unfolding loaded
  loaded_at flags d a rests b long = remade_passed _ (arc_count firsts) rests a b (omega arith)

  pub length_loaded : (flags : List ℕ) (d : ℕ) (rests : List ℕ) → length (loaded firsts seconds flags d rests) ≡ length rests
  unfolding loaded
  length_loaded flags d rests = length_remade _ (arc_count firsts) rests

  -- Both directions of an edge are arcs.
  pub arc_forth : (e : ℕ) → e < length firsts → (tail_of firsts seconds e ≡ get_or firsts e 0) × (head_of firsts seconds e ≡ get_or seconds e 0) × (edge_of firsts e ≡ e)
  unfolding tail_of head_of edge_of
  arc_forth e b = (rw (lt-ltb e (length firsts) b), rw (lt-ltb e (length firsts) b), rw (lt-ltb e (length firsts) b))

  pub arc_back : (e : ℕ) → (tail_of firsts seconds (length firsts + e) ≡ get_or seconds e 0) × (head_of firsts seconds (length firsts + e) ≡ get_or firsts e 0) × (edge_of firsts (length firsts + e) ≡ e)
  unfolding tail_of head_of edge_of
  arc_back e =
      let past : ltb (length firsts + e) (length firsts) ≡ false = le-ltb (length firsts + e) (length firsts) (omega arith) in
      let less : length firsts + e - length firsts ≡ e = omega arith in
      (rw (past, less), rw (past, less), rw (past, less))
