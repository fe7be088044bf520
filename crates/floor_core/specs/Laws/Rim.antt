-- The arcs at the rim of a cut say how much it can be raised and which arcs bear it: the least rest, and the rests after, are those over all arcs.
use Prim.Native.Nat.{ℕ, zero, suc, ◌+◌, ◌-◌, ◌%◌, ◌≤◌, ◌<◌}
use native.Mathlib.Omega.{arith}
use Rattle.std.proofs.Math.Decide.{ℕ_discrete}
use Rattle.std.specs.Prelude.{◌≡◌, ◌⊎◌, Option, Some, None, Bool, true, false, not, List, length, set, replicate}
use Rattle.std.proofs.Math.Path.{refl, ap, sym, subst}
use Rattle.std.proofs.Common.{◌∙◌, inl, inr, length-set, get_or-set_same, get_or-set_other}
use Rattle.std.proofs.Math.Logic.{⊎_elim}
use Rattle.std.proofs.Math.ListN.{get_or}
use Rattle.std.proofs.Math.Seq.{ext_get_or}
use borrow.Author.Tests.{not-true, lt-ltb, le-ltb, eq-eqb, ne_eqb}
use Rattle.base_finite.specs.Below.{counted}
use Rattle.base_finite.specs.Laws.Test.{either, and_left, and_right, and_both, same_test_law, not_of_false, true_not_false}
use Rattle.base_finite.specs.Laws.Below.{lt_or_ge, below_suc, counted_true, counted_false}
use Rattle.base_buffer.specs.Store.{remade}
use Rattle.base_buffer.proofs.Laws.Store.{remade_ahead}
use Rattle.base_limits.specs.Limits.{max_vertices}
use Rattle.theory_directed.specs.Directed.{enters}
use Rattle.floor_rule.specs.Ascent.{lesser, arc_count, flagged, enters_at, reaching, least_rest, loaded}
use Rattle.floor_rule.proofs.Laws.Cut.{lesser_left, lesser_right, least_le, least_cap, loaded_at, length_loaded}
use Rattle.floor_rule.specs.Ascent.{max_arcs}
use Rattle.floor_core.specs.Chain.{Ends, Chained, CutRaised}
use Rattle.floor_core.specs.Laws.End.{Least, least_found}
use Rattle.floor_core.specs.Laws.Reach.{reaching_iff}
use Rattle.floor_core.specs.Walk.{Ground, arcs_in, tail_in, head_in, LinkedIn, ChainedIn, Among, Turn, Begun, Cut, CutFound, Narrow}
use Rattle.floor_core.specs.Laws.Walk.{link_tail, turn_start, cut_arcs}

lesser_is_right : (x y : ℕ) → y < x → lesser x y ≡ y
unfolding lesser
lesser_is_right x y h = rw (lt-ltb y x h)

lesser_is_left : (x y : ℕ) → x ≤ y → lesser x y ≡ x
unfolding lesser
lesser_is_left x y h = rw (le-ltb y x h)

module _ (g : Ground) (rests flags rim : List ℕ) (arcs : ℕ) (k : Cut g rests flags rim arcs) where
  abbrev entering : ℕ → Bool
  entering a = enters_at g.firsts g.seconds flags a

  -- An arc at the rim enters exactly if it comes from outside.
  rim_enters : (j : ℕ) → j < arcs → flagged flags (tail_in g (get_or rim j 0)) ≡ false → entering (get_or rim j 0) ≡ true
  unfolding enters_at enters
  rim_enters j b off = and_both (not (flagged flags (tail_in g (get_or rim j 0)))) (flagged flags (head_in g (get_or rim j 0))) (not_of_false (flagged flags (tail_in g (get_or rim j 0))) off) (k.rim_heads j b)

  enters_outside : (a : ℕ) → entering a ≡ true → flagged flags (tail_in g a) ≡ false
  unfolding enters_at enters
  enters_outside a h = not-true (flagged flags (tail_in g a)) (and_left (not (flagged flags (tail_in g a))) (flagged flags (head_in g a)) h)

  enters_rim : (a : ℕ) → a < arcs_in g → entering a ≡ true → Among rim arcs a
  unfolding enters_at enters
  enters_rim a b h = k.entering a b (and_right (not (flagged flags (tail_in g a))) (flagged flags (head_in g a)) h) (enters_outside a h)

  -- ---- the least rest

  -- The least of the cap and the rests of the first j arcs at the rim.
  pub record LeastOf (cap j least : ℕ) : Type 0 where
    pub capped : least ≤ cap
    pub under : (i : ℕ) → i < j → entering (get_or rim i 0) ≡ true → least ≤ get_or rests (get_or rim i 0) 0
    pub attained : (least ≡ cap) ⊎ Least g.firsts g.seconds rests flags least (arcs_in g)

  pub least_start : (cap : ℕ) → LeastOf cap 0 cap
  least_start cap = record { capped = omega arith; under = λ i b h. absurd (omega (arith, b)); attained = inl refl }

  module _ {cap j least : ℕ} (h : LeastOf cap j least) (more : j < arcs) {a : ℕ} (a_is : a ≡ get_or rim j 0) where
    pub least_inside : flagged flags (tail_in g a) ≡ true → LeastOf cap (j + 1) least
    least_inside on = record { capped = h.capped; under = λ i b e. by i e (below_suc i j (omega (arith, b))); attained = h.attained }
      where
        by : (i : ℕ) → entering (get_or rim i 0) ≡ true → (i < j) ⊎ (i ≡ j) → least ≤ get_or rests (get_or rim i 0) 0
        by i e (inl c) = h.under i c e
        by i e (inr c) =
            true_not_false (flagged flags (tail_in g a)) on
            (subst (λ y. flagged flags (tail_in g y) ≡ false) (ap (λ m. get_or rim m 0) c ∙ sym a_is) (enters_outside (get_or rim i 0) e))

    pub least_outside : flagged flags (tail_in g a) ≡ false → LeastOf cap (j + 1) (lesser least (get_or rests a 0))
    least_outside off = record {
      capped = omega (arith, lesser_left least (get_or rests a 0), h.capped);
      under = λ i b e. by i e (below_suc i j (omega (arith, b)));
      attained = taken h.attained (lt_or_ge (get_or rests a 0) least);
    }
      where
        by : (i : ℕ) → entering (get_or rim i 0) ≡ true → (i < j) ⊎ (i ≡ j) → lesser least (get_or rests a 0) ≤ get_or rests (get_or rim i 0) 0
        by i e (inl c) = omega (arith, lesser_left least (get_or rests a 0), h.under i c e)
        by i e (inr c) = omega (arith, lesser_right least (get_or rests a 0), ap (λ y. get_or rests y 0) (ap (λ m. get_or rim m 0) c ∙ sym a_is))

        outside : flagged flags (tail_in g (get_or rim j 0)) ≡ false
        outside = subst (λ y. flagged flags (tail_in g y) ≡ false) a_is off

        taken : (least ≡ cap) ⊎ Least g.firsts g.seconds rests flags least (arcs_in g) → (get_or rests a 0 < least) ⊎ (least ≤ get_or rests a 0)
            → (lesser least (get_or rests a 0) ≡ cap) ⊎ Least g.firsts g.seconds rests flags (lesser least (get_or rests a 0)) (arcs_in g)
        taken x (inl c) =
            inr (record {
              arc = get_or rim j 0;
              below = k.rim_below j more;
              entered = rim_enters j more outside;
              is = ap (λ y. get_or rests y 0) (sym a_is) ∙ sym (lesser_is_right least (get_or rests a 0) c);
            })
        taken (inl x) (inr c) = inl (lesser_is_left least (get_or rests a 0) c ∙ x)
        taken (inr x) (inr c) = inr (subst (λ y. Least g.firsts g.seconds rests flags y (arcs_in g)) (sym (lesser_is_left least (get_or rests a 0) c)) x)

  pub least_whole : {cap least : ℕ} (j : ℕ) → LeastOf cap j least → arcs ≤ j → least ≡ least_rest g.firsts g.seconds rests flags cap (arcs_in g)
  least_whole {cap} {least} j h all = omega (arith, by (least_found g.firsts g.seconds rests flags cap (arcs_in g)), of h.attained)
    where
      whole : ℕ
      whole = least_rest g.firsts g.seconds rests flags cap (arcs_in g)

      by : (whole ≡ cap) ⊎ Least g.firsts g.seconds rests flags whole (arcs_in g) → least ≤ whole
      by (inl e) = omega (arith, e, h.capped)
      by (inr x) =
          let p = enters_rim x.arc x.below x.entered in
          let c : p.place < arcs = p.below in
          let low = h.under p.place (omega (arith, c, all)) (subst (λ y. entering y ≡ true) (sym p.is) x.entered) in
          omega (arith, low, ap (λ y. get_or rests y 0) p.is, x.is)

      of : (least ≡ cap) ⊎ Least g.firsts g.seconds rests flags least (arcs_in g) → whole ≤ least
      of (inl e) = omega (arith, e, least_cap g.firsts g.seconds rests flags cap (arcs_in g))
      of (inr x) = omega (arith, x.is, least_le g.firsts g.seconds rests flags cap (arcs_in g) x.arc x.below x.entered)

  -- ---- the arcs that enter, in front

  -- Of the first j arcs at the rim those that enter stand in front, in `now`, and there are e of them; those behind stand where they did.
  pub record NarrowTo (j e : ℕ) (now : List ℕ) : Type 0 where
    pub few : e ≤ j
    pub ahead : (i : ℕ) → j ≤ i → i < arcs → get_or now i 0 ≡ get_or rim i 0
    pub taken : (i : ℕ) → i < e → Among rim j (get_or now i 0)
    pub outside : (i : ℕ) → i < e → flagged flags (tail_in g (get_or now i 0)) ≡ false
    pub apart : (i m : ℕ) → i < e → m < e → get_or now i 0 ≡ get_or now m 0 → i ≡ m
    pub all : (i : ℕ) → i < j → flagged flags (tail_in g (get_or rim i 0)) ≡ false → Among now e (get_or rim i 0)

  pub narrow_start : NarrowTo 0 0 rim
  narrow_start = record {
    few = omega arith;
    ahead = λ i b c. refl;
    taken = λ i b. absurd (omega (arith, b));
    outside = λ i b. absurd (omega (arith, b));
    apart = λ i m b c e. absurd (omega (arith, b));
    all = λ i b. absurd (omega (arith, b));
  }

  later : {j x : ℕ} → Among rim j x → Among rim (j + 1) x
  later {j} p = let c : p.place < j = p.below in record { place = p.place; below = omega arith; is = p.is }

  module _ {j e : ℕ} {now : List ℕ} (h : NarrowTo j e now) (more : j < arcs) {a : ℕ} (a_is : a ≡ get_or now j 0) where
    a_rim : a ≡ get_or rim j 0
    a_rim = a_is ∙ h.ahead j (omega arith) more

    pub narrow_inside : flagged flags (tail_in g a) ≡ true → NarrowTo (j + 1) e now
    narrow_inside on = record {
      few = omega (arith, h.few);
      ahead = λ i b c. h.ahead i (omega (arith, b)) c;
      taken = λ i b. later (h.taken i b);
      outside = h.outside;
      apart = h.apart;
      all = λ i b off. by i off (below_suc i j (omega (arith, b)));
    }
      where
        by : (i : ℕ) → flagged flags (tail_in g (get_or rim i 0)) ≡ false → (i < j) ⊎ (i ≡ j) → Among now e (get_or rim i 0)
        by i off (inl c) = h.all i c off
        by i off (inr c) = true_not_false (flagged flags (tail_in g a)) on (subst (λ y. flagged flags (tail_in g y) ≡ false) (ap (λ m. get_or rim m 0) c ∙ sym a_rim) off)

    pub narrow_outside : arcs ≤ length now → flagged flags (tail_in g a) ≡ false → NarrowTo (j + 1) (e + 1) (set now e a)
    narrow_outside room off = record {
      few = omega (arith, h.few);
      ahead = λ i b c. get_or-set_other now e i a 0 (λ same. omega (arith, same, b, h.few)) ∙ h.ahead i (omega (arith, b)) c;
      taken = λ i b. at_front i (λ y. Among rim (j + 1) y) (record { place = j; below = omega arith; is = sym a_rim }) (λ m c. later (h.taken m c)) (below_suc i e (omega (arith, b)));
      outside = λ i b. at_front i (λ y. flagged flags (tail_in g y) ≡ false) off h.outside (below_suc i e (omega (arith, b)));
      apart = λ i m b c same. two i m same (below_suc i e (omega (arith, b))) (below_suc m e (omega (arith, c)));
      all = λ i b out. by i out (below_suc i j (omega (arith, b)));
    }
      where
        last : get_or (set now e a) e 0 ≡ a
        last = get_or-set_same now e a 0 (omega (arith, h.few, more, room))

        kept : (i : ℕ) → i < e → get_or (set now e a) i 0 ≡ get_or now i 0
        kept i c = get_or-set_other now e i a 0 (λ same. omega (arith, same, c))

        at_front : (i : ℕ) (P : ℕ → Type 0) → P a → ((m : ℕ) → m < e → P (get_or now m 0)) → (i < e) ⊎ (i ≡ e) → P (get_or (set now e a) i 0)
        at_front i P new old (inl c) = subst P (sym (kept i c)) (old i c)
        at_front i P new old (inr c) = subst (λ m. P (get_or (set now e a) m 0)) (sym c) (subst P (sym last) new)

        -- a was not in front
        fresh : (i : ℕ) → i < e → get_or now i 0 ≡ a → ⊥
        fresh i c same =
            let p = h.taken i c in
            let q : p.place < j = p.below in
            omega (arith, q, k.distinct p.place j (omega (arith, q, more)) more (p.is ∙ same ∙ a_rim))

        two : (i m : ℕ) → get_or (set now e a) i 0 ≡ get_or (set now e a) m 0 → (i < e) ⊎ (i ≡ e) → (m < e) ⊎ (m ≡ e) → i ≡ m
        two i m same (inl c) (inl d) = h.apart i m c d (sym (kept i c) ∙ same ∙ kept m d)
        two i m same (inl c) (inr d) = absurd (fresh i c (sym (kept i c) ∙ same ∙ ap (λ n. get_or (set now e a) n 0) d ∙ last))
        two i m same (inr c) (inl d) = absurd (fresh m d (sym (kept m d) ∙ sym same ∙ ap (λ n. get_or (set now e a) n 0) c ∙ last))
        two i m same (inr c) (inr d) = c ∙ sym d

        by : (i : ℕ) → flagged flags (tail_in g (get_or rim i 0)) ≡ false → (i < j) ⊎ (i ≡ j) → Among (set now e a) (e + 1) (get_or rim i 0)
        by i out (inl c) = let p = h.all i c out in let q : p.place < e = p.below in record { place = p.place; below = omega arith; is = kept p.place q ∙ p.is }
        by i out (inr c) = record { place = e; below = omega arith; is = last ∙ a_rim ∙ ap (λ m. get_or rim m 0) (sym c) }

  pub narrow_whole : {e : ℕ} {now : List ℕ} (j : ℕ) → NarrowTo j e now → arcs ≤ j → j ≤ arcs → Narrow g rests flags now e
  narrow_whole {e} {now} j h whole few = record {
    cut = record {
      inside = k.inside;
      entering = λ a b on off.
          let p = k.entering a b on off in
          let c : p.place < arcs = p.below in
          subst (Among now e) p.is (h.all p.place (omega (arith, c, whole)) (subst (λ y. flagged flags (tail_in g y) ≡ false) (sym p.is) off));
      rim_below = λ i b. at i b (λ y. y < arcs_in g) k.rim_below;
      rim_heads = λ i b. at i b (λ y. flagged flags (head_in g y) ≡ true) k.rim_heads;
      distinct = h.apart;
    };
    outside = h.outside;
  }
    where
      at : (i : ℕ) → i < e → (P : ℕ → Type 0) → ((m : ℕ) → m < arcs → P (get_or rim m 0)) → P (get_or now i 0)
      at i b P old = let p = h.taken i b in let c : p.place < j = p.below in subst P p.is (old p.place (omega (arith, c, few)))

  -- ---- the rests

  -- The first j arcs at the rim bear d more where they enter, all others what they did.
  pub record LoadedTo (d j : ℕ) (now : List ℕ) : Type 0 where
    pub long : length now ≡ length rests
    pub borne : (i : ℕ) → i < j → entering (get_or rim i 0) ≡ true → get_or now (get_or rim i 0) 0 ≡ get_or rests (get_or rim i 0) 0 - d
    pub left : (a : ℕ) → ((i : ℕ) → i < j → get_or rim i 0 ≡ a → entering a ≡ true → ⊥) → get_or now a 0 ≡ get_or rests a 0

  pub loaded_start : (d : ℕ) → LoadedTo d 0 rests
  loaded_start d = record { long = refl; borne = λ i b h. absurd (omega (arith, b)); left = λ a none. refl }

  module _ {d j : ℕ} {now : List ℕ} (h : LoadedTo d j now) (more : j < arcs) {a : ℕ} (a_is : a ≡ get_or rim j 0) where
    pub loaded_outside : arcs_in g ≤ length rests → flagged flags (tail_in g a) ≡ false → LoadedTo d (j + 1) (set now a (get_or now a 0 - d))
    loaded_outside room off = record {
      long = length-set now a (get_or now a 0 - d) ∙ h.long;
      borne = λ i b e. by i e (below_suc i j (omega (arith, b)));
      left = λ c none. apart c none (ℕ_discrete c a);
    }
      where
        low : a < arcs_in g
        low = subst (λ y. y < arcs_in g) (sym a_is) (k.rim_below j more)

        enters_a : entering a ≡ true
        enters_a = subst (λ y. entering y ≡ true) (sym a_is) (rim_enters j more (subst (λ y. flagged flags (tail_in g y) ≡ false) a_is off))

        stored : get_or (set now a (get_or now a 0 - d)) a 0 ≡ get_or now a 0 - d
        stored = get_or-set_same now a (get_or now a 0 - d) 0 (omega (arith, low, room, h.long))

        -- no earlier place has it
        first : get_or now a 0 ≡ get_or rests a 0
        first = h.left a (λ i b same e. omega (arith, b, k.distinct i j (omega (arith, b, more)) more (same ∙ a_is)))

        by : (i : ℕ) → entering (get_or rim i 0) ≡ true → (i < j) ⊎ (i ≡ j) → get_or (set now a (get_or now a 0 - d)) (get_or rim i 0) 0 ≡ get_or rests (get_or rim i 0) 0 - d
        by i e (inl c) =
            get_or-set_other now a (get_or rim i 0) (get_or now a 0 - d) 0 (λ same. omega (arith, c, k.distinct i j (omega (arith, c, more)) more (same ∙ a_is)))
            ∙ h.borne i c e
        by i e (inr c) =
            let is : get_or rim i 0 ≡ a = ap (λ m. get_or rim m 0) c ∙ sym a_is in
            subst (λ y. get_or (set now a (get_or now a 0 - d)) y 0 ≡ get_or rests y 0 - d) (sym is) (stored ∙ ap (λ y. y - d) first)

        apart : (c : ℕ) → ((i : ℕ) → i < j + 1 → get_or rim i 0 ≡ c → entering c ≡ true → ⊥) → Dec (c ≡ a) → get_or (set now a (get_or now a 0 - d)) c 0 ≡ get_or rests c 0
        apart c none (yes e) = absurd (none j (omega arith) (sym (e ∙ a_is)) (subst (λ y. entering y ≡ true) (sym e) enters_a))
        apart c none (no e) = get_or-set_other now a c (get_or now a 0 - d) 0 e ∙ h.left c (λ i b. none i (omega (arith, b)))

  pub loaded_whole : {d : ℕ} {now : List ℕ} (j : ℕ) → LoadedTo d j now → arcs ≤ j → j ≤ arcs → arcs_in g ≤ length rests → now ≡ loaded g.firsts g.seconds flags d rests
  unfolding loaded
  loaded_whole {d} {now} j h all few room =
      ext_get_or 0 now (loaded g.firsts g.seconds flags d rests) (h.long ∙ sym (length_loaded g.firsts g.seconds flags d rests))
      (λ a b. ⊎_elim (λ c. below a c (either (entering a))) (λ c. past a c) (lt_or_ge a (arcs_in g)))
    where
      below : (a : ℕ) → a < arcs_in g → (entering a ≡ true) ⊎ (entering a ≡ false) → get_or now a 0 ≡ get_or (loaded g.firsts g.seconds flags d rests) a 0
      below a c (inl e) =
          let p = enters_rim a c e in
          let q : p.place < arcs = p.below in
          let x = h.borne p.place (omega (arith, q, all)) (subst (λ y. entering y ≡ true) (sym p.is) e) in
          omega (arith, subst (λ y. get_or now y 0 ≡ get_or rests y 0 - d) p.is x, loaded_at g.firsts g.seconds flags d a rests c room, counted_true e d)
      below a c (inr e) =
          omega (
            arith,
            h.left a (λ i b same on. true_not_false (entering a) on e),
            loaded_at g.firsts g.seconds flags d a rests c room,
            counted_false e d,
          )

      past : (a : ℕ) → arcs_in g ≤ a → get_or now a 0 ≡ get_or (loaded g.firsts g.seconds flags d rests) a 0
      past a c =
          h.left a (λ i b same on. let low : get_or rim i 0 < arcs_in g = k.rim_below i (omega (arith, b, few)) in omega (arith, low, same, c))
          ∙ sym (remade_ahead (λ e rest. rest - counted (enters_at g.firsts g.seconds flags e) d) (arcs_in g) rests a c)

  -- ---- the cut is the definition's

  same_flag : (u : ℕ) → flagged flags u ≡ flagged (reaching g.firsts g.seconds rests g.n g.t) u
  same_flag u =
      let there = reaching_iff g.firsts g.seconds rests g.n g.ends.few g.ends.tails_below g.t g.inside u in
      same_test_law (flagged flags u) (flagged (reaching g.firsts g.seconds rests g.n g.t) u) (λ h. there.1 ((k.inside u).0 h)) (λ h. (k.inside u).1 (there.0 h))

  same_enters : (a : ℕ) → entering a ≡ enters_at g.firsts g.seconds (reaching g.firsts g.seconds rests g.n g.t) a
  unfolding enters_at enters
  same_enters a = rw (same_flag (tail_in g a), same_flag (head_in g a))

  pub least_cut : (cap n : ℕ) → least_rest g.firsts g.seconds rests flags cap n ≡ least_rest g.firsts g.seconds rests (reaching g.firsts g.seconds rests g.n g.t) cap n
  unfolding least_rest
  least_cut cap zero = refl
  least_cut cap (suc a) = rw (same_enters a, least_cut cap a)

  pub loaded_cut : (d : ℕ) → loaded g.firsts g.seconds flags d rests ≡ loaded g.firsts g.seconds (reaching g.firsts g.seconds rests g.n g.t) d rests
  unfolding loaded
  loaded_cut d i = remade (λ a rest. rest - counted (same_enters a i) d) (arcs_in g) rests

-- ---- over the rim, as the code goes

module _ (links flags rim : List ℕ) (arcs : ℕ) where
  -- Whether the arc at place j comes from inside.
  inner : ℕ → Bool
  inner a = flagged flags (get_or links a 0 % 512)

  inner_is : (g : Ground) → LinkedIn g links → (rests : List ℕ) → Cut g rests flags rim arcs → (j : ℕ) → j < arcs → {a : ℕ} → a ≡ get_or rim j 0 → inner a ≡ flagged flags (tail_in g a)
  unfolding inner
  inner_is g linked rests k j more {a} a_is =
      let low : a < arcs_in g = subst (λ y. y < arcs_in g) (sym a_is) (k.rim_below j more) in
      ap (flagged flags) (link_tail g a low (linked a low))

  module _ (rests : List ℕ) (cap : ℕ) where
    abbrev pub Narrows : (j least e : ℕ) (now : List ℕ) → Type 0
    Narrows j least e now = (g : Ground) → LinkedIn g links → (k : Cut g rests flags rim arcs) → LeastOf g rests flags rim arcs k cap j least × NarrowTo g rests flags rim arcs k j e now

    pub narrows_start : Narrows 0 cap 0 rim
    narrows_start g linked k = (least_start g rests flags rim arcs k cap, narrow_start g rests flags rim arcs k)

    module _ {j least e : ℕ} {now : List ℕ} (h : Narrows j least e now) (more : j < arcs) {a : ℕ} (a_is : a ≡ get_or now j 0) where
      -- As it stands at the rim.
      at_rim : (g : Ground) (linked : LinkedIn g links) (k : Cut g rests flags rim arcs) → a ≡ get_or rim j 0
      at_rim g linked k = a_is ∙ (h g linked k).1.ahead j (omega arith) more

      pub narrows_inside : flagged flags (get_or links a 0 % 512) ≡ true → Narrows (j + 1) least e now
      unfolding inner
      narrows_inside on g linked k =
          let same = inner_is g linked rests k j more (at_rim g linked k) in
          (least_inside g rests flags rim arcs k (h g linked k).0 more (at_rim g linked k) (sym same ∙ on), narrow_inside g rests flags rim arcs k (h g linked k).1 more a_is (sym same ∙ on))

      pub narrows_outside : length now ≡ max_arcs → flagged flags (get_or links a 0 % 512) ≡ false → Narrows (j + 1) (lesser least (get_or rests a 0)) (e + 1) (set now e a)
      unfolding inner
      narrows_outside long off g linked k =
          let same = inner_is g linked rests k j more (at_rim g linked k) in
          (least_outside g rests flags rim arcs k (h g linked k).0 more (at_rim g linked k) (sym same ∙ off), narrow_outside g rests flags rim arcs k (h g linked k).1 more a_is (omega (arith, long, cut_arcs g k)) (sym same ∙ off))

    pub narrows_end : {j least e : ℕ} {now : List ℕ} → Narrows j least e now → arcs ≤ j → j ≤ arcs → (g : Ground) → LinkedIn g links → Cut g rests flags rim arcs
        → (least ≡ least_rest g.firsts g.seconds rests flags cap (arcs_in g)) × Narrow g rests flags now e
    narrows_end {j} h all few g linked k = (least_whole g rests flags rim arcs k j (h g linked k).0 all, narrow_whole g rests flags rim arcs k j (h g linked k).1 all few)

-- Every arc at a narrow rim bears d more.
module _ (rim : List ℕ) (arcs : ℕ) (rests : List ℕ) (d : ℕ) where
  abbrev pub Loads : (j : ℕ) (now : List ℕ) → Type 0
  Loads j now = (g : Ground) (flags : List ℕ) → (n : Narrow g rests flags rim arcs) → LoadedTo g rests flags rim arcs n.cut d j now

  pub loads_start : Loads 0 rests
  loads_start g flags n = loaded_start g rests flags rim arcs n.cut d

  room : length rests ≡ max_arcs → (g : Ground) → arcs_in g ≤ length rests
  room long g = omega (arith, long, g.ends.short)

  pub loads_more : length rests ≡ max_arcs → {j : ℕ} {now next : List ℕ} → Loads j now → j < arcs → {a x y : ℕ} → a ≡ get_or rim j 0 → x ≡ get_or now a 0 → y ≡ x - d → next ≡ set now a y → Loads (j + 1) next
  loads_more long {j} {now} {next} h more {a} a_is x_is y_is next_is g flags n =
      subst (LoadedTo g rests flags rim arcs n.cut d (j + 1)) (sym (next_is ∙ ap (set now a) (y_is ∙ ap (λ z. z - d) x_is)))
      (loaded_outside g rests flags rim arcs n.cut (h g flags n) more a_is (room long g) (subst (λ z. flagged flags (tail_in g z) ≡ false) (sym a_is) (n.outside j more)))

  pub loads_end : length rests ≡ max_arcs → {j : ℕ} {now : List ℕ} → Loads j now → arcs ≤ j → j ≤ arcs → (g : Ground) (flags : List ℕ) → Narrow g rests flags rim arcs → now ≡ loaded g.firsts g.seconds flags d rests
  loads_end long {j} h all few g flags n = loaded_whole g rests flags rim arcs n.cut j (h g flags n) all few (room long g)

-- ---- the cut raised

module _ (firsts seconds tops links : List ℕ) (n root v cap : ℕ) (ends : Ends n firsts seconds) (chained : Chained firsts seconds (arc_count firsts) tops links) (low : v < n) (rests : List ℕ) where
  graph : Ground
  graph = record { firsts = firsts; seconds = seconds; n = n; t = v; ends = ends; inside = low }

  pub walk_begins : {flags found : List ℕ} (rim : List ℕ) → flags ≡ set (replicate max_vertices 0) v 1 → found ≡ set (replicate max_vertices 0) 0 v → Begun tops links rests flags found rim
  unfolding graph
  walk_begins {flags} {found} rim flags_are found_are = record { graph = graph; chained = chained; turn = turn_start graph rests flags found rim flags_are found_are }

  module _ {flags found rim flags_after rim_after : List ℕ} {walked : Option ℕ} (flags_are : flags ≡ set (replicate max_vertices 0) v 1) (found_are : found ≡ set (replicate max_vertices 0) 0 v)
      (found_cut : (g : Ground) → ChainedIn g tops links → Turn g rests 0 0 0 flags found rim 1 0 → CutFound g rests flags_after rim_after root walked) where
    what : CutFound graph rests flags_after rim_after root walked
    unfolding graph
    what = found_cut graph chained (turn_start graph rests flags found rim flags_are found_are)

    pub cut_inside : walked ≡ None → CutRaised firsts seconds n root v cap rests rests None
    unfolding graph what
    cut_inside on = record {
      root_inside = λ h. ((reaching_iff firsts seconds rests n ends.few ends.tails_below v low root).1 (what.led on), refl);
      root_outside = λ by h. cc;
    }

    pub cut_outside : {arcs : ℕ} → walked ≡ Some arcs → {by kept : ℕ} {after narrowed : List ℕ}
        → ((g : Ground) → LinkedIn g links → Cut g rests flags_after rim_after arcs → (by ≡ least_rest g.firsts g.seconds rests flags_after cap (arcs_in g)) × Narrow g rests flags_after narrowed kept)
        → ((g : Ground) (flags : List ℕ) → Narrow g rests flags narrowed kept → after ≡ loaded g.firsts g.seconds flags by rests)
        → CutRaised firsts seconds n root v cap rests after (Some by)
    unfolding graph what
    cut_outside {arcs} off {by} {after = after} narrow load =
        let k = what.cut arcs off in
        let found = narrow graph chained.links_are k in
        record {
          root_inside = λ h. cc;
          root_outside = λ d h.
              let same : by ≡ d = cc in
              subst (λ e. (flagged (reaching firsts seconds rests n v) root ≡ false) × (e ≡ least_rest firsts seconds rests (reaching firsts seconds rests n v) cap (arc_count firsts))
              × (after ≡ loaded firsts seconds (reaching firsts seconds rests n v) e rests)) same (
                sym (same_flag graph rests flags_after rim_after arcs k root) ∙ what.outside arcs off,
                found.0 ∙ least_cut graph rests flags_after rim_after arcs k cap (arc_count firsts),
                load graph flags_after found.1 ∙ loaded_cut graph rests flags_after rim_after arcs k by,
              );
        }

-- ---- an arc's tail, as the code finds it

module _ (links flags : List ℕ) (a : ℕ) {x t y : ℕ} (x_is : x ≡ get_or links a 0) (t_is : t ≡ x % 512) (y_is : y ≡ get_or flags t 0) where
  at_tail : y ≡ get_or flags (get_or links a 0 % 512) 0
  at_tail = y_is ∙ ap (λ k. get_or flags k 0) (t_is ∙ ap (λ k. k % 512) x_is)

  pub inner_on : (y ≡ 0 → ⊥) → flagged flags (get_or links a 0 % 512) ≡ true
  inner_on some = ap not (ne_eqb (get_or flags (get_or links a 0 % 512) 0) 0 (λ z. some (at_tail ∙ z)))

  pub inner_off : y ≡ 0 → flagged flags (get_or links a 0 % 512) ≡ false
  inner_off none = ap not (eq-eqb (get_or flags (get_or links a 0 % 512) 0) 0 (sym at_tail ∙ none))

-- ---- one place of the rim, as the code goes

module _ (links flags rests now : List ℕ) (j least kept : ℕ) {a i x t y : ℕ} (a_is : a ≡ get_or now j 0) (i_is : i ≡ a) (x_is : x ≡ get_or links i 0) (t_is : t ≡ x % 512) (y_is : y ≡ get_or flags t 0) where
  x_at : x ≡ get_or links a 0
  x_at = x_is ∙ ap (λ m. get_or links m 0) i_is

  pub place_inside : (y ≡ 0 → ⊥) → (rim : List ℕ) (arcs cap : ℕ) → Narrows links flags rim arcs rests cap j least kept now → j < arcs → Narrows links flags rim arcs rests cap (j + 1) least kept now
  place_inside some rim arcs cap h more = narrows_inside links flags rim arcs rests cap h more a_is (inner_on links flags a x_at t_is y_is some)

  pub place_outside : y ≡ 0 → length now ≡ max_arcs → {next : List ℕ} {z w r : ℕ} → next ≡ set now kept a → z ≡ get_or rests i 0 → w ≡ z → r ≡ lesser least w
      → (rim : List ℕ) (arcs cap : ℕ) → Narrows links flags rim arcs rests cap j least kept now → j < arcs → Narrows links flags rim arcs rests cap (j + 1) r (kept + 1) next
  place_outside none long {next} {z} {w} {r} next_is z_is w_is r_is rim arcs cap h more =
      let r_at : lesser least (get_or rests a 0) ≡ r = sym (r_is ∙ ap (lesser least) (w_is ∙ z_is ∙ ap (λ m. get_or rests m 0) i_is)) in
      subst (λ (l : List ℕ). Narrows links flags rim arcs rests cap (j + 1) r (kept + 1) l) (sym next_is)
      (subst (λ q. Narrows links flags rim arcs rests cap (j + 1) q (kept + 1) (set now kept a)) r_at
      (narrows_outside links flags rim arcs rests cap h more a_is long (inner_off links flags a x_at t_is y_is none)))
