-- The ascent's end is reached: one pass more changes nothing. A raise by 0 changes nothing; any other leaves an arc more without rest or a group more with its
-- share, and none of them is ever lost. So a pass that changes something makes progress, and there is progress for at most as many passes as are made.
use Prim.Native.Nat.{ℕ, zero, suc, ◌+◌, ◌-◌, ◌≤◌, ◌<◌}
use native.Mathlib.Omega.{arith}
use Rattle.std.proofs.Math.Decide.{ℕ_discrete}
use Rattle.std.specs.Prelude.{◌≡◌, ◌⊎◌, Bool, ◌&&◌, ◌||◌, not, cond, set, replicate, ltb}
use Rattle.std.proofs.Math.Path.{refl, subst}
use Rattle.std.proofs.Common.{ap, sym, ◌∙◌, length-set, ext_get_or}
use Rattle.std.proofs.Math.Logic.{inl, inr, ⊎_elim}
use Rattle.std.proofs.Math.Bool.{true, false}
use mathlib.Core.List.{List}
use Rattle.std.proofs.Math.ListN.{length, get_or, length-replicate}
use Rattle.std.proofs.Math.Seq.{get_or-set_same, get_or-set_other}
use Rattle.std.proofs.Math.Dec.{eqb}
use borrow.Author.Tests.{eqb-true, eqb-false, eq-eqb, ne_eqb, not-true}
use Rattle.base_finite.specs.Below.{counted, sum_below, count_below, any_below}
use Rattle.base_finite.specs.Laws.Test.{either, and_left, and_right, and_both, not_of_false}
use Rattle.base_finite.specs.Laws.Below.{below_suc, sum_le, counted_true, counted_false, counted_zero, counted_mono, count_le, count_labels, any_intro, Found}
use Rattle.base_buffer.proofs.Laws.Store.{length_remade, remade_still}
use Rattle.base_limits.specs.Limits.{max_vertices, max_edges, group_numbers}
use Rattle.survey_core.specs.Survey.{survey_from, vertex_count}
use Rattle.floor_rule.specs.Ascent.{max_arcs, max_cost, lesser, arc_count, flagged, enters_at, reaching, least_rest, loaded, State, missing, raised, raised_by, visit, visit_member, visit_members, visit_group, visit_groups, passes, pass_count, prices, at_first, root_of, ascended, in_company, shares_after}
use Rattle.floor_rule.proofs.Laws.Root.{company_member}
use Rattle.floor_rule.proofs.Laws.Cut.{loaded_at}
use Rattle.floor_rule.proofs.Laws.Ascent.{share_limit}
use Rattle.floor_core.specs.Laws.State.{AsLong, members_long, groups_long, passes_long}

-- ---- counts

pub count_grows : (n : ℕ) (t u : ℕ → Bool) → ((i : ℕ) → i < n → t i ≡ true → u i ≡ true) → count_below n t ≤ count_below n u
unfolding count_below
count_grows n t u h = sum_le n (λ i. counted (t i) 1) (λ i. counted (u i) 1) (λ i b. counted_mono (t i) (u i) 1 (h i b))

pub count_more_than : (n : ℕ) (t u : ℕ → Bool) (i : ℕ) → i < n → ((j : ℕ) → j < n → t j ≡ true → u j ≡ true) → t i ≡ false → u i ≡ true → count_below n t < count_below n u
unfolding count_below sum_below
count_more_than zero t u i b h before after = absurd (omega arith)
count_more_than (suc n) t u i b h before after =
    ⊎_elim
    (λ c. omega (arith, count_more_than n t u i c (λ j d. h j (omega arith)) before after, counted_mono (t n) (u n) 1 (h n (omega arith))))
    (λ e. omega (
      arith,
      count_grows n t u (λ j d. h j (omega arith)),
      counted_false (subst (λ k. t k ≡ false) e before) 1,
      counted_true (subst (λ k. u k ≡ true) e after) 1,
    ))
    (below_suc i n b)

-- ---- a raise

module _ (firsts seconds : List ℕ) where
  -- The least is the cap, or the rest of an arc that enters.
  pub record Least (rests flags : List ℕ) (least n : ℕ) : Type 0 where
    pub arc : ℕ
    pub below : arc < n
    pub entered : enters_at firsts seconds flags arc ≡ true
    pub is : get_or rests arc 0 ≡ least

  pub least_found : (rests flags : List ℕ) (cap n : ℕ) → (least_rest firsts seconds rests flags cap n ≡ cap) ⊎ Least rests flags (least_rest firsts seconds rests flags cap n) n
  unfolding least_rest lesser
  least_found rests flags cap zero = inl refl
  least_found rests flags cap (suc a) = by (least_found rests flags cap a) (either (enters_at firsts seconds flags a)) (either (ltb (get_or rests a 0) least))
    where
      least : ℕ
      least = least_rest firsts seconds rests flags cap a

      later : Least rests flags least a → Least rests flags least (suc a)
      later x = let b : x.arc < a = x.below in record { arc = x.arc; below = omega arith; entered = x.entered; is = x.is }

      by : (least ≡ cap) ⊎ Least rests flags least a → (enters_at firsts seconds flags a ≡ true) ⊎ (enters_at firsts seconds flags a ≡ false)
          → (ltb (get_or rests a 0) least ≡ true) ⊎ (ltb (get_or rests a 0) least ≡ false)
          → (least_rest firsts seconds rests flags cap (suc a) ≡ cap) ⊎ Least rests flags (least_rest firsts seconds rests flags cap (suc a)) (suc a)
      by x (inl e) (inl c) = rw (e, c) (inr (record { arc = a; below = omega arith; entered = e; is = refl }))
      by (inl x) (inl e) (inr c) = rw (e, c) (inl x)
      by (inr x) (inl e) (inr c) = rw (e, c) (inr (later x))
      by (inl x) (inr e) c = rw e (inl x)
      by (inr x) (inr e) c = rw e (inr (later x))

  -- A raise by 0 changes nothing.
  set_still : (got : List ℕ) (l : ℕ) → set got l (get_or got l 0 + 0) ≡ got
  set_still got l =
      ext_get_or 0 (set got l (get_or got l 0 + 0)) got (length-set got l (get_or got l 0 + 0))
      (λ i b. by i (subst (λ n. i < n) (length-set got l (get_or got l 0 + 0)) b) (ℕ_discrete i l))
    where
      by : (i : ℕ) → i < length got → Dec (i ≡ l) → get_or (set got l (get_or got l 0 + 0)) i 0 ≡ get_or got i 0
      by i b (no other) = get_or-set_other got l i (get_or got l 0 + 0) 0 other
      by i b (yes same) =
          subst (λ j. get_or (set got l (get_or got l 0 + 0)) j 0 ≡ get_or got j 0) (sym same)
          (omega (arith, get_or-set_same got l (get_or got l 0 + 0) 0 (subst (λ j. j < length got) same b)))

  raise_nothing : (flags : List ℕ) (l : ℕ) (s : State) → raised firsts seconds flags l 0 s ≡ s
  unfolding raised loaded
  raise_nothing flags l s =
      let first = remade_still (λ a rest. rest - counted (enters_at firsts seconds flags a) 0) (arc_count firsts) s.rests (λ a x. omega (arith, counted_zero (enters_at firsts seconds flags a))) in
      let second = set_still s.got l in
      λ i. record { rests = first i; got = second i }

  module _ (share : List ℕ) where
    -- Arcs without rest, groups that have got a share, and both.
    abbrev bare : List ℕ → ℕ → Bool
    bare rests a = eqb (get_or rests a 0) 0

    abbrev served : List ℕ → ℕ → Bool
    served got l = not (eqb (get_or share l 0) 0) && eqb (missing share got l) 0

    progress : State → ℕ
    progress s = count_below (arc_count firsts) (bare s.rests) + count_below group_numbers (served s.got)

    -- Long enough for all arcs and groups.
    record Long (s : State) : Type 0 where
      rests : arc_count firsts ≤ length s.rests
      got : group_numbers ≤ length s.got

    long_as : {s t : State} → AsLong s t → Long s → Long t
    long_as h x = record { rests = subst (λ n. arc_count firsts ≤ n) (sym h.rests) x.rests; got = subst (λ n. group_numbers ≤ n) (sym h.got) x.got }

    -- Nothing changed, or progress.
    Moves : State → State → Type 0
    Moves s t = (t ≡ s) ⊎ (progress s < progress t)

    moves_then : (s t u : State) → Moves s t → Moves t u → Moves s u
    unfolding Moves
    moves_then s t u (inl e) (inl f) = inl (f ∙ e)
    moves_then s t u (inl e) (inr f) = inr (subst (λ x. progress x < progress u) e f)
    moves_then s t u (inr e) (inl f) = inr (subst (λ x. progress s < progress x) (sym f) e)
    moves_then s t u (inr e) (inr f) = inr (omega (arith, e, f))

    module _ (flags : List ℕ) (l d : ℕ) (s : State) (long : Long s) (b : l < group_numbers) where
      abbrev after : State
      after = raised firsts seconds flags l d s

      rest_after : (a : ℕ) → a < arc_count firsts → get_or (raised firsts seconds flags l d s).rests a 0 ≡ get_or s.rests a 0 - counted (enters_at firsts seconds flags a) d
      unfolding raised
      rest_after a c = loaded_at firsts seconds flags d a s.rests c long.rests

      got_after : get_or (raised firsts seconds flags l d s).got l 0 ≡ get_or s.got l 0 + d
      unfolding raised
      got_after = let w : group_numbers ≤ length s.got = long.got in get_or-set_same s.got l (get_or s.got l 0 + d) 0 (omega arith)

      got_other : (i : ℕ) → (i ≡ l → ⊥) → get_or (raised firsts seconds flags l d s).got i 0 ≡ get_or s.got i 0
      unfolding raised
      got_other i other = get_or-set_other s.got l i (get_or s.got l 0 + d) 0 other

      got_grows : (i : ℕ) → get_or s.got i 0 ≤ get_or (raised firsts seconds flags l d s).got i 0
      got_grows i = by (ℕ_discrete i l)
        where
          by : Dec (i ≡ l) → get_or s.got i 0 ≤ get_or after.got i 0
          by (no other) = omega (arith, got_other i other)
          by (yes same) = subst (λ j. get_or s.got j 0 ≤ get_or after.got j 0) (sym same) (omega (arith, got_after))

      bare_stays : (a : ℕ) → a < arc_count firsts → bare s.rests a ≡ true → bare (raised firsts seconds flags l d s).rests a ≡ true
      bare_stays a c h = eq-eqb (get_or after.rests a 0) 0 (omega (arith, rest_after a c, eqb-true (get_or s.rests a 0) 0 h))

      served_stays : (i : ℕ) → i < group_numbers → served s.got i ≡ true → served (raised firsts seconds flags l d s).got i ≡ true
      served_stays i c h =
          and_both (not (eqb (get_or share i 0) 0)) (eqb (missing share after.got i) 0)
          (and_left (not (eqb (get_or share i 0) 0)) (eqb (missing share s.got i) 0) h)
          (eq-eqb (missing share after.got i) 0
          (omega (arith, got_grows i, eqb-true (missing share s.got i) 0 (and_right (not (eqb (get_or share i 0) 0)) (eqb (missing share s.got i) 0) h))))

      bare_grows : count_below (arc_count firsts) (bare s.rests) ≤ count_below (arc_count firsts) (bare (raised firsts seconds flags l d s).rests)
      bare_grows = count_grows (arc_count firsts) (bare s.rests) (bare after.rests) bare_stays

      served_grows : count_below group_numbers (served s.got) ≤ count_below group_numbers (served (raised firsts seconds flags l d s).got)
      served_grows = count_grows group_numbers (served s.got) (served after.got) served_stays

      -- The share is reached.
      serves : (missing share s.got l ≡ 0 → ⊥) → d ≡ missing share s.got l → progress s < progress (raised firsts seconds flags l d s)
      unfolding progress
      serves lacks whole =
          let some : get_or share l 0 ≡ 0 → ⊥ = λ z. lacks (omega arith) in
          let before : served s.got l ≡ false = not_both (not (eqb (get_or share l 0) 0)) (eqb (missing share s.got l) 0) (ne_eqb (missing share s.got l) 0 lacks) in
          let now : missing share after.got l ≡ 0 = omega (arith, got_after, whole) in
          let reached : served after.got l ≡ true =
          and_both (not (eqb (get_or share l 0) 0)) (eqb (missing share after.got l) 0) (not_of_false (eqb (get_or share l 0) 0) (ne_eqb (get_or share l 0) 0 some)) (eq-eqb (missing share after.got l) 0 now) in
          omega (arith, bare_grows, count_more_than group_numbers (served s.got) (served after.got) l b served_stays before reached)
        where
          not_both : (x y : Bool) → y ≡ false → (x && y) ≡ false
          not_both true y h = h
          not_both false y h = refl

      -- An arc has no rest left.
      bares : (d ≡ 0 → ⊥) → Least s.rests flags d (arc_count firsts) → progress s < progress (raised firsts seconds flags l d s)
      unfolding progress
      bares positive x =
          let before : bare s.rests x.arc ≡ false = ne_eqb (get_or s.rests x.arc 0) 0 (λ z. positive (sym x.is ∙ z)) in
          let now : bare after.rests x.arc ≡ true =
          eq-eqb (get_or after.rests x.arc 0) 0 (omega (arith, rest_after x.arc x.below, counted_true x.entered d, x.is)) in
          omega (arith, served_grows, count_more_than (arc_count firsts) (bare s.rests) (bare after.rests) x.arc x.below bare_stays before now)

    raised_moves : (flags : List ℕ) (root l : ℕ) (s : State) → Long s → l < group_numbers → (missing share s.got l ≡ 0 → ⊥) → Moves s (raised_by firsts seconds flags share root l s)
    unfolding raised_by Moves
    raised_moves flags root l s long b lacks = by (either (flagged flags root)) (ℕ_discrete d 0) (least_found s.rests flags (missing share s.got l) (arc_count firsts))
      where
        d : ℕ
        d = least_rest firsts seconds s.rests flags (missing share s.got l) (arc_count firsts)

        by : (flagged flags root ≡ true) ⊎ (flagged flags root ≡ false) → Dec (d ≡ 0) → (d ≡ missing share s.got l) ⊎ Least s.rests flags d (arc_count firsts)
            → Moves s (cond (flagged flags root) s (raised firsts seconds flags l d s))
        by (inl r) z x = rw r (inl refl)
        by (inr r) (yes z) x = rw r (inl (ap (λ e. raised firsts seconds flags l e s) z ∙ raise_nothing flags l s))
        by (inr r) (no z) (inl x) = rw r (inr (serves flags l d s long b lacks x))
        by (inr r) (no z) (inr x) = rw r (inr (bares flags l d s long b z x))

    visit_moves : (n root l v : ℕ) (s : State) → Long s → l < group_numbers → Moves s (visit firsts seconds share n root l v s)
    unfolding visit Moves
    visit_moves n root l v s long b = by (either (eqb (missing share s.got l) 0))
      where
        by : (eqb (missing share s.got l) 0 ≡ true) ⊎ (eqb (missing share s.got l) 0 ≡ false)
            → Moves s (cond (eqb (missing share s.got l) 0) s (raised_by firsts seconds (reaching firsts seconds s.rests n v) share root l s))
        by (inl z) = rw z (inl refl)
        by (inr z) = rw z (raised_moves (reaching firsts seconds s.rests n v) root l s long b (eqb-false (missing share s.got l) 0 z))

    module _ (groups : List ℕ) (root : ℕ) where
      member_moves : (l v : ℕ) (s : State) → Long s → l < group_numbers → Moves s (visit_member groups firsts seconds share root l v s)
      unfolding visit_member Moves
      member_moves l v s long b = by (either (eqb (get_or groups v 0) l))
        where
          by : (eqb (get_or groups v 0) l ≡ true) ⊎ (eqb (get_or groups v 0) l ≡ false) → Moves s (cond (eqb (get_or groups v 0) l) (visit firsts seconds share (length groups) root l v s) s)
          by (inl e) = rw e (visit_moves (length groups) root l v s long b)
          by (inr e) = rw e (inl refl)

      members_move : (l i : ℕ) (s : State) → Long s → l < group_numbers → Moves s (visit_members groups firsts seconds share root l i s)
      unfolding visit_members Moves
      members_move l zero s long b = inl refl
      members_move l (suc v) s long b =
          let t : State = visit_members groups firsts seconds share root l v s in
          moves_then s t (visit_member groups firsts seconds share root l v t) (members_move l v s long b)
          (member_moves l v t (long_as (members_long firsts seconds groups share root l v s) long) b)

      group_moves : (k l : ℕ) (s : State) → Long s → l < group_numbers → Moves s (visit_group groups firsts seconds share root k l s)
      unfolding visit_group Moves
      group_moves k l s long b = by (either (ltb l k || eqb (missing share s.got l) 0))
        where
          by : ((ltb l k || eqb (missing share s.got l) 0) ≡ true) ⊎ ((ltb l k || eqb (missing share s.got l) 0) ≡ false)
              → Moves s (cond (ltb l k || eqb (missing share s.got l) 0) s (visit_members groups firsts seconds share root l (length groups) s))
          by (inl e) = rw e (inl refl)
          by (inr e) = rw e (members_move l (length groups) s long b)

      groups_move : (k i : ℕ) (s : State) → Long s → i ≤ group_numbers → Moves s (visit_groups groups firsts seconds share root k i s)
      unfolding visit_groups Moves
      groups_move k zero s long b = inl refl
      groups_move k (suc l) s long b =
          let t : State = visit_groups groups firsts seconds share root k l s in
          moves_then s t (visit_group groups firsts seconds share root k l t) (groups_move k l s long (omega arith))
          (group_moves k l t (long_as (groups_long firsts seconds groups share root k l s) long) (omega arith))

      -- After i passes one more changes nothing, or has made more than i steps of progress.
      passes_move : (k i : ℕ) (s : State) → Long s
          → (visit_groups groups firsts seconds share root k group_numbers (passes groups firsts seconds share root k i s) ≡ passes groups firsts seconds share root k i s)
          ⊎ (i < progress (visit_groups groups firsts seconds share root k group_numbers (passes groups firsts seconds share root k i s)))
      unfolding passes Moves
      passes_move k zero s long = ⊎_elim (λ e. inl e) (λ h. inr (omega (arith, h))) (groups_move k group_numbers s long (omega arith))
      passes_move k (suc i) s long = by (passes_move k i s long) (groups_move k group_numbers next (long_as (passes_long firsts seconds groups share root k (suc i) s) long) (omega arith))
        where
          now : State
          now = passes groups firsts seconds share root k i s

          next : State
          next = visit_groups groups firsts seconds share root k group_numbers now

          by : (next ≡ now) ⊎ (i < progress next) → Moves next (visit_groups groups firsts seconds share root k group_numbers next)
              → (visit_groups groups firsts seconds share root k group_numbers next ≡ next) ⊎ (suc i < progress (visit_groups groups firsts seconds share root k group_numbers next))
          by x (inl e) = inl e
          by (inl x) (inr m) = inl (ap (visit_groups groups firsts seconds share root k group_numbers) x)
          by (inr x) (inr m) = inr (omega (arith, x, m))

    -- There is no more progress than arcs and groups in company.
    progress_limit : (groups : List ℕ) → ((l : ℕ) → l < group_numbers → (get_or share l 0 ≡ 0 → ⊥) → in_company groups l ≡ true) → (s : State) → progress s ≤ pass_count groups firsts
    unfolding progress
    progress_limit groups shared s =
        omega (
          arith,
          count_le (arc_count firsts) (bare s.rests),
          count_grows group_numbers (served s.got) (λ l. any_below (length groups) (λ v. true && eqb (get_or groups v 0) l)) members,
          count_labels group_numbers (length groups) (λ v. true) (λ v. get_or groups v 0),
          count_le (length groups) (λ v. true),
        )
      where
        members : (l : ℕ) → l < group_numbers → served s.got l ≡ true → any_below (length groups) (λ v. true && eqb (get_or groups v 0) l) ≡ true
        members l b h =
            let some : get_or share l 0 ≡ 0 → ⊥ = eqb-false (get_or share l 0) 0 (not-true (eqb (get_or share l 0) 0) (and_left (not (eqb (get_or share l 0) 0)) (eqb (missing share s.got l) 0) h)) in
            let x : Found (length groups) (λ v. eqb (get_or groups v 0) l) = company_member groups l (shared l b some) in
            any_intro (length groups) (λ v. true && eqb (get_or groups v 0) l) x.at x.below x.passes

module _ (groups firsts seconds weights : List ℕ) (few : length groups ≤ max_vertices) (edges_few : length firsts ≤ max_edges) where
  first_long : (share : List ℕ) → Long firsts seconds share (at_first firsts weights)
  unfolding at_first prices
  first_long share =
      record {
        rests = subst (λ n. arc_count firsts ≤ n) (sym (length_remade _ (arc_count firsts) (replicate max_arcs 0) ∙ length-replicate {A = ℕ} max_arcs 0)) (omega arith);
        got = subst (λ n. group_numbers ≤ n) (sym (length-replicate {A = ℕ} group_numbers 0)) (omega arith);
      }

  share_company : (j l : ℕ) → l < group_numbers → (get_or (shares_after groups firsts seconds weights j) l 0 ≡ 0 → ⊥) → in_company groups l ≡ true
  unfolding vertex_count
  share_company j l b some = by (either (in_company groups l))
    where
      by : (in_company groups l ≡ true) ⊎ (in_company groups l ≡ false) → in_company groups l ≡ true
      by (inl h) = h
      by (inr h) =
          absurd (some (omega (arith, share_limit (survey_from groups firsts seconds weights) groups refl few edges_few j l b, counted_false h max_cost)))

  -- One pass more changes nothing, in the list of each group.
  pub passes_suffice : (j k : ℕ) →
      visit_groups groups firsts seconds (shares_after groups firsts seconds weights j) (root_of groups k) k group_numbers
      (ascended groups firsts seconds weights (shares_after groups firsts seconds weights j) k)
      ≡ ascended groups firsts seconds weights (shares_after groups firsts seconds weights j) k
  unfolding ascended
  passes_suffice j k =
      ⊎_elim
      (λ e. e)
      (λ h. absurd (omega (arith, h, progress_limit firsts seconds share groups (share_company j) after)))
      (passes_move firsts seconds share groups (root_of groups k) k (pass_count groups firsts) (at_first firsts weights) (first_long share))
    where
      share : List ℕ
      share = shares_after groups firsts seconds weights j

      after : State
      after =
          visit_groups groups firsts seconds share (root_of groups k) k group_numbers
          (passes groups firsts seconds share (root_of groups k) k (pass_count groups firsts) (at_first firsts weights))
