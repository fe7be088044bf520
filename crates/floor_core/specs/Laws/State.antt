-- The state of a list after one visit, one group and one pass more, and that no step changes how long it is.
use Prim.Native.Nat.{ℕ, zero, suc, ◌+◌, ◌-◌, ◌^◌, ◌≤◌, ◌<◌}
use native.Mathlib.Omega.{arith}
use Rattle.std.proofs.Common.{add-one, sym, ◌∙◌}
use Rattle.std.specs.Prelude.{◌≡◌, Option, Some, None, Bool, ◌||◌, length, replicate, ltb}
use Rattle.std.proofs.Math.Path.{refl, ap}
use Rattle.std.proofs.Math.Bool.{true, false, cond}
use mathlib.Core.List.{List}
use Rattle.std.proofs.Math.ListN.{get_or, set, length-set}
use Rattle.std.proofs.Math.Dec.{eqb}
use borrow.Author.Tests.{eq-eqb, ne_eqb, lt-ltb, le-ltb}
use Rattle.base_buffer.proofs.Laws.Store.{length_remade}
use Rattle.base_limits.specs.Limits.{group_numbers}
use Rattle.floor_rule.specs.Ascent.{arc_count, flagged, reaching, least_rest, loaded, State, state_with, missing, raised, raised_by, visit, visit_member, visit_members, visit_group, visit_groups, passes, pass_count, prices, root_of, at_first, ascended}
use Rattle.floor_rule.proofs.Laws.Cut.{least_cap}
use Rattle.floor_core.specs.Chain.{CutRaised}

-- As long as before.
pub record AsLong (s t : State) : Type 0 where
  pub rests : length t.rests ≡ length s.rests
  pub got : length t.got ≡ length s.got

as_long : (s : State) → AsLong s s
as_long s = record { rests = refl; got = refl }

then_long : {s t u : State} → AsLong s t → AsLong t u → AsLong s u
then_long h k = record { rests = k.rests ∙ h.rests; got = k.got ∙ h.got }

cond_long : (b : Bool) (s t u : State) → AsLong s t → AsLong s u → AsLong s (cond b t u)
cond_long true s t u h k = h
cond_long false s t u h k = k

pub missing_none : (share got : List ℕ) (l : ℕ) {x y : ℕ} → x ≡ get_or share l 0 → y ≡ get_or got l 0 → x ≤ y → 0 ≡ missing share got l
missing_none share got l x_is y_is h = omega (arith, x_is, y_is, h)

pub missing_some : (share got : List ℕ) (l : ℕ) {x y : ℕ} → x ≡ get_or share l 0 → y ≡ get_or got l 0 → x - y ≡ missing share got l
missing_some share got l x_is y_is = omega (arith, x_is, y_is)

module _ (firsts seconds : List ℕ) where
  module _ (flags : List ℕ) where
    raised_long : (l d : ℕ) (s : State) → AsLong s (raised firsts seconds flags l d s)
    unfolding raised loaded
    raised_long l d s = record { rests = length_remade _ (arc_count firsts) s.rests; got = length-set s.got l (get_or s.got l 0 + d) }

    by_long : (share : List ℕ) (root l : ℕ) (s : State) → AsLong s (raised_by firsts seconds flags share root l s)
    unfolding raised_by
    by_long share root l s =
        cond_long (flagged flags root) s s _ (as_long s)
        (raised_long l (least_rest firsts seconds s.rests flags (missing share s.got l) (arc_count firsts)) s)

  module _ (share : List ℕ) (n root l v : ℕ) (s : State) where
    pub visit_passed : {x : ℕ} → x ≡ missing share s.got l → x ≡ 0 → s ≡ visit firsts seconds share n root l v s
    unfolding visit
    visit_passed x_is none = rw (eq-eqb (missing share s.got l) 0 (sym x_is ∙ none))

    -- A visit changes nothing where the root is inside.
    pub visit_inside : flagged (reaching firsts seconds s.rests n v) root ≡ true → s ≡ visit firsts seconds share n root l v s
    unfolding visit raised_by
    visit_inside inside = rw inside (by (eqb (missing share s.got l) 0))
      where
        by : (t : Bool) → s ≡ cond t s s
        by true = refl
        by false = refl

    pub visit_long : AsLong s (visit firsts seconds share n root l v s)
    unfolding visit
    visit_long =
        cond_long (eqb (missing share s.got l) 0) s s _ (as_long s) (by_long (reaching firsts seconds s.rests n v) share root l s)

  -- A visit by the cut that it raises.
  module _ (share : List ℕ) (n root l v : ℕ) (rests got : List ℕ) {cap : ℕ} {raised : Option ℕ} {after : List ℕ} (cut : CutRaised firsts seconds n root v cap rests after raised) where
    pub same_inside : raised ≡ None → state_with after got ≡ state_with rests got
    same_inside told = ap (λ (r : List ℕ). state_with r got) (cut.root_inside told).1

    module _ {by : ℕ} (told : raised ≡ Some by) (cap_is : cap ≡ missing share got l) where
      -- What a cut adds to what a group has got fits where its share does.
      pub cut_fits : {x : ℕ} → x ≡ get_or got l 0 → get_or share l 0 < 2 ^ 64 → x < 2 ^ 64 → x + by < 2 ^ 64
      cut_fits x_is whole part =
          omega (arith, cap_is, (cut.root_outside by told).1, whole, part, x_is, least_cap firsts seconds rests (reaching firsts seconds rests n v) cap (arc_count firsts))

      pub visit_raised : {x y : ℕ} {got_after : List ℕ} → (cap ≡ 0 → ⊥) → x ≡ get_or got l 0 → y ≡ x + by → got_after ≡ set got l y
          → state_with after got_after ≡ visit firsts seconds share n root l v (state_with rests got)
      unfolding visit raised_by raised
      visit_raised {got_after = got_after} some x_is y_is got_is =
          let flags : List ℕ = reaching firsts seconds rests n v in
          let by_is : by ≡ least_rest firsts seconds rests flags (missing share got l) (arc_count firsts) =
          (cut.root_outside by told).1 ∙ ap (λ c. least_rest firsts seconds rests flags c (arc_count firsts)) cap_is in
          let first : after ≡ loaded firsts seconds flags (least_rest firsts seconds rests flags (missing share got l) (arc_count firsts)) rests =
          (cut.root_outside by told).2 ∙ ap (λ d. loaded firsts seconds flags d rests) by_is in
          let second : got_after ≡ set got l (get_or got l 0 + least_rest firsts seconds rests flags (missing share got l) (arc_count firsts)) =
          got_is ∙ ap (set got l) (y_is ∙ ap (λ z. z + by) x_is ∙ ap (λ z. get_or got l 0 + z) by_is) in
          rw (ne_eqb (missing share got l) 0 (λ z. some (cap_is ∙ z)), (cut.root_outside by told).0) (λ i. record { rests = first i; got = second i })

  module _ (groups share : List ℕ) (root : ℕ) where
    module _ (l v : ℕ) (s : State) where
      pub member_passed : {x : ℕ} → x ≡ get_or groups v 0 → (x ≡ l → ⊥) → s ≡ visit_member groups firsts seconds share root l v s
      unfolding visit_member
      member_passed x_is other = rw (ne_eqb (get_or groups v 0) l (λ e. other (x_is ∙ e)))

      pub member_visited : {x : ℕ} {t : State} → x ≡ get_or groups v 0 → x ≡ l → t ≡ visit firsts seconds share (length groups) root l v s
          → t ≡ visit_member groups firsts seconds share root l v s
      unfolding visit_member
      member_visited x_is same t_is = rw (eq-eqb (get_or groups v 0) l (sym x_is ∙ same)) t_is

      pub member_long : AsLong s (visit_member groups firsts seconds share root l v s)
      unfolding visit_member
      member_long = cond_long (eqb (get_or groups v 0) l) s _ s (visit_long share (length groups) root l v s) (as_long s)

    pub members_more : (l v : ℕ) (start : State) {now next : State} → now ≡ visit_members groups firsts seconds share root l v start
        → next ≡ visit_member groups firsts seconds share root l v now → next ≡ visit_members groups firsts seconds share root l (v + 1) start
    unfolding visit_members
    members_more l v start h k =
        k ∙ ap (visit_member groups firsts seconds share root l v) h ∙ ap (λ i. visit_members groups firsts seconds share root l i start) (sym (add-one v))

    pub members_end : (l n v : ℕ) (start : State) {now : State} → v ≤ n → n ≤ v → now ≡ visit_members groups firsts seconds share root l v start
        → now ≡ visit_members groups firsts seconds share root l n start
    members_end l n v start b c h = let e : v ≡ n = omega arith in h ∙ ap (λ i. visit_members groups firsts seconds share root l i start) e

    pub members_long : (l i : ℕ) (s : State) → AsLong s (visit_members groups firsts seconds share root l i s)
    unfolding visit_members
    members_long l zero s = as_long s
    members_long l (suc v) s = then_long (members_long l v s) (member_long l v (visit_members groups firsts seconds share root l v s))

    module _ (k l : ℕ) (s : State) where
      pub group_below : l < k → s ≡ visit_group groups firsts seconds share root k l s
      unfolding visit_group
      group_below b = rw (lt-ltb l k b)

      pub group_passed : {x : ℕ} → k ≤ l → x ≡ missing share s.got l → x ≡ 0 → s ≡ visit_group groups firsts seconds share root k l s
      unfolding visit_group
      group_passed b x_is none = rw (le-ltb l k b, eq-eqb (missing share s.got l) 0 (sym x_is ∙ none))

      pub group_visited : {x : ℕ} {t : State} → k ≤ l → x ≡ missing share s.got l → (x ≡ 0 → ⊥)
          → t ≡ visit_members groups firsts seconds share root l (length groups) s → t ≡ visit_group groups firsts seconds share root k l s
      unfolding visit_group
      group_visited b x_is some t_is = rw (le-ltb l k b, ne_eqb (missing share s.got l) 0 (λ z. some (x_is ∙ z))) t_is

      pub group_long : AsLong s (visit_group groups firsts seconds share root k l s)
      unfolding visit_group
      group_long = cond_long (ltb l k || eqb (missing share s.got l) 0) s s _ (as_long s) (members_long l (length groups) s)

    pub groups_more : (k l : ℕ) (start : State) {now next : State} → now ≡ visit_groups groups firsts seconds share root k l start
        → next ≡ visit_group groups firsts seconds share root k l now → next ≡ visit_groups groups firsts seconds share root k (l + 1) start
    unfolding visit_groups
    groups_more k l start h e =
        e ∙ ap (visit_group groups firsts seconds share root k l) h ∙ ap (λ i. visit_groups groups firsts seconds share root k i start) (sym (add-one l))

    pub groups_end : (k n l : ℕ) (start : State) {now : State} → l ≤ n → n ≤ l → now ≡ visit_groups groups firsts seconds share root k l start
        → now ≡ visit_groups groups firsts seconds share root k n start
    groups_end k n l start b c h = let e : l ≡ n = omega arith in h ∙ ap (λ i. visit_groups groups firsts seconds share root k i start) e

    pub groups_long : (k i : ℕ) (s : State) → AsLong s (visit_groups groups firsts seconds share root k i s)
    unfolding visit_groups
    groups_long k zero s = as_long s
    groups_long k (suc l) s = then_long (groups_long k l s) (group_long k l (visit_groups groups firsts seconds share root k l s))

    pub passes_more : (k i : ℕ) (start : State) {now next : State} → now ≡ passes groups firsts seconds share root k i start
        → next ≡ visit_groups groups firsts seconds share root k group_numbers now → next ≡ passes groups firsts seconds share root k (i + 1) start
    unfolding passes
    passes_more k i start h e =
        e ∙ ap (visit_groups groups firsts seconds share root k group_numbers) h ∙ ap (λ j. passes groups firsts seconds share root k j start) (sym (add-one i))

    pub passes_end : (k n i : ℕ) (start : State) {now : State} → i ≤ n → n ≤ i → now ≡ passes groups firsts seconds share root k i start
        → now ≡ passes groups firsts seconds share root k n start
    passes_end k n i start b c h = let e : i ≡ n = omega arith in h ∙ ap (λ j. passes groups firsts seconds share root k j start) e

    pub passes_long : (k i : ℕ) (s : State) → AsLong s (passes groups firsts seconds share root k i s)
    unfolding passes
    passes_long k zero s = as_long s
    passes_long k (suc i) s = then_long (passes_long k i s) (groups_long k group_numbers (passes groups firsts seconds share root k i s))

    -- What a pass leaves as it was every later one does.
    passes_still : (k : ℕ) (start : State) → visit_groups groups firsts seconds share root k group_numbers start ≡ start → (i : ℕ)
        → passes groups firsts seconds share root k i start ≡ start
    unfolding passes
    passes_still k start h zero = refl
    passes_still k start h (suc i) = ap (visit_groups groups firsts seconds share root k group_numbers) (passes_still k start h i) ∙ h

    passes_add : (k i j : ℕ) (start : State)
        → passes groups firsts seconds share root k (j + i) start ≡ passes groups firsts seconds share root k j (passes groups firsts seconds share root k i start)
    unfolding passes
    passes_add k i zero start = ap (λ n. passes groups firsts seconds share root k n start) zero_add
      where
        zero_add : zero + i ≡ i
        zero_add = omega arith
    passes_add k i (suc j) start =
        ap (λ n. passes groups firsts seconds share root k n start) next ∙ ap (visit_groups groups firsts seconds share root k group_numbers) (passes_add k i j start)
      where
        next : suc j + i ≡ suc (j + i)
        next = omega arith

    pub passes_ended : (k i n : ℕ) (start : State) {now next : State} → i ≤ n → now ≡ passes groups firsts seconds share root k i start
        → next ≡ visit_groups groups firsts seconds share root k group_numbers now → next ≡ now → next ≡ passes groups firsts seconds share root k n start
    passes_ended k i n start {now} {next} b h e still =
        let apart : n - i + i ≡ n = omega arith in
        still ∙ sym (passes_still k now (sym e ∙ still) (n - i)) ∙ ap (passes groups firsts seconds share root k (n - i)) h ∙ sym (passes_add k i (n - i) start)
        ∙ ap (λ j. passes groups firsts seconds share root k j start) apart

pub ascended_is : (groups firsts seconds weights share : List ℕ) (k : ℕ) {rests after got : List ℕ} {root limit : ℕ} → rests ≡ prices firsts weights → root ≡ root_of groups k
    → limit ≡ pass_count groups firsts → state_with after got ≡ passes groups firsts seconds share root k limit (state_with rests (replicate group_numbers 0))
    → got ≡ (ascended groups firsts seconds weights share k).got
unfolding ascended at_first
ascended_is groups firsts seconds weights share k {root = root} {limit = limit} rests_are root_is limit_is h =
    ap (λ (s : State). s.got)
    (h ∙ ap (λ (r : List ℕ). passes groups firsts seconds share root k limit (state_with r (replicate group_numbers 0))) rests_are
    ∙ ap (λ r. passes groups firsts seconds share r k limit (state_with (prices firsts weights) (replicate group_numbers 0))) root_is
    ∙ ap (λ n. passes groups firsts seconds share (root_of groups k) k n (state_with (prices firsts weights) (replicate group_numbers 0))) limit_is)
