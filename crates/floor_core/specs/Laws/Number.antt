-- The numbers of the ascent's groups, read one after the other, and the groups over the poured lists.
use Rattle.std.specs.Prelude.{ℕ, ◌+◌, ◌-◌, ◌≤◌, ◌<◌, ◌≡◌, refl, take, set, replicate, eqb}
use Rattle.std.proofs.Common.{arith, add-one, sym, ◌∙◌, subst, ext_get_or, get_or-take, length-take-le, get_or-set_same, get_or-set_other}
use Rattle.std.proofs.Math.Decide.{ℕ_discrete}
use Rattle.std.proofs.Math.Nat.{sub-zero}
use Rattle.std.proofs.Math.Path.{ap}
use Rattle.std.proofs.Math.Bool.{cond}
use mathlib.Core.List.{List}
use Rattle.std.proofs.Math.ListN.{length, get_or, length-set, length-replicate, get_or-replicate}
use borrow.Author.Tests.{eq-eqb, ne_eqb, lt-ltb, le-ltb}
use Rattle.base_finite.specs.Below.{counted, tabulate}
use Rattle.base_finite.specs.Laws.Below.{counted_true, counted_false, length_tabulate, get_d_tabulate}
use Rattle.base_buffer.specs.Store.{remade}
use Rattle.base_buffer.proofs.Laws.Store.{length_remade, remade_passed}
use Rattle.base_limits.specs.Limits.{max_vertices, group_numbers}
use Rattle.survey_core.specs.Survey.{Survey, lists_of}
use Rattle.survey_core.specs.Sound.{SurveySound}
use Rattle.survey_lists.specs.Pouring.{poured, room_of}
use Rattle.survey_lists.proofs.Laws.Room.{part_poured}
use Rattle.floor_rule.specs.Ascent.{ascent_floor}
use Rattle.floor_rule.specs.Number.{lower_number, lowest_own, lowest_paired, number_of, numbered_groups}
use Rattle.floor_rule.specs.Floor.{ascent_of}
use Rattle.floor_rule.proofs.Laws.Number.{length_numbered}
use Rattle.floor_core.specs.Chain.{Ends}
use Rattle.floor_core.specs.Tables.{OwnLows, PairedLows}
use Rattle.floor_core.specs.Laws.Chain.{survey_ends}

module _ (x y : ℕ) where
  pub lower_first : y ≡ 0 → x ≡ lower_number x y
  unfolding lower_number
  lower_first h = rw (eq-eqb y 0 h)

  pub lower_second : (y ≡ 0 → ⊥) → x ≡ 0 → y ≡ lower_number x y
  unfolding lower_number
  lower_second some h = rw (ne_eqb y 0 some, eq-eqb x 0 h)

  pub lower_less : (y ≡ 0 → ⊥) → (x ≡ 0 → ⊥) → y < x → y ≡ lower_number x y
  unfolding lower_number
  lower_less some also h = rw (ne_eqb y 0 some, ne_eqb x 0 also, lt-ltb y x h)

  pub lower_more : (y ≡ 0 → ⊥) → (x ≡ 0 → ⊥) → x ≤ y → x ≡ lower_number x y
  unfolding lower_number
  lower_more some also h = rw (ne_eqb y 0 some, ne_eqb x 0 also, le-ltb y x h)

-- ---- the lowest numbers of all poured groups at once

-- One list more is noted at its poured group, and at no other.
noted : (lows : List ℕ) (c d number : ℕ) → c < length lows → get_or (set lows d (lower_number (get_or lows d 0) number)) c 0 ≡ lower_number (get_or lows c 0) (counted (eqb d c) number)
noted lows c d number low = by (ℕ_discrete c d)
  where
    by : Dec (c ≡ d) → get_or (set lows d (lower_number (get_or lows d 0) number)) c 0 ≡ lower_number (get_or lows c 0) (counted (eqb d c) number)
    by (yes e) =
        subst (λ k. get_or (set lows k (lower_number (get_or lows k 0) number)) c 0 ≡ lower_number (get_or lows c 0) (counted (eqb k c) number)) e
        (get_or-set_same lows c (lower_number (get_or lows c 0) number) 0 low ∙ ap (lower_number (get_or lows c 0)) (sym (counted_true (eq-eqb c c refl) number)))
    by (no e) =
        get_or-set_other lows d c (lower_number (get_or lows d 0) number) 0 e
        ∙ lower_first (get_or lows c 0) (counted (eqb d c) number) (counted_false (ne_eqb d c (λ h. e (sym h))) number)

pub noted_at : (lows : List ℕ) (d number : ℕ) {i x y k : ℕ} {next : List ℕ} → i ≡ d → x ≡ get_or lows i 0 → y ≡ lower_number x number → k ≡ d → next ≡ set lows k y
    → next ≡ set lows d (lower_number (get_or lows d 0) number)
noted_at lows d number {i} {x} {y} i_is x_is y_is k_is next_is =
    next_is ∙ ap (λ j. set lows j y) k_is ∙ ap (set lows d) (y_is ∙ ap (λ z. lower_number z number) (x_is ∙ ap (λ j. get_or lows j 0) i_is))

pub number_none : (lows : List ℕ) (c : ℕ) → c ≡ 0 → 0 ≡ cond (eqb c 0) 0 (get_or lows c 0)
number_none lows c h = rw (eq-eqb c 0 h)

pub number_some : (lows : List ℕ) (c : ℕ) {i r : ℕ} → (c ≡ 0 → ⊥) → i ≡ c → r ≡ get_or lows i 0 → r ≡ cond (eqb c 0) 0 (get_or lows c 0)
number_some lows c some i_is r_is = rw (ne_eqb c 0 some) (r_is ∙ ap (λ j. get_or lows j 0) i_is)

module _ (pours groups : List ℕ) where
  pub own_start : {lows : List ℕ} → lows ≡ replicate group_numbers 0 → OwnLows pours groups 0 lows
  unfolding lowest_own
  own_start h = record {
    long = ap length h ∙ length-replicate {A = ℕ} group_numbers 0;
    lowest = λ c b. ap (λ (l : List ℕ). get_or l c 0) h ∙ get_or-replicate group_numbers c 0 0 b;
  }

  pub own_more : (v : ℕ) {lows next : List ℕ} {d number : ℕ} → OwnLows pours groups v lows → d ≡ get_or pours v 0 → number ≡ get_or groups v 0
      → next ≡ set lows d (lower_number (get_or lows d 0) number) → OwnLows pours groups (v + 1) next
  unfolding lowest_own
  own_more v {lows} {next} {d} {number} h d_is number_is next_is = record {
    long = ap length next_is ∙ length-set lows d (lower_number (get_or lows d 0) number) ∙ h.long;
    lowest = λ c b.
        ap (λ (l : List ℕ). get_or l c 0) next_is
        ∙ noted lows c d number (subst (λ n. c < n) (sym h.long) b)
        ∙ ap (λ x. lower_number x (counted (eqb d c) number)) (h.lowest c b)
        ∙ ap (λ x. lower_number (lowest_own pours groups c v) (counted (eqb x c) number)) d_is
        ∙ ap (λ x. lower_number (lowest_own pours groups c v) (counted (eqb (get_or pours v 0) c) x)) number_is
        ∙ ap (lowest_own pours groups c) (sym (add-one v));
  }

  pub own_end : (n v : ℕ) {lows : List ℕ} → v ≤ n → n ≤ v → OwnLows pours groups v lows → OwnLows pours groups n lows
  own_end n v {lows} b d h = let e : v ≡ n = omega arith in subst (λ k. OwnLows pours groups k lows) e h

  module _ (owners others : List ℕ) where
    pub paired_start : {lows : List ℕ} → OwnLows pours groups (length groups) lows → PairedLows pours groups owners others 0 lows
    unfolding lowest_paired
    paired_start h = record { long = h.long; lowest = h.lowest }

    pub paired_more : (i : ℕ) {lows next : List ℕ} {v d number : ℕ} → PairedLows pours groups owners others i lows → v ≡ get_or owners i 0 → d ≡ get_or pours v 0 → number ≡ get_or others i 0
        → next ≡ set lows d (lower_number (get_or lows d 0) number) → PairedLows pours groups owners others (i + 1) next
    unfolding lowest_paired
    paired_more i {lows} {next} {v} {d} {number} h v_is d_is number_is next_is = record {
      long = ap length next_is ∙ length-set lows d (lower_number (get_or lows d 0) number) ∙ h.long;
      lowest = λ c b.
          ap (λ (l : List ℕ). get_or l c 0) next_is
          ∙ noted lows c d number (subst (λ n. c < n) (sym h.long) b)
          ∙ ap (λ x. lower_number x (counted (eqb d c) number)) (h.lowest c b)
          ∙ ap (λ x. lower_number (lowest_paired pours groups owners others c i) (counted (eqb x c) number)) (d_is ∙ ap (λ u. get_or pours u 0) v_is)
          ∙ ap (λ x. lower_number (lowest_paired pours groups owners others c i) (counted (eqb (get_or pours (get_or owners i 0) 0) c) x)) number_is
          ∙ ap (lowest_paired pours groups owners others c) (sym (add-one i));
    }

    pub paired_end : (n i : ℕ) {lows : List ℕ} → i ≤ n → n ≤ i → PairedLows pours groups owners others i lows → PairedLows pours groups owners others n lows
    paired_end n i {lows} b d h = let e : i ≡ n = omega arith in subst (λ k. PairedLows pours groups owners others k lows) e h

    pub number_is : {lows : List ℕ} → PairedLows pours groups owners others (length owners) lows → {c r : ℕ} (v : ℕ) → c ≡ get_or pours v 0 → c < group_numbers → r ≡ cond (eqb c 0) 0 (get_or lows c 0)
        → r ≡ number_of pours groups owners others (get_or pours v 0)
    unfolding number_of
    number_is {lows} h {c} v c_is low r_is =
        r_is ∙ ap (cond (eqb c 0) 0) (h.lowest c low) ∙ ap (λ x. cond (eqb x 0) 0 (lowest_paired pours groups owners others x (length owners))) c_is

pub at_end : (n v : ℕ) → v ≤ n → n ≤ v → v ≡ n
at_end n v b c = omega arith

-- The front of a table that was filled is the table of what was stored.
take_remade : (f : ℕ → ℕ) (n : ℕ) → n ≤ max_vertices → take (n - 0) (remade (λ v x. f v) n (replicate max_vertices 0)) ≡ tabulate n f
take_remade f n fits =
    let room : List ℕ = remade (λ v x. f v) n (replicate max_vertices 0) in
    let whole : length room ≡ max_vertices = length_remade (λ v x. f v) n (replicate max_vertices 0) ∙ length-replicate {A = ℕ} max_vertices 0 in
    let long : n ≤ length room = rw whole fits in
    let e : length (take n room) ≡ n = length-take-le n room long in
    rw (sub-zero n)
    (ext_get_or 0 (take n room) (tabulate n f) (e ∙ sym (length_tabulate n f))
    (λ k b.
    let c : k < n = omega arith in
    let in_table : k < length {A = ℕ} (replicate max_vertices 0) = rw (length-replicate {A = ℕ} max_vertices 0) (omega arith) in
    get_or-take n room k 0 c ∙ remade_passed (λ v x. f v) n (replicate max_vertices 0) k c in_table ∙ sym (get_d_tabulate n f k 0 c)))

-- The groups of the ascent, read from the buffer that numbering leaves.
module _ (s : Survey) (fits : length s.groups ≤ max_vertices) {pours room : List ℕ} (pours_are : pours ≡ room_of (length s.groups) (poured (lists_of s)))
    (room_is : room ≡ remade (λ v x. number_of (take (length s.groups - 0) pours) s.groups s.owners s.others (get_or (take (length s.groups - 0) pours) v 0))
    (length s.groups) (replicate max_vertices 0)) where
  part_numbered : take (length s.groups - 0) room ≡ numbered_groups (lists_of s)
  unfolding numbered_groups
  part_numbered =
      ap (take (length s.groups - 0)) room_is
      ∙ take_remade (λ v. number_of (take (length s.groups - 0) pours) s.groups s.owners s.others (get_or (take (length s.groups - 0) pours) v 0)) (length s.groups) fits
      ∙ ap (λ (p : List ℕ). tabulate (length s.groups) (λ v. number_of p s.groups s.owners s.others (get_or p v 0))) (part_poured (lists_of s) fits pours_are)

  pub ascent_is : {r : ℕ} → r ≡ ascent_floor (take (length s.groups - 0) room) s.firsts s.seconds s.weights → r ≡ ascent_of s
  unfolding ascent_of
  ascent_is h = h ∙ ap (λ (g : List ℕ). ascent_floor g s.firsts s.seconds s.weights) part_numbered

  pub numbered_ends : SurveySound s → Ends (length (take (length s.groups - 0) room)) s.firsts s.seconds
  numbered_ends sound =
      subst (λ n. Ends n s.firsts s.seconds) (sym (ap length part_numbered ∙ length_numbered (lists_of s))) (survey_ends s sound)
