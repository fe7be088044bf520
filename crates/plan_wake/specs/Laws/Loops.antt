-- Waking one edge, block and vertex after another, as the code goes.
use Prim.Native.Nat.{ℕ, zero, suc, ◌+◌, ◌-◌, ◌/◌, ◌<◌, ◌≤◌}
use native.Mathlib.Omega.{arith}
use Rattle.std.proofs.Common.{add-one, add-zero, add-suc, ◌∙◌, length-drop, length-take-le, get_or-take, get_or-drop}
use Rattle.std.specs.Prelude.{◌≡◌, Bool, ◌&&◌, ◌||◌, cond, List, length, set, take, drop, ltb}
use Rattle.std.proofs.Math.Path.{refl, ap, sym}
use Rattle.std.proofs.Math.Bool.{true, false, not}
use Rattle.std.proofs.Math.ListN.{get_or}
use Rattle.std.proofs.Math.Dec.{eqb}
use borrow.Author.Tests.{eq-eqb, ne_eqb, lt-ltb, le-ltb, ltb-true, ltb-false}
use Rattle.std.specs.Int.Bits.{bit_or}
use Rattle.base_finite.specs.Below.{counted, any_below}
use Rattle.base_finite.specs.Laws.Below.{any_none, counted_true}
use Rattle.base_finite.specs.Laws.Test.{not_true_false, and_both, not_of_false, or_false_left, or_false_right}
use Rattle.plan_search.specs.Scan.{block_edges}
use Rattle.plan_search.specs.Tables.{Tables}
use Rattle.plan_wake.specs.Wake.{ends_at, idle_vertex, KeyNotes, notes_from, behind_by, woken_key, lowered, woken_edge, woken_on, woken_at, woken_by, wake_edges, least_of, part_end}
use Rattle.plan_wake.specs.Laws.Wake.{on_length}

-- ---- whether some end is c

or_counted : (s t : Bool) → bit_or (counted s 1) (counted t 1) ≡ counted (s || t) 1
unfolding counted
or_counted true true = refl
or_counted true false = refl
or_counted false true = refl
or_counted false false = refl

pub found_more : (ends : List ℕ) (c i : ℕ) {x one found : ℕ} → x ≡ get_or ends i 0 → one ≡ counted (eqb x c) 1 → found ≡ counted (any_below i (λ k. eqb (get_or ends k 0) c)) 1
    → bit_or found one ≡ counted (any_below (i + 1) (λ k. eqb (get_or ends k 0) c)) 1
unfolding any_below
found_more ends c i {one = one} x_is one_is found_is =
    ap (λ n. bit_or n one) found_is
    ∙ ap (bit_or (counted (any_below i (λ k. eqb (get_or ends k 0) c)) 1)) (one_is ∙ ap (λ z. counted (eqb z c) 1) x_is)
    ∙ or_counted (any_below i (λ k. eqb (get_or ends k 0) c)) (eqb (get_or ends i 0) c)
    ∙ ap (λ n. counted (any_below n (λ k. eqb (get_or ends k 0) c)) 1) (sym (add-one i))

pub found_end : (ends : List ℕ) (c i : ℕ) {found : ℕ} → i ≤ length ends → length ends ≤ i → found ≡ counted (any_below i (λ k. eqb (get_or ends k 0) c)) 1
    → found ≡ counted (any_below (length ends) (λ k. eqb (get_or ends k 0) c)) 1
found_end ends c i a b h = let q : i ≡ length ends = omega arith in h ∙ ap (λ n. counted (any_below n (λ k. eqb (get_or ends k 0) c)) 1) q

-- ---- one edge

pub ends_first : (firsts seconds : List ℕ) (c e : ℕ) {u : ℕ} → u ≡ get_or firsts e 0 → u ≡ c → true ≡ ends_at firsts seconds c e
unfolding ends_at
ends_first firsts seconds c e u_is h = sym (ap (λ t. t || eqb (get_or seconds e 0) c) (eq-eqb (get_or firsts e 0) c (sym u_is ∙ h)))

pub ends_second : (firsts seconds : List ℕ) (c e : ℕ) {u v : ℕ} → u ≡ get_or firsts e 0 → v ≡ get_or seconds e 0 → (u ≡ c → ⊥) → eqb v c ≡ ends_at firsts seconds c e
unfolding ends_at
ends_second firsts seconds c e u_is v_is h =
    ap (λ z. eqb z c) v_is ∙ sym (ap (λ t. t || eqb (get_or seconds e 0) c) (ne_eqb (get_or firsts e 0) c (λ q. h (u_is ∙ q))))

module _ (wakes : ℕ → Bool) (fresh : ℕ → ℕ) (s : KeyNotes) (e : ℕ) {t : Bool} (t_is : t ≡ wakes e) where
  pub edge_woken : {key : ℕ} {keys floors : List ℕ} → t ≡ true → key ≡ fresh e → keys ≡ set s.keys e key → floors ≡ lowered s.floors (e / block_edges) key
      → notes_from keys floors ≡ woken_edge wakes fresh s e
  unfolding woken_edge
  edge_woken h key_is k f = rw (sym t_is ∙ h, k, f, key_is) refl

  pub edge_left : t ≡ false → s ≡ woken_edge wakes fresh s e
  unfolding woken_edge
  edge_left h = rw (sym t_is ∙ h) refl

-- ---- some edges

-- Before edge e.
pub record Waking (wakes : ℕ → Bool) (fresh : ℕ → ℕ) (s : KeyNotes) (from to e : ℕ) (keys floors : List ℕ) : Type 0 where
  pub from_le : from ≤ e
  pub upto : e - from ≤ to - from
  pub made : notes_from keys floors ≡ woken_on wakes fresh s from (e - from)

pub waking_start : (wakes : ℕ → Bool) (fresh : ℕ → ℕ) (s : KeyNotes) (from to : ℕ) → Waking wakes fresh s from to from s.keys s.floors
unfolding woken_on
waking_start wakes fresh s from to = let z : from - from ≡ 0 = omega arith in record { from_le = omega arith; upto = omega arith; made = rw z refl }

module _ {wakes : ℕ → Bool} {fresh : ℕ → ℕ} {s : KeyNotes} {from to e : ℕ} {keys floors : List ℕ} (h : Waking wakes fresh s from to e keys floors) where
  pub waking_more : {keys' floors' : List ℕ} → e < to → notes_from keys' floors' ≡ woken_edge wakes fresh (notes_from keys floors) e → Waking wakes fresh s from to (e + 1) keys' floors'
  unfolding woken_on
  waking_more b k =
      let a = h.from_le in
      let next_is : e + 1 - from ≡ suc (e - from) = omega arith in
      let here : from + (e - from) ≡ e = omega arith in
      record {
        from_le = omega arith;
        upto = omega arith;
        made = rw (next_is, here) (k ∙ ap (λ t. woken_edge wakes fresh t e) h.made);
      }

  pub waking_long : (length keys ≡ length s.keys) × (length floors ≡ length s.floors)
  waking_long =
      let l = on_length wakes fresh s from (e - from) in
      (ap (λ (t : KeyNotes). length t.keys) h.made ∙ l.0, ap (λ (t : KeyNotes). length t.floors) h.made ∙ l.1)

  pub waking_end : to ≤ e → notes_from keys floors ≡ woken_on wakes fresh s from (to - from)
  waking_end b = let a = h.from_le in let u = h.upto in let z : to - from ≡ e - from = omega arith in rw z h.made

-- ---- blocks

module _ (wakes : ℕ → Bool) (fresh : ℕ → ℕ) where
  -- Edges none of which is to be woken.
  on_skip : (s : KeyNotes) (from n : ℕ) → ((k : ℕ) → k < n → wakes (from + k) ≡ false) → s ≡ woken_on wakes fresh s from n
  unfolding woken_on
  on_skip s from zero h = refl
  on_skip s from (suc n) h =
      edge_left wakes fresh s (from + n) refl (h n (omega arith)) ∙ ap (λ t. woken_edge wakes fresh t (from + n)) (on_skip s from n (λ k b. h k (omega arith)))

  on_join : (s : KeyNotes) (from a b : ℕ) → woken_on wakes fresh (woken_on wakes fresh s from a) (from + a) b ≡ woken_on wakes fresh s from (a + b)
  unfolding woken_on
  on_join s from a zero = ap (woken_on wakes fresh s from) (sym (add-zero a))
  on_join s from a (suc b) =
      let q : from + a + b ≡ from + (a + b) = omega arith in
      ap (λ t. woken_edge wakes fresh t (from + a + b)) (on_join s from a b)
      ∙ ap (woken_edge wakes fresh (woken_on wakes fresh s from (a + b))) q
      ∙ ap (woken_on wakes fresh s from) (sym (add-suc a b))

-- A part of a list of ends, and whether some of it is c.
abbrev part : List ℕ → (from to : ℕ) → List ℕ
part l from to = take (to - from) (drop from l)

abbrev part_has : List ℕ → (from to c : ℕ) → Bool
part_has l from to c = any_below (length (part l from to)) (λ i. eqb (get_or (part l from to) i 0) c)

part_none : (l : List ℕ) (from to c : ℕ) → to ≤ length l → part_has l from to c ≡ false → (k : ℕ) → k < to - from → eqb (get_or l (from + k) 0) c ≡ false
part_none l from to c b h k u =
    let long : length (part l from to) ≡ to - from = length-take-le (to - from) (drop from l) (omega (arith, length-drop from l)) in
    let same : get_or (part l from to) k 0 ≡ get_or l (from + k) 0 = get_or-take (to - from) (drop from l) k 0 (omega arith) ∙ get_or-drop from l k 0 in
    ap (λ x. eqb x c) (sym same) ∙ any_none (length (part l from to)) (λ i. eqb (get_or (part l from to) i 0) c) h k (omega arith)

none_counted : (s t : Bool) {p q : ℕ} → p ≡ counted s 1 → q ≡ counted t 1 → bit_or p q ≤ 0 → (s ≡ false) × (t ≡ false)
none_counted s t {p} {q} h k z =
    let both : bit_or p q ≡ counted (s || t) 1 = ap (λ n. bit_or n q) h ∙ ap (bit_or (counted s 1)) k ∙ or_counted s t in
    let none : (s || t) ≡ false = not_true_false (s || t) (λ y. let one = counted_true y 1 in omega arith) in
    (or_false_left s t none, or_false_right s t none)

-- A part that has c at no end.
pub part_left : (firsts seconds : List ℕ) (fresh : ℕ → ℕ) (from to c : ℕ) (s : KeyNotes) {p q : ℕ} → to ≤ length firsts → to ≤ length seconds
    → p ≡ counted (part_has firsts from to c) 1 → q ≡ counted (part_has seconds from to c) 1 → bit_or p q ≤ 0 → s ≡ woken_on (ends_at firsts seconds c) fresh s from (to - from)
unfolding ends_at
part_left firsts seconds fresh from to c s a b h k z =
    let none = none_counted (part_has firsts from to c) (part_has seconds from to c) h k z in
    on_skip (ends_at firsts seconds c) fresh s from (to - from)
    (λ i u.
    ap (λ t. t || eqb (get_or seconds (from + i) 0) c) (part_none firsts from to c a none.0 i u)
    ∙ part_none seconds from to c b none.1 i u)

pub least_le : (m k : ℕ) {n : ℕ} → n ≡ least_of m k → (n ≤ m) × (n ≤ k)
unfolding least_of
least_le m k {n} = by (ltb k m) refl
  where
    by : (t : Bool) → ltb k m ≡ t → n ≡ cond t k m → (n ≤ m) × (n ≤ k)
    by true g h = let u = ltb-true k m g in (omega arith, omega arith)
    by false g h = let u = ltb-false k m g in (omega arith, omega arith)

-- A part is not empty, and within the length.
pub record Within (from to least : ℕ) : Type 0 where
  pub more : from < to
  pub upto : to ≤ least

pub part_within : (from least : ℕ) {to : ℕ} → from < least → to ≡ part_end from least → Within from to least
unfolding part_end
part_within from least {to} b = by (ltb wake_edges (least - from)) refl
  where
    by : (t : Bool) → ltb wake_edges (least - from) ≡ t → to ≡ cond t (from + wake_edges) least → Within from to least
    by true g h = let u = ltb-true wake_edges (least - from) g in record { more = omega arith; upto = omega arith }
    by false g h = record { more = omega arith; upto = omega arith }

-- Before edge `from`.
pub record WakingParts (wakes : ℕ → Bool) (fresh : ℕ → ℕ) (s : KeyNotes) (least from : ℕ) (keys floors : List ℕ) : Type 0 where
  pub upto : from ≤ least
  pub made : notes_from keys floors ≡ woken_on wakes fresh s 0 from

pub parts_start : (wakes : ℕ → Bool) (fresh : ℕ → ℕ) (s : KeyNotes) (least : ℕ) → WakingParts wakes fresh s least 0 s.keys s.floors
unfolding woken_on
parts_start wakes fresh s least = record { upto = omega arith; made = refl }

module _ {wakes : ℕ → Bool} {fresh : ℕ → ℕ} {s : KeyNotes} {least from : ℕ} {keys floors : List ℕ} (h : WakingParts wakes fresh s least from keys floors) where
  parts_on : (to : ℕ) {keys' floors' : List ℕ} → from ≤ to → notes_from keys' floors' ≡ woken_on wakes fresh (notes_from keys floors) from (to - from)
      → notes_from keys' floors' ≡ woken_on wakes fresh s 0 to
  parts_on to l k =
      let z : 0 + from ≡ from = omega arith in
      let q : from + (to - from) ≡ to = omega arith in
      k
      ∙ ap (λ t. woken_on wakes fresh t from (to - from)) h.made
      ∙ ap (λ i. woken_on wakes fresh (woken_on wakes fresh s 0 from) i (to - from)) (sym z)
      ∙ on_join wakes fresh s 0 from (to - from)
      ∙ ap (woken_on wakes fresh s 0) q

  pub parts_more : (to : ℕ) {keys' floors' : List ℕ} → Within from to least → notes_from keys' floors' ≡ woken_on wakes fresh (notes_from keys floors) from (to - from)
      → WakingParts wakes fresh s least to keys' floors'
  parts_more to w k = record { upto = w.upto; made = parts_on to (let m = w.more in omega arith) k }

  -- And the edges that are left.
  pub parts_end : (m : ℕ) {keys' floors' : List ℕ} → least ≤ m → notes_from keys' floors' ≡ woken_on wakes fresh (notes_from keys floors) from (m - from)
      → notes_from keys' floors' ≡ woken_on wakes fresh s 0 m
  parts_end m l g = parts_on m (let u = h.upto in omega arith) g

  pub parts_long : (length keys ≡ length s.keys) × (length floors ≡ length s.floors)
  parts_long =
      let l = on_length wakes fresh s 0 from in
      (ap (λ (t : KeyNotes). length t.keys) h.made ∙ l.0, ap (λ (t : KeyNotes). length t.floors) h.made ∙ l.1)

-- ---- a vertex

module _ (firsts seconds weights loads flags : List ℕ) (time n c : ℕ) (s : KeyNotes) where
  -- Not a vertex's number.
  pub vertex_past : {i : ℕ} → i ≡ c → n ≤ i → s ≡ woken_at firsts seconds weights loads flags time n c s
  unfolding woken_at idle_vertex
  vertex_past i_is h =
      on_skip _ _ s 0 (length firsts) (λ k u. ap (λ t. t && not (eqb (get_or flags c 0) 1) && ends_at firsts seconds c (0 + k)) (le-ltb c n (omega arith)))

  -- An active one.
  pub vertex_active : {i f : ℕ} → i ≡ c → f ≡ get_or flags i 0 → f ≡ 1 → s ≡ woken_at firsts seconds weights loads flags time n c s
  unfolding woken_at idle_vertex
  vertex_active {i} i_is f_is h = on_skip _ _ s 0 (length firsts) (λ k u. by (ltb c n) (ends_at firsts seconds c (0 + k)))
    where
      flag : eqb (get_or flags c 0) 1 ≡ true
      flag = eq-eqb (get_or flags c 0) 1 (ap (λ j. get_or flags j 0) (sym i_is) ∙ sym f_is ∙ h)

      by : (t w : Bool) → ((t && not (eqb (get_or flags c 0) 1)) && w) ≡ false
      by true w = ap (λ b. not b && w) flag
      by false w = refl

  pub vertex_idle : {t : KeyNotes} {i f behind : ℕ} → i ≡ c → i < n → f ≡ get_or flags i 0 → (f ≡ 1 → ⊥) → behind ≡ behind_by loads time i
      → t ≡ woken_on (ends_at firsts seconds c) (woken_key weights behind) s 0 (length firsts) → t ≡ woken_at firsts seconds weights loads flags time n c s
  unfolding woken_at idle_vertex
  vertex_idle i_is below f_is h behind_is k =
      let flag : eqb (get_or flags c 0) 1 ≡ false = ne_eqb (get_or flags c 0) 1 (λ q. h (f_is ∙ ap (λ j. get_or flags j 0) i_is ∙ q)) in
      let idle : (ltb c n && not (eqb (get_or flags c 0) 1)) ≡ true = and_both (ltb c n) (not (eqb (get_or flags c 0) 1)) (lt-ltb c n (omega arith)) (not_of_false _ flag) in
      k
      ∙ ap (λ z. woken_on (ends_at firsts seconds c) (woken_key weights z) s 0 (length firsts)) (behind_is ∙ ap (behind_by loads time) i_is)
      ∙ ap (λ b. woken_on (λ e. b && ends_at firsts seconds c e) (woken_key weights (behind_by loads time c)) s 0 (length firsts)) (sym idle)

-- The two components that edge e joins, as they are read.
pub joined_woken : (t : Tables) (time n e : ℕ) (s : KeyNotes) {s' s'' : KeyNotes} {a b i j x y : ℕ} → a ≡ get_or t.firsts e 0 → i ≡ a → x ≡ get_or t.labels i 0
    → b ≡ get_or t.seconds e 0 → j ≡ b → y ≡ get_or t.labels j 0
    → s' ≡ woken_at t.firsts t.seconds t.weights t.loads t.flags time n x s
    → s'' ≡ woken_at t.firsts t.seconds t.weights t.loads t.flags time n y s'
    → s'' ≡ woken_by t time n e s
unfolding woken_by
joined_woken t time n e s a_is i_is x_is b_is j_is y_is one both = both ∙ rw (one, x_is, y_is, i_is, j_is, a_is, b_is) refl
