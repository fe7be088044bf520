-- Laws of the replay: the roots of its trees are the labels of the trace, the records of the rounds have the members of their components, and with them the
-- duals are drawn. The code of drawing uses them.
use Prim.Native.Nat.{ℕ, zero, suc, ◌+◌, ◌*◌, ◌-◌, ◌≤◌, ◌<◌}
use Rattle.std.proofs.Common.{arith, sym, ◌∙◌, inl, inr, length-set, get_or-set_same, get_or-set_other, lt-ltb, le-ltb}
use Rattle.std.specs.Prelude.{◌≡◌, refl, Bool, false, ◌||◌, cond, List, length, get_or, ltb}
use Rattle.std.proofs.Math.Path.{ap, fun_ext}
use Rattle.std.proofs.Math.Bool.{or_self}
use Rattle.std.proofs.Math.Logic.{⊎_elim}
use Rattle.std.proofs.Math.Decide.{ℕ_discrete}
use Rattle.std.proofs.Math.ListN as ListN
use Rattle.base_finite.specs.Laws.Below.{lt_or_ge}
use Rattle.base_limits.specs.Limits.{max_vertices}
use Rattle.format_record.specs.Record.{record_of, with_member_in}
use Rattle.format_record.proofs.Laws.Record.{member_added_record}
use Rattle.theory_graph.specs.Component.{merged}
use Rattle.theory_graph.proofs.Laws.Component.{merged_in, merged_out, merged_cong}
use Rattle.survey_components.specs.Roots.{Climbed, climbed_to, climbed}
use Rattle.plan_draw.specs.Drawing.{dual_put, count_put, duals_below, DualsWritten}
use Rattle.plan_draw.specs.Trace.{Trace, label_after, part_of, hung_on, member_of, trace_duals, Drawable}
use Rattle.plan_draw.specs.Members.{no_member, ored, with_part, union_of, sets_kept, SetsHold}
use Rattle.plan_draw.proofs.Laws.Drawing.{written_none, written_more, written_end, written_fits}
use Rattle.plan_draw.proofs.Laws.Members.{ored_records, no_member_record, put_dual_law, label_below_law, single_members, union_of_parts}
use Rattle.plan_draw.proofs.Laws.Rising.{Ascending, RootAbove, climb_rising, length_hung, one_more_law}

-- ---- labels

-- What has not arisen after r rounds is its own label.
label_past : (t : Trace) (r c : ℕ) → ((k : ℕ) → k < r → t.first k < t.vertices) → ((k : ℕ) → k < r → t.second k < t.vertices) → t.vertices + r ≤ c →
    label_after t r c ≡ c
unfolding label_after
label_past t zero c a b h = refl
label_past t (suc r) c a b h =
    let own : label_after t r c ≡ c = label_past t r c (λ k l. a k (omega arith)) (λ k l. b k (omega arith)) (omega arith) in
    let x = label_below_law t r (t.first r) (a r (omega arith)) in
    let y = label_below_law t r (t.second r) (b r (omega arith)) in
    merged_out (label_after t r (t.first r)) (label_after t r (t.second r)) (t.vertices + r) (label_after t r) c (λ e. omega arith) (λ e. omega arith) ∙ own

-- Before the first round, so of single vertices.
label_first : (t : Trace) (r v : ℕ) → r ≡ 0 → label_after t r v ≡ v
unfolding label_after
label_first t r v e = ap (λ k. label_after t k v) e

label_next : (t : Trace) (r k c v : ℕ) {x y : ℕ} → k ≡ suc r → c ≡ t.vertices + r → x ≡ label_after t r (t.first r) → y ≡ label_after t r (t.second r) →
    label_after t k v ≡ merged x y c (label_after t r) v
unfolding label_after
label_next t r k c v e z a b = rw (e, z, a, b)

-- ---- the trees when component c arises

module _ (t : Trace) (c : ℕ) (below : c < t.vertices + t.rounds) (first_below_law : (r : ℕ) → r < t.rounds → t.first r < t.vertices)
    (second_below : (r : ℕ) → r < t.rounds → t.second r < t.vertices) (ups : List ℕ) (h : Ascending c (label_after t (c - t.vertices)) ups) where
  abbrev r : ℕ
  r = c - t.vertices

  abbrev label : ℕ → ℕ
  label = label_after t r

  abbrev one : Climbed
  one = climbed c ups (t.first r)

  abbrev two : Climbed
  two = climbed c one.parents (t.second r)

  first_found : t.vertices ≤ c → RootAbove c label (t.first r) ups one
  first_found l = climb_rising c label c ups h (t.first r) (let b = first_below_law r (omega arith) in omega arith) (omega arith)

  second_found : t.vertices ≤ c → RootAbove c label (t.second r) one.parents two
  second_found l =
      climb_rising c label c one.parents (first_found l).rising (t.second r) (let b = second_below r (omega arith) in omega arith) (omega arith)

-- ---- the records of the rounds

module _ (t : Trace) (few : t.vertices ≤ max_vertices) where
  part_added : (r x : ℕ) (A : ℕ → Bool) {sets : List (List ℕ)} → x < t.vertices + r → SetsHold t r sets →
      with_part sets t.vertices x (record_of 0 A) ≡ record_of 0 (λ v. A v || member_of t x v)
  unfolding with_part
  part_added r x A {sets} b h = ⊎_elim single made (lt_or_ge x t.vertices)
    where
      n : ℕ
      n = t.vertices

      single : x < n → cond (ltb x n) (with_member_in (record_of 0 A) x) (ored (record_of 0 A) (get_or sets (x - n) no_member)) ≡ record_of 0 (λ v. A v || member_of t x v)
      single l =
          rw (lt-ltb x n l)
          (member_added_record 0 A x (omega arith) ∙ ap (λ (S : ℕ → Bool). record_of 0 (λ v. A v || S v)) (sym (single_members t x l)))

      made : n ≤ x → cond (ltb x n) (with_member_in (record_of 0 A) x) (ored (record_of 0 A) (get_or sets (x - n) no_member)) ≡ record_of 0 (λ v. A v || member_of t x v)
      made l =
          let number : n + (x - n) ≡ x = omega arith in
          rw (le-ltb x n l)
          (ap (ored (record_of 0 A)) (h.at (x - n) (omega arith) ∙ ap (λ c. record_of 0 (member_of t c)) number) ∙ ored_records 0 A (member_of t x))

  union_held : (r x y : ℕ) {sets : List (List ℕ)} → x < t.vertices + r → y < t.vertices + r → SetsHold t r sets →
      union_of sets t.vertices x y ≡ record_of 0 (λ v. member_of t x v || member_of t y v)
  unfolding union_of
  union_held r x y {sets} a b h =
      ap (λ l. with_part sets t.vertices y (with_part sets t.vertices x l)) no_member_record
      ∙ ap (with_part sets t.vertices y) (part_added r x (λ v. false) a h)
      ∙ part_added r y (λ v. member_of t x v) b h

  -- The members of component c, when the components before it have arisen.
  set_held : (c : ℕ) (below : c < t.vertices + t.rounds) (a : (r : ℕ) → r < t.rounds → t.first r < t.vertices) (b : (r : ℕ) → r < t.rounds → t.second r < t.vertices)
      (ups : List ℕ) {sets : List (List ℕ)} → Ascending c (label_after t (c - t.vertices)) ups → SetsHold t (c - t.vertices) sets →
      union_of sets t.vertices (part_of t.first t.vertices c ups).root (part_of t.second t.vertices c (part_of t.first t.vertices c ups).parents).root
      ≡ record_of 0 (member_of t c)
  unfolding part_of
  set_held c below a b ups {sets} h k = ⊎_elim single made (lt_or_ge c n)
    where
      n : ℕ
      n = t.vertices

      r : ℕ
      r = c - n

      x : Climbed
      x = cond (ltb c n) (climbed_to c ups) (climbed c ups (t.first r))

      y : Climbed
      y = cond (ltb c n) (climbed_to c x.parents) (climbed c x.parents (t.second r))

      single : c < n → union_of sets n x.root y.root ≡ record_of 0 (member_of t c)
      single l =
          rw (lt-ltb c n l)
          (union_held r c c (omega arith) (omega arith) k ∙ ap (record_of 0) (fun_ext (λ v. or_self (member_of t c v))))

      made : n ≤ c → union_of sets n x.root y.root ≡ record_of 0 (member_of t c)
      made l =
          let number : n + r ≡ c = omega arith in
          let first : t.first r < n = a r (omega arith) in
          let second : t.second r < n = b r (omega arith) in
          rw (le-ltb c n l, (first_found t c below a b ups h l).is, (second_found t c below a b ups h l).is)
          (union_held r (label_after t r (t.first r)) (label_after t r (t.second r)) (label_below_law t r (t.first r) first) (label_below_law t r (t.second r) second) k
          ∙ ap (record_of 0) (sym (union_of_parts t r first second))
          ∙ ap (λ i. record_of 0 (member_of t i)) number)

  -- Its record is kept.
  kept_more : (c : ℕ) {set : List ℕ} {sets : List (List ℕ)} → c < t.vertices + max_vertices → set ≡ record_of 0 (member_of t c) → SetsHold t (c - t.vertices) sets →
      SetsHold t (c + 1 - t.vertices) (sets_kept t.vertices c set sets)
  unfolding sets_kept
  kept_more c {set} {sets} below e h = ⊎_elim single made (lt_or_ge c n)
    where
      n : ℕ
      n = t.vertices

      r : ℕ
      r = c - n

      single : c < n → SetsHold t (c + 1 - n) (cond (ltb c n) sets (ListN.set sets r set))
      single l =
          rw (lt-ltb c n l)
          (record { long = h.long; at = λ k b. h.at k (omega arith) })

      by : (k : ℕ) → n ≤ c → k < c + 1 - n → Dec (k ≡ r) → get_or (ListN.set sets r set) k no_member ≡ record_of 0 (member_of t (n + k))
      by k l b (yes same) =
          let number : c ≡ n + k = omega arith in
          ap (λ i. get_or (ListN.set sets r set) i no_member) same
          ∙ get_or-set_same sets r set no_member (omega (arith, h.long))
          ∙ e ∙ ap (λ i. record_of 0 (member_of t i)) number
      by k l b (no other) = get_or-set_other sets r k set no_member other ∙ h.at k (omega arith)

      made : n ≤ c → SetsHold t (c + 1 - n) (cond (ltb c n) sets (ListN.set sets r set))
      made l =
          rw (le-ltb c n l)
          (record { long = length-set sets r set ∙ h.long; at = λ k b. by k l b (ℕ_discrete k r) })

-- Component c has arisen.
arisen : (t : Trace) (c : ℕ) (below : c < t.vertices + t.rounds) (a : (r : ℕ) → r < t.rounds → t.first r < t.vertices)
    (b : (r : ℕ) → r < t.rounds → t.second r < t.vertices) (ups : List ℕ) {after : List ℕ} → c < length ups → Ascending c (label_after t (c - t.vertices)) ups →
    after ≡ hung_on (part_of t.first t.vertices c ups).root (part_of t.second t.vertices c (part_of t.first t.vertices c ups).parents).root c
    (part_of t.second t.vertices c (part_of t.first t.vertices c ups).parents).parents →
    Ascending (c + 1) (label_after t (c + 1 - t.vertices)) after × (length after ≡ length ups)
unfolding part_of
arisen t c below a b ups {after} room h is = rw is (⊎_elim single made (lt_or_ge c n))
  where
    n : ℕ
    n = t.vertices

    r : ℕ
    r = c - n

    k : ℕ
    k = c + 1 - n

    x : Climbed
    x = cond (ltb c n) (climbed_to c ups) (climbed c ups (t.first r))

    y : Climbed
    y = cond (ltb c n) (climbed_to c x.parents) (climbed c x.parents (t.second r))

    single : c < n → Ascending (c + 1) (label_after t k) (hung_on x.root y.root c y.parents) × (length (hung_on x.root y.root c y.parents) ≡ length ups)
    single l =
        let next : (v : ℕ) → label_after t k v ≡ v = λ v. label_first t k v (omega arith) in
        let last : (v : ℕ) → label_after t r v ≡ v = λ v. label_first t r v (omega arith) in
        rw (lt-ltb c n l) (
          one_more_law c c c (label_after t r) (label_after t k) ups h room (omega arith) (omega arith) (next c) (next c) (next c)
              (λ u v e. next u ∙ sym (last u) ∙ e ∙ last v ∙ sym (next v))
              (λ v p q e. next v),
          length_hung c c c ups,
        )

    made : n ≤ c → Ascending (c + 1) (label_after t k) (hung_on x.root y.root c y.parents) × (length (hung_on x.root y.root c y.parents) ≡ length ups)
    made l =
        let first = first_found t c below a b ups h l in
        let second = second_found t c below a b ups h l in
        rw (le-ltb c n l) (
          by (climbed c ups (t.first r)) (climbed c (climbed c ups (t.first r)).parents (t.second r)) first second,
          length_hung _ _ c _ ∙ second.long ∙ first.long,
        )
      where
        by : (one two : Climbed) → RootAbove c (label_after t r) (t.first r) ups one → RootAbove c (label_after t r) (t.second r) one.parents two
            → Ascending (c + 1) (label_after t k) (hung_on one.root two.root c two.parents)
        by one two f s =
            let own : label_after t r c ≡ c = label_past t r c (λ i l. a i (omega arith)) (λ i l. b i (omega arith)) (omega arith) in
            let x = one.root in
            let y = two.root in
            let bx = f.root_below in
            let by = s.root_below in
            let long = s.long ∙ f.long in
            let next : (v : ℕ) → label_after t k v ≡ merged x y c (label_after t r) v = λ v. label_next t r k c v (omega arith) (omega arith) f.is s.is in
            one_more_law c x y (label_after t r) (label_after t k) two.parents s.rising (omega arith) (omega arith) (omega arith)
            (next x ∙ merged_in x y c (label_after t r) x (inl f.own))
            (next y ∙ merged_in x y c (label_after t r) y (inr s.own))
            (next c ∙ merged_out x y c (label_after t r) c (λ e. omega arith) (λ e. omega arith) ∙ own)
            (λ u v e. next u ∙ merged_cong x y c (label_after t r) u v e ∙ sym (next v))
            (λ v p q e. next v ∙ merged_out x y c (label_after t r) v (λ d. p (sym e ∙ d)) (λ d. q (sym e ∙ d)) ∙ e)

-- ---- the replay, up to component number c

pub record Replayed (t : Trace) (c : ℕ) (ups : List ℕ) (sets : List (List ℕ)) (old new : List ℕ) (count : ℕ) : Type 0 where
  pub places : length ups ≡ 2 * max_vertices
  pub ups_rise : Ascending c (label_after t (c - t.vertices)) ups
  pub sets_hold : SetsHold t (c - t.vertices) sets
  pub duals_written : DualsWritten (duals_below t.value (member_of t) c) old new count

pub replayed_none : (t : Trace) {ups : List ℕ} {sets : List (List ℕ)} (old : List ℕ) → length ups ≡ 2 * max_vertices → length sets ≡ max_vertices →
    Replayed t 0 ups sets old old 0
replayed_none t old places long =
    record {
      places = places;
      ups_rise =
          record {
            fits = omega arith;
            below = λ v b. absurd (omega arith);
            rises = λ v b. absurd (omega arith);
            same = λ v b. absurd (omega arith);
            root = λ v b e. absurd (omega arith);
          };
      sets_hold = record { long = long; at = λ k b. absurd (omega arith) };
      duals_written = written_none t.value (member_of t) old;
    }

-- One component more.
pub replayed_more : (t : Trace) (c : ℕ) {ups after set old mid new : List ℕ} {sets sets' : List (List ℕ)} {k x count : ℕ} → Drawable t old →
    c < t.vertices + t.rounds → Replayed t c ups sets old mid k →
    set ≡ union_of sets t.vertices (part_of t.first t.vertices c ups).root (part_of t.second t.vertices c (part_of t.first t.vertices c ups).parents).root →
    after ≡ hung_on (part_of t.first t.vertices c ups).root (part_of t.second t.vertices c (part_of t.first t.vertices c ups).parents).root c
    (part_of t.second t.vertices c (part_of t.first t.vertices c ups).parents).parents →
    sets' ≡ sets_kept t.vertices c set sets →
    x ≡ t.value c → count ≡ count_put k x mid → new ≡ dual_put k x set mid →
    Replayed t (c + 1) after sets' old new count
replayed_more t c {ups = ups} {set = set} {mid = mid} {k = k} {x = x} ok below s u h kept v a b =
    let is : set ≡ record_of 0 (member_of t c) = u ∙ set_held t ok.few c below ok.first_below_law ok.second_below ups s.ups_rise s.sets_hold in
    let fits = written_fits t.value (member_of t) (t.vertices + t.rounds) c ok.room below s.duals_written in
    let put = put_dual_law k x (member_of t c) mid fits is in
    let few = ok.few in
    let few_rounds = ok.few_rounds in
    let places = s.places in
    let next = arisen t c below ok.first_below_law ok.second_below ups (omega arith) s.ups_rise h in
    record {
      places = next.1 ∙ places;
      ups_rise = next.0;
      sets_hold = rw kept (kept_more t few c (omega arith) is s.sets_hold);
      duals_written = written_more t.value (member_of t) c v refl s.duals_written (a ∙ put.0) (b ∙ put.1);
    }

-- All components.
pub replayed_end : (t : Trace) (c : ℕ) {ups old new : List ℕ} {sets : List (List ℕ)} {count : ℕ} → c ≤ t.vertices + t.rounds → t.vertices + t.rounds ≤ c →
    Replayed t c ups sets old new count → DualsWritten (trace_duals t) old new count
unfolding trace_duals
replayed_end t c a b s = written_end t.value (member_of t) a b s.duals_written
