-- The tests of an also line, case by case, and what a line that passes them is.
use Rattle.std.specs.Prelude.{ℕ, ◌≤◌, ◌<◌, ◌≡◌, refl, Bool, true, false, List, length, get_or, eqb, leb}
use Rattle.std.proofs.Common.{arith, sym, ◌∙◌, subst, inl, inr}
use Rattle.std.proofs.Math.Path.{ap}
use borrow.Author.Tests.{eq-eqb, ne_eqb, le-leb, lt-leb, eqb-true, eqb-false, leb-true, leb-false}
use Rattle.base_limits.specs.Limits.{group_numbers, max_pairs, also_digits}
use Rattle.base_limits.specs.Verdict.{refuse_if, ◌before◌}
use Rattle.base_limits.specs.declared.Verdict.{Verdict}
use Rattle.base_limits.specs.declared.Verdict.TheVariants.{Fine, Refused}
use Rattle.base_limits.specs.Laws.Verdict.{fine_left, fine_right, fine_refuse, no_refusal}
use Rattle.format_write.specs.Key.{also_key, comma, newline}
use Rattle.format_read.specs.Step.{found, refused, ◌then◌, checked}
use Rattle.format_read.specs.Bytes.{fixed_at}
use Rattle.format_read.proofs.Laws.Step.{then_found, then_refused, then_value, checked_fine, checked_value, checked_next}
use Rattle.format_read.specs.Number.{number_to}
use Rattle.format_read.proofs.Laws.Digits.{number_to_below}
use Rattle.format_also.specs.Pair.{Pair, pair_of, PairDigits, rank, pair_at, also_test, also_line}
use Rattle.format_also.specs.WellFormed.{PairInOrder, PairOutOfOrder, PairPasses}

module _ (groups : List ℕ) (room low i : ℕ) (x : Pair) where
  pub also_high : group_numbers ≤ x.other → also_test groups room low i x ≡ Refused 17 x.owner
  unfolding also_test refuse_if ◌before◌
  also_high h = rw (le-leb group_numbers x.other h)

  module _ (group : x.other < group_numbers) where
    pub also_out : length groups ≤ x.owner → also_test groups room low i x ≡ Refused 18 i
    unfolding also_test refuse_if ◌before◌
    also_out h = rw (lt-leb group_numbers x.other group, le-leb (length groups) x.owner h)

    module _ (below : x.owner < length groups) where
      pub also_none : x.other ≡ 0 → also_test groups room low i x ≡ Refused 18 i
      unfolding also_test refuse_if ◌before◌
      also_none h = rw (lt-leb group_numbers x.other group, lt-leb (length groups) x.owner below, eq-eqb x.other 0 h)

      module _ (some : x.other ≡ 0 → ⊥) where
        pub also_own : x.other ≡ get_or groups x.owner 0 → also_test groups room low i x ≡ Refused 18 i
        unfolding also_test refuse_if ◌before◌
        also_own h =
            rw (
              lt-leb group_numbers x.other group,
              lt-leb (length groups) x.owner below,
              ne_eqb x.other 0 some,
              eq-eqb x.other (get_or groups x.owner 0) h,
            )

        module _ (foreign : x.other ≡ get_or groups x.owner 0 → ⊥) where
          pub also_falls : rank x ≤ low → also_test groups room low i x ≡ Refused 18 i
          unfolding also_test refuse_if ◌before◌
          also_falls h =
              rw (
                lt-leb group_numbers x.other group,
                lt-leb (length groups) x.owner below,
                ne_eqb x.other 0 some,
                ne_eqb x.other (get_or groups x.owner 0) foreign,
                le-leb (rank x) low h,
              )

          pub also_full : low < rank x → room ≤ i → also_test groups room low i x ≡ Refused 7 0
          unfolding also_test refuse_if ◌before◌
          also_full rises h =
              rw (
                lt-leb group_numbers x.other group,
                lt-leb (length groups) x.owner below,
                ne_eqb x.other 0 some,
                ne_eqb x.other (get_or groups x.owner 0) foreign,
                lt-leb (rank x) low rises,
                le-leb room i h,
              )

          pub also_fine : low < rank x → i < room → also_test groups room low i x ≡ Fine
          unfolding also_test refuse_if ◌before◌
          also_fine rises h =
              rw (
                lt-leb group_numbers x.other group,
                lt-leb (length groups) x.owner below,
                ne_eqb x.other 0 some,
                ne_eqb x.other (get_or groups x.owner 0) foreign,
                lt-leb (rank x) low rises,
                lt-leb room i h,
              )

-- A pair that passes its tests, and the other way round.
pub also_passed : (groups : List ℕ) (room low i : ℕ) (x : Pair) → also_test groups room low i x ≡ Fine → PairPasses groups room low i x
unfolding also_test
also_passed groups room low i x h =
    let after_high = fine_right _ _ h in
    let after_out = fine_right _ _ after_high in
    let after_none = fine_right _ _ after_out in
    let after_own = fine_right _ _ after_none in
    record {
      group = leb-false group_numbers x.other (fine_refuse _ 17 x.owner (fine_left _ _ h));
      order = record {
        below = leb-false (length groups) x.owner (fine_refuse _ 18 i (fine_left _ _ after_high));
        some = eqb-false x.other 0 (fine_refuse _ 18 i (fine_left _ _ after_out));
        foreign = eqb-false x.other (get_or groups x.owner 0) (fine_refuse _ 18 i (fine_left _ _ after_none));
        rises = leb-false (rank x) low (fine_refuse _ 18 i (fine_left _ _ after_own));
      };
      fits = leb-false room i (fine_refuse _ 7 0 (fine_right _ _ after_own));
    }

pub passed_fine : (groups : List ℕ) (room low i : ℕ) (x : Pair) → PairPasses groups room low i x → also_test groups room low i x ≡ Fine
passed_fine groups room low i x p =
    let o = p.order in
    also_fine groups room low i x p.group o.below o.some o.foreign o.rises p.fits

-- What a refusal of the tests says of the pair, and with which number and place.
pub data PairCause (groups : List ℕ) (room low i : ℕ) (x : Pair) (n p : ℕ) : Type 0 where
  high_group_law : n ≡ 17 → p ≡ x.owner → group_numbers ≤ x.other → PairCause groups room low i x n p
  out_of_order : n ≡ 18 → p ≡ i → x.other < group_numbers → PairOutOfOrder groups low x → PairCause groups room low i x n p
  no_room : n ≡ 7 → p ≡ 0 → x.other < group_numbers → PairInOrder groups low x → room ≤ i → PairCause groups room low i x n p

refused_as : {w : Verdict} {a b n p : ℕ} → w ≡ Refused a b → w ≡ Refused n p → (n ≡ a) × (p ≡ b)
refused_as e f = ((cc), (cc))

pub pair_cause : (groups : List ℕ) (room low i : ℕ) (x : Pair) {n p : ℕ} → also_test groups room low i x ≡ Refused n p → PairCause groups room low i x n p
pair_cause groups room low i x {n} {p} e =
    by_group (leb group_numbers x.other) refl (leb (length groups) x.owner) refl (eqb x.other 0) refl (eqb x.other (get_or groups x.owner 0)) refl (leb (rank x) low) refl (leb room i) refl
  where
    by_group : (a : Bool) → leb group_numbers x.other ≡ a → (b : Bool) → leb (length groups) x.owner ≡ b → (c : Bool) → eqb x.other 0 ≡ c → (d : Bool) → eqb x.other (get_or groups x.owner 0) ≡ d
        → (f : Bool) → leb (rank x) low ≡ f → (g : Bool) → leb room i ≡ g → PairCause groups room low i x n p
    by_group true ea b eb c ec d ed f ef g eg =
        let h = leb-true group_numbers x.other ea in
        let r = refused_as (also_high groups room low i x h) e in
        high_group_law r.0 r.1 h
    by_group false ea true eb c ec d ed f ef g eg =
        let k = leb-false group_numbers x.other ea in
        let h = leb-true (length groups) x.owner eb in
        let r = refused_as (also_out groups room low i x k h) e in
        out_of_order r.0 r.1 k (inl h)
    by_group false ea false eb true ec d ed f ef g eg =
        let k = leb-false group_numbers x.other ea in
        let h = eqb-true x.other 0 ec in
        let r = refused_as (also_none groups room low i x k (leb-false (length groups) x.owner eb) h) e in
        out_of_order r.0 r.1 k (inr (inl h))
    by_group false ea false eb false ec true ed f ef g eg =
        let k = leb-false group_numbers x.other ea in
        let h = eqb-true x.other (get_or groups x.owner 0) ed in
        let r = refused_as (also_own groups room low i x k (leb-false (length groups) x.owner eb) (eqb-false x.other 0 ec) h) e in
        out_of_order r.0 r.1 k (inr (inr (inl h)))
    by_group false ea false eb false ec false ed true ef g eg =
        let k = leb-false group_numbers x.other ea in
        let h = leb-true (rank x) low ef in
        let r = refused_as (also_falls groups room low i x k (leb-false (length groups) x.owner eb) (eqb-false x.other 0 ec) (eqb-false x.other (get_or groups x.owner 0) ed) h) e in
        out_of_order r.0 r.1 k (inr (inr (inr h)))
    by_group false ea false eb false ec false ed false ef true eg =
        let k = leb-false group_numbers x.other ea in
        let below = leb-false (length groups) x.owner eb in
        let some = eqb-false x.other 0 ec in
        let foreign = eqb-false x.other (get_or groups x.owner 0) ed in
        let rises = leb-false (rank x) low ef in
        let h = leb-true room i eg in
        let r = refused_as (also_full groups room low i x k below some foreign rises h) e in
        no_room r.0 r.1 k (record { below = below; some = some; foreign = foreign; rises = rises }) h
    by_group false ea false eb false ec false ed false ef false eg =
        absurd
        (no_refusal e
        (also_fine groups room low i x (leb-false group_numbers x.other ea) (leb-false (length groups) x.owner eb) (eqb-false x.other 0 ec) (eqb-false x.other (get_or groups x.owner 0) ed)
        (leb-false (rank x) low ef) (leb-false room i eg)))

-- A fault that 18 names is refused with 18.
pub out_refused : (groups : List ℕ) (room low i : ℕ) (x : Pair) → x.other < group_numbers → PairOutOfOrder groups low x → also_test groups room low i x ≡ Refused 18 i
out_refused groups room low i x k o = by_tests (leb (length groups) x.owner) refl (eqb x.other 0) refl (eqb x.other (get_or groups x.owner 0)) refl o
  where
    by_tests : (b : Bool) → leb (length groups) x.owner ≡ b → (c : Bool) → eqb x.other 0 ≡ c → (d : Bool) → eqb x.other (get_or groups x.owner 0) ≡ d → PairOutOfOrder groups low x
        → also_test groups room low i x ≡ Refused 18 i
    by_tests true eb c ec d ed o = also_out groups room low i x k (leb-true (length groups) x.owner eb)
    by_tests false eb true ec d ed o = also_none groups room low i x k (leb-false (length groups) x.owner eb) (eqb-true x.other 0 ec)
    by_tests false eb false ec true ed o =
        also_own groups room low i x k (leb-false (length groups) x.owner eb) (eqb-false x.other 0 ec) (eqb-true x.other (get_or groups x.owner 0) ed)
    by_tests false eb false ec false ed (inl h) = let z = leb-false (length groups) x.owner eb in absurd (omega arith)
    by_tests false eb false ec false ed (inr (inl h)) = absurd (eqb-false x.other 0 ec h)
    by_tests false eb false ec false ed (inr (inr (inl h))) = absurd (eqb-false x.other (get_or groups x.owner 0) ed h)
    by_tests false eb false ec false ed (inr (inr (inr h))) =
        also_falls groups room low i x k (leb-false (length groups) x.owner eb) (eqb-false x.other 0 ec) (eqb-false x.other (get_or groups x.owner 0) ed) h

-- ---- lines

pub pair_digits : (t : List ℕ) (at : ℕ) {x : Pair} {next : ℕ} → pair_at t at ≡ found x next → PairDigits x
unfolding pair_at
pair_digits t at {x} {next} q =
    let k = then_value (fixed_at also_key t at) _ q in
    let v = then_value (number_to also_digits comma t k.1) _ k.3 in
    let g = then_value (number_to also_digits newline t v.1) _ v.3 in
    let same : ◌≡◌ {A = Pair} (pair_of v.0 g.0) x = cc g.3 in
    subst PairDigits same
    record {
      owner = number_to_below t also_digits comma k.1 v.0 v.1 (omega arith) v.2;
      other = number_to_below t also_digits newline v.1 g.0 g.1 (omega arith) g.2;
    }

module _ (t groups : List ℕ) (room low i at : ℕ) where
  -- Past the last line that may be.
  pub line_past : max_pairs ≤ i → also_line t groups room low i at ≡ refused 16 at
  unfolding also_line
  line_past h = rw (le-leb max_pairs i h)

  -- A line that may be is read and tested.
  pub line_read : i < max_pairs → also_line t groups room low i at ≡ (pair_at t at then λ x p. checked (also_test groups room low i x) x p)
  unfolding also_line
  line_read h = rw (lt-leb max_pairs i h)

  pub line_malformed : {n p : ℕ} → i < max_pairs → pair_at t at ≡ refused n p → also_line t groups room low i at ≡ refused n p
  line_malformed h e = line_read h ∙ then_refused _ e

  pub line_refused : {x : Pair} {n p q : ℕ} → i < max_pairs → pair_at t at ≡ found x q → also_test groups room low i x ≡ Refused n p → also_line t groups room low i at ≡ refused n p
  unfolding checked
  line_refused {x} {q = q} h e f = line_read h ∙ then_found _ e ∙ ap (λ w. checked w x q) f

  pub line_fine : {x : Pair} {q : ℕ} → i < max_pairs → pair_at t at ≡ found x q → also_test groups room low i x ≡ Fine → also_line t groups room low i at ≡ found x q
  unfolding checked
  line_fine {x} {q} h e f = line_read h ∙ then_found _ e ∙ ap (λ w. checked w x q) f

  -- What a line that is read says.
  pub record LinePasses (x : Pair) (next : ℕ) : Type 0 where
    pub few : i < max_pairs
    pub read : pair_at t at ≡ found x next
    pub digits : PairDigits x
    pub fine : also_test groups room low i x ≡ Fine
    pub passes : PairPasses groups room low i x

  pub line_passed : {x : Pair} {next : ℕ} → also_line t groups room low i at ≡ found x next → LinePasses x next
  line_passed {x} {next} q = by_count (leb max_pairs i) refl
    where
      by_count : (b : Bool) → leb max_pairs i ≡ b → LinePasses x next
      by_count true e = let z : ◌≡◌ {A = ℕ} 0 1 = cc (line_past (leb-true max_pairs i e)) in absurd (omega arith)
      by_count false e =
          let h = leb-false max_pairs i e in
          let f = then_value (pair_at t at) (λ y p. checked (also_test groups room low i y) y p) (sym (line_read h) ∙ q) in
          let w = checked_fine (also_test groups room low i f.0) f.0 f.1 f.3 in
          let same : f.0 ≡ x = checked_value (also_test groups room low i f.0) f.0 f.1 f.3 in
          let next_is : f.1 ≡ next = checked_next (also_test groups room low i f.0) f.0 f.1 f.3 in
          let r : pair_at t at ≡ found x next = f.2 ∙ ap (λ y. found y f.1) same ∙ ap (λ p. found x p) next_is in
          let u : also_test groups room low i x ≡ Fine = ap (also_test groups room low i) (sym same) ∙ w in
          record { few = h; read = r; digits = pair_digits t at r; fine = u; passes = also_passed groups room low i x u }
