-- Lines whose number is tested: one that is refused otherwise than with 16 stands there whole, and its number fails the test; and the other way round.
use Prim.Native.Nat.{ℕ, zero, suc, ◌+◌, ◌≤◌, ◌<◌}
use native.Mathlib.Omega.{arith}
use Rattle.std.proofs.Common.{add-zero, ◌∙◌}
use Rattle.std.proofs.Math.Path.{◌≡◌, refl, ap, sym, subst}
use mathlib.Core.List.{List, [], ◌∷◌, ◌++◌, append_assoc}
use Rattle.std.proofs.Math.ListN.{length}
use Rattle.base_limits.specs.Limits.{group_digits}
use Rattle.base_limits.specs.declared.Verdict.{Verdict}
use Rattle.base_limits.specs.declared.Verdict.TheVariants.{Fine, Refused}
use Rattle.format_write.specs.Key.{node_key}
use Rattle.format_write.specs.Text.{line_of}
use Rattle.format_read.specs.Step.{Step, found, refused, ◌then◌, checked}
use Rattle.format_read.specs.Lines.{following, lines_from, text_of}
use Rattle.format_read.specs.Stands.{Stands}
use Rattle.format_read.specs.Language.{EachFrom, none_from, more_from}
use Rattle.format_read.proofs.Laws.Language.{text_stands}
use Rattle.format_read.proofs.Laws.Stands.{stands_append, stands_first, stands_second}
use Rattle.format_read.proofs.Laws.Step.{then_found, Stops, early, late, then_stops}
use Rattle.format_read.specs.Number.{number_line, OfDigits}
use Rattle.format_read.proofs.Laws.Keyed.{Passes, reads_line, reads_tested}
use Rattle.format_survey.specs.Line.{group_line}
use Rattle.format_read.proofs.Laws.OnlyMalformed.{only_line}

-- ---- a line whose number is tested

-- The line stands there, and its number fails the test.
pub record FailingLine (key : List ℕ) (limit : ℕ) (test : ℕ → Verdict) (t : List ℕ) (at n p : ℕ) : Type 0 where
  pub value : ℕ
  pub digits : OfDigits limit value
  pub fails : test value ≡ Refused n p
  pub stands : Stands t at (line_of key value)

-- The line stands there, and its number passes the test.
pub record PassingLine (key : List ℕ) (limit : ℕ) (test : ℕ → Verdict) (t : List ℕ) (at value next : ℕ) : Type 0 where
  pub passes : Passes limit test value
  pub stands : Stands t at (line_of key value)
  pub ends : next ≡ at + length (line_of key value)

checked_refused : {A : Type 0} (w : Verdict) (a : A) (q : ℕ) {n p : ℕ} → checked w a q ≡ refused n p → w ≡ Refused n p
unfolding checked
checked_refused Fine a q e = let z : ◌≡◌ {A = ℕ} 0 1 = cc in absurd (omega arith)
checked_refused {A} (Refused i j) a q {n} {p} e = let x : i ≡ n = cc in let y : j ≡ p = cc in cc

module _ (key : List ℕ) (limit : ℕ) (positive : 1 ≤ limit) (test : ℕ → Verdict) (t : List ℕ) (at : ℕ) where
  abbrev line : Step ℕ
  line = number_line key limit t at then λ x p. checked (test x) x p

  pub line_fails : {n p : ℕ} → at ≤ length t → line ≡ refused n p → (n ≡ 16 → ⊥) → FailingLine key limit test t at n p
  line_fails {n} {p} h e not_16 = by_stop (then_stops (number_line key limit t at) _ e)
    where
      by_stop : Stops (number_line key limit t at) (λ x p. checked (test x) x p) n p → FailingLine key limit test t at n p
      by_stop (early q) = absurd (not_16 ((only_line key limit t at).is n p q))
      by_stop (late a q x y) =
          let w = (reads_line key limit positive).sound t at a q h x in
          record { value = a; digits = w.member.holds; fails = checked_refused (test a) a q y; stands = (text_stands w).0 }

  pub fails_line : {n p : ℕ} → FailingLine key limit test t at n p → line ≡ refused n p
  unfolding checked
  fails_line f =
      then_found _ ((reads_line key limit positive).complete t at f.value (line_of key f.value) (record { holds = f.digits; word = refl }) f.stands)
      ∙ ap (λ w. checked w f.value (at + length (line_of key f.value))) f.fails

  module _ (never : (x n p : ℕ) → test x ≡ Refused n p → n ≡ 16 → ⊥) where
    pub line_passes : {x p : ℕ} → at ≤ length t → line ≡ found x p → PassingLine key limit test t at x p
    line_passes {x} {p} h e =
        let w = (reads_tested key limit positive test never).sound t at x p h e in
        let s = text_stands w in
        record { passes = w.member.holds; stands = s.0; ends = s.1 }

    pub passes_line : (x : ℕ) → Passes limit test x → Stands t at (line_of key x) → line ≡ found x (at + length (line_of key x))
    passes_line x h s = (reads_tested key limit positive test never).complete t at x (line_of key x) (record { holds = h; word = refl }) s

pub passing_fits : {key : List ℕ} {limit : ℕ} {test : ℕ → Verdict} {t : List ℕ} {at x p : ℕ} → PassingLine key limit test t at x p → p ≤ length t
passing_fits s = let f = s.stands.fits in let e = s.ends in omega arith

-- ---- group lines one after another

-- Lines whose groups pass, and the line behind them, whose group fails.
pub record FailingGroup (test : ℕ → ℕ → Verdict) (t : List ℕ) (count i at n p : ℕ) : Type 0 where
  pub before : List ℕ
  pub value : ℕ
  pub place : ℕ
  pub there : place ≡ i + length before
  pub inside : length before < count
  pub each : EachFrom (λ v. Passes group_digits (test v)) i before
  pub digits : OfDigits group_digits value
  pub fails : test place value ≡ Refused n p
  pub stands : Stands t at (text_of (line_of node_key) before ++ line_of node_key value)

module _ (test : ℕ → ℕ → Verdict) (never : (v x n p : ℕ) → test v x ≡ Refused n p → n ≡ 16 → ⊥) (t : List ℕ) where
  group_first : {count i at n p : ℕ} → FailingLine node_key group_digits (test i) t at n p → FailingGroup test t (suc count) i at n p
  unfolding text_of
  group_first {count} {i} f = record { before = []; value = f.value; place = i; there = sym (add-zero i); inside = omega arith; each = none_from; digits = f.digits; fails = f.fails; stands = f.stands }

  group_later : {count i at a q n p : ℕ} → PassingLine node_key group_digits (test i) t at a q → FailingGroup test t count (i + 1) q n p → FailingGroup test t (suc count) i at n p
  unfolding text_of
  group_later {count} {i} {at} {a} s f =
      let h = f.there in
      let k = f.inside in
      record {
        before = a ∷ f.before;
        value = f.value;
        place = f.place;
        there = omega arith;
        inside = omega arith;
        each = more_from s.passes f.each;
        digits = f.digits;
        fails = f.fails;
        stands =
            subst (Stands t at) (sym (append_assoc (line_of node_key a) (text_of (line_of node_key) f.before) (line_of node_key f.value)))
            (stands_append (line_of node_key a) _ s.stands (subst (λ (k : ℕ). Stands t k (text_of (line_of node_key) f.before ++ line_of node_key f.value)) s.ends f.stands));
      }

  pub lines_fail : (count i at : ℕ) {n p : ℕ} → at ≤ length t → (lines_from (group_line test t) count i at).end ≡ refused n p → (n ≡ 16 → ⊥) → FailingGroup test t count i at n p
  unfolding lines_from following group_line
  lines_fail zero i at h e not_16 = let z : ◌≡◌ {A = ℕ} 0 1 = cc in absurd (omega arith)
  lines_fail (suc count) i at {n} {p} h e not_16 = by_line (group_line test t i at) refl (λ q b d. lines_fail count (i + 1) q b d not_16) e
    where
      by_line : (s : Step ℕ) → group_line test t i at ≡ s → ((q : ℕ) → q ≤ length t → (lines_from (group_line test t) count (i + 1) q).end ≡ refused n p → FailingGroup test t count (i + 1) q n p)
          → (following s (λ a next. lines_from (group_line test t) count (i + 1) next)).end ≡ refused n p → FailingGroup test t (suc count) i at n p
      by_line (found a q) k ih d =
          let s = line_passes node_key group_digits (omega arith) (test i) t at (never i) h k in
          group_later s (ih q (passing_fits s) d)
      by_line (refused x y) k ih d =
          let same : ◌≡◌ {A = Step ℕ} (refused x y) (refused n p) = d in
          group_first (line_fails node_key group_digits (omega arith) (test i) t at h (k ∙ same) not_16)

  pub fail_lines : (value place n p : ℕ) → OfDigits group_digits value → test place value ≡ Refused n p
      → (before : List ℕ) (count i at : ℕ) → length before < count → EachFrom (λ v. Passes group_digits (test v)) i before → place ≡ i + length before
      → Stands t at (text_of (line_of node_key) before ++ line_of node_key value)
      → (lines_from (group_line test t) count i at).end ≡ refused n p
  unfolding lines_from following group_line text_of
  fail_lines value place n p d f before zero i at b each e s = absurd (omega arith)
  fail_lines value place n p d f [] (suc count) i at b each e s =
      let same : place ≡ i = omega arith in
      let g : test i value ≡ Refused n p = subst (λ (k : ℕ). test k value ≡ Refused n p) same f in
      ap (λ (z : Step ℕ). (following z (λ a next. lines_from (group_line test t) count (i + 1) next)).end)
      (fails_line node_key group_digits (omega arith) (test i) t at (record { value = value; digits = d; fails = g; stands = s }))
  fail_lines value place n p d f (a ∷ l) (suc count) i at b (more_from h r) e s =
      let st : Stands t at (line_of node_key a ++ (text_of (line_of node_key) l ++ line_of node_key value)) = subst (Stands t at) (append_assoc (line_of node_key a) (text_of (line_of node_key) l) (line_of node_key value)) s in
      ap (λ (z : Step ℕ). (following z (λ a next. lines_from (group_line test t) count (i + 1) next)).end)
      (passes_line node_key group_digits (omega arith) (test i) t at (never i) a h (stands_first (line_of node_key a) _ st))
      ∙ fail_lines value place n p d f l count (i + 1) (at + length (line_of node_key a)) (omega arith) r (omega arith) (stands_second (line_of node_key a) _ st)
