-- How far reading a number looks: its digits and the byte that ends it.
use Rattle.std.specs.Prelude.{ℕ, ◌+◌, ◌-◌, ◌≤◌, Bool, true, false, cond, List, [], ◌∷◌, ◌≡◌, refl, eqb, length, take, drop}
use Rattle.std.proofs.Common.{arith, ap, sym, ◌∙◌, subst}
use Rattle.std.proofs.lemmas.Bool.{eqb-false}
use Rattle.base_limits.specs.declared.Verdict.{Verdict}
use Rattle.base_limits.specs.declared.Verdict.TheVariants.{Fine}
use Rattle.format_read.specs.Bytes.{fixed_at}
use Rattle.format_read.specs.Items.{Goes}
use Rattle.format_read.specs.Language.{LooksWithin, Any}
use Rattle.format_read.proofs.Laws.Local.{local_checked, local_then, local_as, local_fixed, drop_take}
use Rattle.format_read.proofs.Laws.Stands.{take_less}
use Rattle.format_read.proofs.Laws.Step.{then_found, then_refused, then_value}
use Rattle.format_read.specs.Step.{Step, found, refused, ◌then◌, checked}
use Rattle.format_write.specs.Decimal.{spelled_after}
use Rattle.format_read.proofs.Laws.Number.{numeral_range, numeral_width}
use Rattle.format_read.proofs.Laws.NumberWord.{numeral_same}
use Rattle.format_read.specs.Number.{numeral_end, numeral_at, number_at, number_to, number_line, line_bytes}
use Rattle.format_write.specs.Key.{newline}

numeral_alike : (limit : ℕ) (t u : List ℕ) (at : ℕ) → 1 ≤ limit → take (at + (limit + 1)) t ≡ take (at + (limit + 1)) u → numeral_at limit t at ≡ numeral_at limit u at
unfolding numeral_at
numeral_alike limit t u at h e =
    let m = (numeral_range t limit at).most in
    let f = (numeral_range t limit at).from in
    let n : numeral_end limit u at ≡ numeral_end limit t at = numeral_same t u limit at (at + (limit + 1)) e (omega arith) (omega arith) in
    let k : ℕ = numeral_end limit t at - at in
    sym (drop_take at k t)
    ∙ ap (drop at) (take_less t u (at + k) (at + (limit + 1)) (omega arith) e)
    ∙ drop_take at k u
    ∙ ap (λ (x : ℕ). take (x - at) (drop at u)) (sym n)

number_alike : (limit : ℕ) (t u : List ℕ) (at : ℕ) → 1 ≤ limit → take (at + (limit + 1)) t ≡ take (at + (limit + 1)) u → number_at limit t at ≡ number_at limit u at
unfolding number_at
number_alike limit t u at h e =
    ap (λ (w : List ℕ). cond (eqb (length w) 0) (refused 16 at) (found (spelled_after 0 w) (at + length w))) (numeral_alike limit t u at h e)

number_near : (limit : ℕ) (t : List ℕ) (at v p : ℕ) → 1 ≤ limit → number_at limit t at ≡ found v p → p ≤ at + limit
unfolding number_at
number_near limit t at v p h e =
    let w = (numeral_width t limit at).most in
    by_width (eqb (length (numeral_at limit t at)) 0) e
  where
    by_width : (z : Bool) → cond z (refused 16 at) (found (spelled_after 0 (numeral_at limit t at)) (at + length (numeral_at limit t at))) ≡ found v p → p ≤ at + limit
    by_width true q = let z : ◌≡◌ {A = ℕ} 0 1 = cc in absurd (omega arith)
    by_width false q = let w = (numeral_width t limit at).most in let s : at + length (numeral_at limit t at) ≡ p = cc in omega arith

pub local_number : (limit stop : ℕ) → 1 ≤ limit → LooksWithin (number_to limit stop) (limit + 1) Any
unfolding number_to
local_number limit stop h =
    record {
      same = λ t u at e. by_number t u at (number_at limit t at) refl (number_alike limit t u at h e) e;
      near = λ t at v p e. (end t at v p e, tt);
    }
  where
    ended : List ℕ → ℕ → ℕ → Step ℕ
    ended t n p = fixed_at (stop ∷ []) t p then λ z q. found n q

    by_stop : (t u : List ℕ) (n p : ℕ) → take (p + 1) t ≡ take (p + 1) u → ended t n p ≡ ended u n p
    by_stop t u n p e = ap (λ (s : Step ℕ). s then λ z q. found n q) ((local_fixed (stop ∷ [])).same t u p e)

    by_number : (t u : List ℕ) (at : ℕ) (x : Step ℕ) → number_at limit t at ≡ x → number_at limit t at ≡ number_at limit u at → take (at + (limit + 1)) t ≡ take (at + (limit + 1)) u
        → (number_at limit t at then λ n p. ended t n p) ≡ (number_at limit u at then λ n p. ended u n p)
    by_number t u at (found n p) i k e =
        let m = number_near limit t at n p h i in
        then_found _ i ∙ by_stop t u n p (take_less t u (p + 1) (at + (limit + 1)) (omega arith) e) ∙ sym (then_found _ (sym k ∙ i))
    by_number t u at (refused n p) i k e = then_refused _ i ∙ sym (then_refused _ (sym k ∙ i))

    end : (t : List ℕ) (at v p : ℕ) → (number_at limit t at then λ n p. ended t n p) ≡ found v p → p ≤ at + (limit + 1)
    end t at v p e =
        let f = then_value (number_at limit t at) (λ n p. ended t n p) e in
        let m = number_near limit t at f.0 f.1 h f.2 in
        let g = then_value (fixed_at (stop ∷ []) t f.1) (λ z q. found f.0 q) f.3 in
        let n = ((local_fixed (stop ∷ [])).near t f.1 g.0 g.1 g.2).0 in
        let q : g.1 ≡ p = cc g.3 in
        omega arith

pub local_tested : (key : List ℕ) (limit : ℕ) → 1 ≤ limit → (test : ℕ → Verdict) → LooksWithin (λ t at. number_line key limit t at then λ x p. checked (test x) x p) (line_bytes key limit) (λ x. test x ≡ Fine)
unfolding number_line
local_tested key limit positive test =
    local_as (λ t at. refl) (omega arith) (λ a x. x)
    (local_then (local_then {Q = Any} (local_fixed key) (λ z x. local_number limit newline positive)) (λ n x. passed n))
  where
    passed : (n : ℕ) → LooksWithin (λ t at. checked (test n) n at) 0 (λ x. test x ≡ Fine)
    passed n = local_as (λ t at. refl) (omega arith) (λ a x. subst (λ (k : ℕ). test k ≡ Fine) x.0 x.1) (local_checked (test n) n)

pub number_goes : (limit : ℕ) (t : List ℕ) (at : ℕ) {v p : ℕ} → number_at limit t at ≡ found v p → Goes t at p
unfolding number_at
number_goes limit t at {v} {p} e = by_width (eqb (length (numeral_at limit t at)) 0) refl e
  where
    by_width : (z : Bool) → eqb (length (numeral_at limit t at)) 0 ≡ z → cond z (refused 16 at) (found (spelled_after 0 (numeral_at limit t at)) (at + length (numeral_at limit t at))) ≡ found v p → Goes t at p
    by_width true w q = let z : ◌≡◌ {A = ℕ} 0 1 = cc in absurd (omega arith)
    by_width false w q =
        let n = eqb-false (length (numeral_at limit t at)) 0 w in
        let i = (numeral_width t limit at).inside (omega arith) in
        let same : at + length (numeral_at limit t at) ≡ p = cc in
        record { on = omega arith; inside = omega arith }
