-- A number that must be one of some: the words that it reads are the digits of these, and what it refuses begins none of them.
use Prim.Native.Nat.{ℕ, zero, suc, ◌+◌, ◌*◌, ◌-◌, ◌/◌, ◌%◌, ◌^◌, ◌≤◌, ◌<◌}
use Rattle.std.proofs.Math.Nat.{pow-le-pow_right, one-le-pow}
use Rattle.std.proofs.Common.{pow-suc, mul-le-mul_right, mul-le-mul_left, inl, inr, ◌∙◌, length-append, eqb-true, eq-eqb, ne_eqb}
use native.Mathlib.Omega.{arith}
use Rattle.std.specs.Prelude.{Bool, ◌&&◌, ◌||◌, ◌⊎◌, ◌≡◌, eqb, ltb}
use Rattle.std.proofs.Math.Bool.{true, false, cond}
use mathlib.Core.List.{List, [], ◌∷◌, ◌++◌}
use Rattle.std.proofs.Math.Path.{refl, ap, sym, subst}
use Rattle.std.proofs.Math.ListN.{length, get_or}
use Rattle.std.proofs.lemmas.Bool.{eqb-false}
use Rattle.base_finite.specs.Below.{any_below}
use Rattle.base_finite.specs.Laws.Below.{any_intro, any_elim}
use Rattle.base_finite.specs.Laws.Test.{and_left, and_right, and_both, or_cases, or_left, or_right}
use Rattle.format_write.specs.Decimal.{decimal, spelled_after}
use Rattle.format_write.proofs.Laws.Decimal.{decimal_small, spelled_last}
use Rattle.format_read.specs.Language.{Reads, Empty, Text}
use Rattle.format_read.proofs.Laws.Bytes.{no_bool}
use Rattle.format_read.proofs.Laws.Language.{reads_as, reads_value}
use Rattle.format_read.specs.Step.{Step, found, refused}
use Rattle.format_read.proofs.Laws.Byte.{digit_byte, digit_facts}
use Rattle.format_read.proofs.Laws.Decimal.{Numeral, decimal_of_digits, decimal_numeral}
use Rattle.format_read.proofs.Laws.Digits.{Digits, decimal_below}
use Rattle.format_read.proofs.Laws.Digits.{none, one}
use Rattle.format_read.proofs.Laws.NumberWord.{digits_most}
use Rattle.format_read.specs.Number.{class_of, is_digit, OfDigits, number_text}
use Rattle.format_stp.proofs.Laws.ByByte.{reads_by_byte}
use Rattle.format_stp.specs.StpNumber.{leads_to, reaches, opens, with_digit, goes_on, ends_free, digits_after, more_after, free_to}
use Rattle.format_stp.specs.StpWord.{by_byte, ByByte}

-- ---- the digits behind those of a number

pub record Spelled (more x v : ℕ) : Type 0 where
  pub digits : List ℕ
  pub are : Digits digits
  pub few : length digits ≤ more
  pub value : spelled_after x digits ≡ v

digits_append : {ds : List ℕ} {d : ℕ} → Digits ds → 48 ≤ d → d ≤ 57 → Digits (ds ++ (d ∷ []))
digits_append none l h = one l h none
digits_append (one a b r) l h = one a b (digits_append r l h)

pub leads_spelled : (more x v : ℕ) → leads_to more x v ≡ true → Spelled more x v
unfolding leads_to spelled_after
leads_spelled zero x v e = record { digits = []; are = none; few = omega arith; value = eqb-true x v e }
leads_spelled (suc more) x v e = by_case (or_cases (eqb x v) (leads_to more x (v / 10)) e) (λ h. leads_spelled more x (v / 10) h)
  where
    by_case : (eqb x v ≡ true) ⊎ (leads_to more x (v / 10) ≡ true) → (leads_to more x (v / 10) ≡ true → Spelled more x (v / 10)) → Spelled (suc more) x v
    by_case (inl h) ih = record { digits = []; are = none; few = omega arith; value = eqb-true x v h }
    by_case (inr h) ih =
        let s = ih h in
        let d : ℕ = 48 + v % 10 in
        let l = length-append s.digits (d ∷ []) in
        let f = s.few in
        let q : spelled_after x s.digits ≡ v / 10 = s.value in
        let w : v / 10 * 10 + (d - 48) ≡ v = omega arith in
        record {
          digits = s.digits ++ (d ∷ []);
          are = digits_append s.are (omega arith) (omega arith);
          few = omega arith;
          value = spelled_last s.digits x d ∙ ap (λ (k : ℕ). k * 10 + (d - 48)) q ∙ w;
        }

-- What leads to v with its last digit dropped leads to v.
leads_less : (more y v : ℕ) → leads_to more y v ≡ true → leads_to (suc more) (y / 10) v ≡ true
unfolding leads_to
leads_less zero y v e = or_right (eqb (y / 10) v) _ (eq-eqb (y / 10) (v / 10) (ap (λ (k : ℕ). k / 10) (eqb-true y v e)))
leads_less (suc more) y v e = by_case (or_cases (eqb y v) (leads_to more y (v / 10)) e) (λ h. leads_less more y (v / 10) h)
  where
    by_case : (eqb y v ≡ true) ⊎ (leads_to more y (v / 10) ≡ true) → (leads_to more y (v / 10) ≡ true → leads_to (suc more) (y / 10) (v / 10) ≡ true)
        → (eqb (y / 10) v || leads_to (suc more) (y / 10) (v / 10)) ≡ true
    by_case (inl h) ih = or_right (eqb (y / 10) v) _ (or_left (eqb (y / 10) (v / 10)) _ (eq-eqb (y / 10) (v / 10) (ap (λ (k : ℕ). k / 10) (eqb-true y v h))))
    by_case (inr h) ih = or_right (eqb (y / 10) v) _ (ih h)

leads_self : (more x : ℕ) → leads_to more x x ≡ true
unfolding leads_to
leads_self zero x = eq-eqb x x refl
leads_self (suc more) x = or_left (eqb x x) _ (eq-eqb x x refl)

pub spelled_leads : (more x : ℕ) {ds : List ℕ} → Digits ds → length ds ≤ more → leads_to more x (spelled_after x ds) ≡ true
unfolding spelled_after
spelled_leads more x none h = leads_self more x
spelled_leads zero x (one l m r) h = absurd (omega arith)
spelled_leads (suc more) x (one {d = d} {ds = ds} l m r) h =
    let y : ℕ = x * 10 + (d - 48) in
    let e : y / 10 ≡ x = omega arith in
    subst (λ (k : ℕ). leads_to (suc more) k (spelled_after y ds) ≡ true) e (leads_less more y (spelled_after y ds) (spelled_leads more y r (omega arith)))

-- ---- what opens

module _ (free : ℕ → Bool) (high more x : ℕ) where
  pub opens_zero : reaches free more x 0 ≡ true → opens free high more x ≡ true
  unfolding opens
  opens_zero e = or_left (reaches free more x 0) _ e

  pub opens_later : (i : ℕ) → i < high → reaches free more x (i + 1) ≡ true → opens free high more x ≡ true
  unfolding opens
  opens_later i h e = or_right (reaches free more x 0) _ (any_intro high (λ i. reaches free more x (i + 1)) i h e)

  pub opens_none : reaches free more x 0 ≡ false → any_below high (λ i. reaches free more x (i + 1)) ≡ false → opens free high more x ≡ false
  unfolding opens
  opens_none e f = rw (e, f) refl

  opens_reached : (v : ℕ) → v ≤ high → (free v && leads_to more x v) ≡ true → opens free high more x ≡ true
  unfolding reaches
  opens_reached zero h e = opens_zero e
  opens_reached (suc v) h e = opens_later v (omega arith) (subst (λ (k : ℕ). (free k && leads_to more x k) ≡ true) (one_more_law v) e)
    where
      one_more_law : (v : ℕ) → suc v ≡ v + 1
      one_more_law v = omega arith

  -- A free number opens itself.
  pub opens_itself : free x ≡ true → x ≤ high → opens free high more x ≡ true
  opens_itself f h = opens_reached x h (and_both (free x) (leads_to more x x) f (leads_self more x))

-- ---- the words

-- A free number of at most so many digits.
pub record FreeNumber (free : ℕ → Bool) (limit v : ℕ) : Type 0 where
  pub is : free v ≡ true
  pub digits : OfDigits limit v

module _ (free : ℕ → Bool) (high stop : ℕ) (no_digit : is_digit (class_of stop) ≡ false) (below : (v : ℕ) → free v ≡ true → v ≤ high) where
  -- The rest of a free number behind the digits of x.
  record Rest (more x v : ℕ) (w : List ℕ) : Type 0 where
    rest : Spelled more x v
    is : free v ≡ true
    word : w ≡ rest.digits ++ stop ∷ []

  opens_spelled : (more x v : ℕ) → Spelled more x v → free v ≡ true → opens free high more x ≡ true
  opens_spelled more x v s f = opens_at more x v (below v f) f (subst (λ (k : ℕ). leads_to more x k ≡ true) s.value (spelled_leads more x s.are s.few))
    where
      opens_at : (more x v : ℕ) → v ≤ high → free v ≡ true → leads_to more x v ≡ true → opens free high more x ≡ true
      opens_at more x v b f l = opens_reached free high more x v b (and_both (free v) (leads_to more x v) f l)

  -- What opens: a free number that is spelled on from x.
  record Opened (more x : ℕ) : Type 0 where
    value : ℕ
    spelled : Spelled more x value
    is : free value ≡ true

  opened : (more x : ℕ) → opens free high more x ≡ true → Opened more x
  unfolding opens reaches
  opened more x e = by_case (or_cases (reaches free more x 0) (any_below high (λ i. reaches free more x (i + 1))) e)
    where
      at : (v : ℕ) → (free v && leads_to more x v) ≡ true → Opened more x
      at v h = record { value = v; spelled = leads_spelled more x v (and_right (free v) (leads_to more x v) h); is = and_left (free v) (leads_to more x v) h }

      by_case : (reaches free more x 0 ≡ true) ⊎ (any_below high (λ i. reaches free more x (i + 1)) ≡ true) → Opened more x
      by_case (inl h) = at 0 h
      by_case (inr h) = let f = any_elim high (λ i. reaches free more x (i + 1)) h in at (f.at + 1) f.passes

  ends_stop : (x : ℕ) → free x ≡ true → ends_free free stop x stop ≡ true
  unfolding ends_free
  ends_stop x f = and_both (eqb stop stop) (free x) (eq-eqb stop stop refl) f

  ends_byte : (x b : ℕ) → ends_free free stop x b ≡ true → (b ≡ stop) × (free x ≡ true)
  unfolding ends_free
  ends_byte x b e = (eqb-true b stop (and_left (eqb b stop) (free x) e), and_right (eqb b stop) (free x) e)

  -- No digit: the number ends.
  ended : (more x v : ℕ) (w : List ℕ) (b : ℕ) → ends_free free stop x b ≡ true → Empty x v w → Rest more x v (b ∷ w)
  unfolding spelled_after
  ended more x v w b e m =
      let y = ends_byte x b e in
      record {
        rest = record { digits = []; are = none; few = omega arith; value = sym m.value };
        is = subst (λ (k : ℕ). free k ≡ true) (sym m.value) y.1;
        word = cc (y.0, m.word);
      }

  digits_none_left : (ds : List ℕ) → length ds ≤ 0 → ds ≡ []
  digits_none_left [] h = refl
  digits_none_left (d ∷ ds) h = absurd (omega arith)

  -- A digit that goes on to a free number.
  going : (more x b : ℕ) → goes_on free high more x b ≡ true → (is_digit (class_of b) ≡ true) × (opens free high more (with_digit x b) ≡ true)
  unfolding goes_on
  going more x b e =
      let d = is_digit (class_of b) in
      let o = opens free high more (with_digit x b) in
      (and_left d o e, and_right d o e)

  goes : (more x b v : ℕ) → 48 ≤ b → b ≤ 57 → Spelled more (with_digit x b) v → free v ≡ true → goes_on free high more x b ≡ true
  unfolding goes_on
  goes more x b v l h s f = and_both (is_digit (class_of b)) (opens free high more (with_digit x b)) (digit_byte b l h) (opens_spelled more (with_digit x b) v s f)

  -- The words behind a byte that passes.
  data Next (more x b v : ℕ) (w : List ℕ) : Type 0 where
    digit : is_digit (class_of b) ≡ true → Rest more (with_digit x b) v w → Next more x b v w
    stop_byte_law : is_digit (class_of b) ≡ false → Empty x v w → Next more x b v w

  abbrev pass : (more x b : ℕ) → Bool
  pass more x b = goes_on free high more x b || ends_free free stop x b

  abbrev next : (more x b : ℕ) → List ℕ → ℕ → Step ℕ
  next more x b = cond (is_digit (class_of b)) (digits_after free high stop more (with_digit x b)) (λ t at. found x at)

  next_reads : (more x : ℕ) → ((y : ℕ) → opens free high more y ≡ true → Reads (digits_after free high stop more y) (Rest more y) (Rest more y))
      → (b : ℕ) → pass more x b ≡ true → Reads (next more x b) (Next more x b) (Next more x b)
  next_reads more x ih b p = by_digit (is_digit (class_of b)) refl
    where
      opens_here : is_digit (class_of b) ≡ true → (goes_on free high more x b ≡ true) ⊎ (ends_free free stop x b ≡ true) → opens free high more (with_digit x b) ≡ true
      opens_here d (inl g) = (going more x b g).1
      opens_here d (inr e) = no_bool (sym d ∙ ap (λ (k : ℕ). is_digit (class_of k)) (ends_byte x b e).0 ∙ no_digit)

      digit_back : is_digit (class_of b) ≡ true → (v : ℕ) (w : List ℕ) → Next more x b v w → Rest more (with_digit x b) v w
      digit_back d v w (digit e m) = m
      digit_back d v w (stop_byte_law e m) = no_bool (sym d ∙ e)

      stop_back : is_digit (class_of b) ≡ false → (v : ℕ) (w : List ℕ) → Next more x b v w → Empty x v w
      stop_back d v w (digit e m) = no_bool (sym e ∙ d)
      stop_back d v w (stop_byte_law e m) = m

      same : (c : Bool) → is_digit (class_of b) ≡ c → (t : List ℕ) (at : ℕ) → cond c (digits_after free high stop more (with_digit x b)) (λ t at. found x at) t at ≡ next more x b t at
      same c e t at = ap (λ (c : Bool). cond c (digits_after free high stop more (with_digit x b)) (λ t at. found x at) t at) (sym e)

      by_digit : (c : Bool) → is_digit (class_of b) ≡ c → Reads (next more x b) (Next more x b) (Next more x b)
      by_digit true d = reads_as (same true d) (λ v w m. digit d m) (digit_back d) (λ v w m. digit d m) (digit_back d) (ih (with_digit x b) (opens_here d (or_cases (goes_on free high more x b) (ends_free free stop x b) p)))
      by_digit false d = reads_as (same false d) (λ v w m. stop_byte_law d m) (stop_back d) (λ v w m. stop_byte_law d m) (stop_back d) (reads_value x)

  -- A byte with which something goes on.
  record Going (more x : ℕ) : Type 0 where
    byte : ℕ
    ok : pass more x byte ≡ true

  some_byte : (more x : ℕ) → opens free high (suc more) x ≡ true → Going more x
  unfolding spelled_after with_digit
  some_byte more x e = let o = opened (suc more) x e in by_digits o.value o.is o.spelled.digits o.spelled.are o.spelled.few o.spelled.value
    where
      by_digits : (v : ℕ) → free v ≡ true → (ds : List ℕ) → Digits ds → length ds ≤ suc more → spelled_after x ds ≡ v → Going more x
      by_digits v f [] none h q = record { byte = stop; ok = or_right (goes_on free high more x stop) (ends_free free stop x stop) (ends_stop x (subst (λ (k : ℕ). free k ≡ true) (sym q) f)) }
      by_digits v f (d ∷ ds) (one l m r) h q = record { byte = d; ok = or_left (goes_on free high more x d) (ends_free free stop x d) (goes more x d v l m (record { digits = ds; are = r; few = omega arith; value = q }) f) }

  rest_to : (more x v : ℕ) (w : List ℕ) → ByByte (pass more x) (Next more x) v w → Rest (suc more) x v w
  unfolding spelled_after with_digit
  rest_to more x v w m = subst (Rest (suc more) x v) (sym m.whole) (by_next m.member (or_cases (goes_on free high more x m.byte) (ends_free free stop x m.byte) m.passes))
    where
      by_next : Next more x m.byte v m.rest → (goes_on free high more x m.byte ≡ true) ⊎ (ends_free free stop x m.byte ≡ true) → Rest (suc more) x v (m.byte ∷ m.rest)
      by_next (digit d r) p =
          let f = digit_facts m.byte d in
          let s = r.rest in
          let few = s.few in
          record {
            rest = record { digits = m.byte ∷ s.digits; are = one f.0 f.1 s.are; few = omega arith; value = s.value };
            is = r.is;
            word = ap (λ (l : List ℕ). m.byte ∷ l) r.word;
          }
      by_next (stop_byte_law d e) (inl g) = no_bool (sym (going more x m.byte g).0 ∙ d)
      by_next (stop_byte_law d e) (inr g) = ended (suc more) x v m.rest m.byte g e

  rest_from : (more x v : ℕ) (w : List ℕ) → Rest (suc more) x v w → ByByte (pass more x) (Next more x) v w
  unfolding spelled_after with_digit
  rest_from more x v w m = by_digits m.rest.digits m.rest.are m.rest.few m.rest.value m.word
    where
      by_digits : (ds : List ℕ) → Digits ds → length ds ≤ suc more → spelled_after x ds ≡ v → w ≡ ds ++ stop ∷ [] → ByByte (pass more x) (Next more x) v w
      by_digits [] none h q e =
          record {
            byte = stop;
            rest = [];
            passes = or_right (goes_on free high more x stop) (ends_free free stop x stop) (ends_stop x (subst (λ (k : ℕ). free k ≡ true) (sym q) m.is));
            member = stop_byte_law no_digit (record { value = sym q; word = refl });
            whole = e;
          }
      by_digits (d ∷ ds) (one a b r) h q e =
          let s : Spelled more (with_digit x d) v = record { digits = ds; are = r; few = omega arith; value = q } in
          record {
            byte = d;
            rest = ds ++ stop ∷ [];
            passes = or_left (goes_on free high more x d) (ends_free free stop x d) (goes more x d v a b s m.is);
            member = digit (digit_byte d a b) (record { rest = s; is = m.is; word = refl });
            whole = e;
          }

  reads_digits : (more x : ℕ) → opens free high more x ≡ true → Reads (digits_after free high stop more x) (Rest more x) (Rest more x)
  unfolding digits_after spelled_after
  reads_digits zero x o = reads_as (λ t at. refl) to from to from (reads_by_byte (ends_free free stop x) (λ b t at. found x at) (λ b e. reads_value x) stop (ends_stop x here))
    where
      here : free x ≡ true
      here =
          let w = opened zero x o in
          let n = digits_none_left w.spelled.digits w.spelled.few in
          subst (λ (k : ℕ). free k ≡ true) (sym w.spelled.value ∙ ap (spelled_after x) n) w.is

      to : (v : ℕ) (w : List ℕ) → ByByte (ends_free free stop x) (λ b. Empty x) v w → Rest 0 x v w
      to v w m = subst (Rest 0 x v) (sym m.whole) (ended 0 x v m.rest m.byte m.passes m.member)

      from : (v : ℕ) (w : List ℕ) → Rest 0 x v w → ByByte (ends_free free stop x) (λ b. Empty x) v w
      from v w m =
          let n = digits_none_left m.rest.digits m.rest.few in
          let q : x ≡ v = sym (ap (spelled_after x) n) ∙ m.rest.value in
          record {
            byte = stop;
            rest = [];
            passes = ends_stop x (subst (λ (k : ℕ). free k ≡ true) (sym q) m.is);
            member = record { value = sym q; word = refl };
            whole = m.word ∙ ap (λ (l : List ℕ). l ++ stop ∷ []) n;
          }
  reads_digits (suc more) x o =
      let g = some_byte more x o in
      reads_as (λ t at. refl) (rest_to more x) (rest_from more x) (rest_to more x) (rest_from more x)
      (reads_by_byte (pass more x) (next more x) (next_reads more x (λ y h. reads_digits more y h)) g.byte g.ok)

  -- ---- the whole number

  module _ (limit : ℕ) (positive : 1 ≤ limit) where
    abbrev first : ℕ → Bool
    first b = goes_on free high (more_after limit b) 0 b

    abbrev After : ℕ → ℕ → List ℕ → Type 0
    After b = Rest (more_after limit b) (with_digit 0 b)

    more_zero : (b : ℕ) → b ≡ 48 → more_after limit b ≡ 0
    unfolding more_after
    more_zero b e = rw (eq-eqb b 48 e) refl

    more_other : (b : ℕ) → (b ≡ 48 → ⊥) → more_after limit b ≡ limit - 1
    unfolding more_after
    more_other b n = rw (ne_eqb b 48 n) refl

    number_to_law : (v : ℕ) (w : List ℕ) → ByByte first After v w → Text (FreeNumber free limit) (number_text stop) v w
    unfolding with_digit spelled_after number_text
    number_to_law v w m = by_zero (eqb m.byte 48) refl
      where
        d : (48 ≤ m.byte) × (m.byte ≤ 57)
        d = digit_facts m.byte (going (more_after limit m.byte) 0 m.byte m.passes).0

        by_zero : (c : Bool) → eqb m.byte 48 ≡ c → Text (FreeNumber free limit) (number_text stop) v w
        by_zero true e =
            let b : m.byte ≡ 48 = eqb-true m.byte 48 e in
            let s = m.member.rest in
            let n : s.digits ≡ [] = digits_none_left s.digits (subst (λ (k : ℕ). length s.digits ≤ k) (more_zero m.byte b) s.few) in
            let q : 0 ≡ v = sym (ap (λ (k : ℕ). 0 * 10 + (k - 48)) b) ∙ sym (ap (spelled_after (0 * 10 + (m.byte - 48))) n) ∙ s.value in
            let p = one-le-pow limit 10 (omega arith) in
            record {
              holds = record { is = m.member.is; digits = omega arith };
              word =
                  m.whole ∙ ap (λ (k : ℕ). k ∷ m.rest) b ∙ ap (λ (l : List ℕ). 48 ∷ l) (m.member.word ∙ ap (λ (l : List ℕ). l ++ stop ∷ []) n)
                  ∙ sym (ap (λ (l : List ℕ). l ++ stop ∷ []) (ap decimal (sym q) ∙ decimal_small 0 (omega arith)));
            }
        by_zero false e =
            let b = eqb-false m.byte 48 e in
            let f = d in
            let lo = f.0 in
            let s = m.member.rest in
            let few = subst (λ (k : ℕ). length s.digits ≤ k) (more_other m.byte b) s.few in
            let g : Digits (m.byte ∷ s.digits) = one f.0 f.1 s.are in
            let above : 48 < m.byte = bigger b lo in
            let q : spelled_after 0 (m.byte ∷ s.digits) ≡ v = s.value in
            let x : decimal v ≡ m.byte ∷ s.digits = ap decimal (sym q) ∙ decimal_of_digits above g in
            let y = decimal_below 0 g in
            let p : 10 ^ suc (length s.digits) ≤ 10 ^ limit = pow-le-pow_right {n = 10} (omega arith) {i = suc (length s.digits)} {j = limit} (omega arith) in
            record {
              holds = record { is = m.member.is; digits = omega arith };
              word = m.whole ∙ ap (λ (l : List ℕ). m.byte ∷ l) m.member.word ∙ sym (ap (λ (l : List ℕ). l ++ stop ∷ []) x);
            }
          where
            bigger : (m.byte ≡ 48 → ⊥) → 48 ≤ m.byte → 48 < m.byte
            bigger n h = omega arith

    number_from : (v : ℕ) (w : List ℕ) → Text (FreeNumber free limit) (number_text stop) v w → ByByte first After v w
    unfolding with_digit spelled_after number_text
    number_from v w m = by_digits (decimal v) refl n.digits n.some n.value
      where
        n : Numeral v (decimal v)
        n = decimal_numeral v

        by_digits : (ds : List ℕ) → decimal v ≡ ds → Digits ds → 0 < length ds → spelled_after 0 ds ≡ v → ByByte first After v w
        by_digits [] e none h q = absurd (omega arith)
        by_digits (d ∷ ds) e (one a b r) h q =
            let s : Spelled (more_after limit d) (with_digit 0 d) v = record { digits = ds; are = r; few = few (eqb d 48) refl; value = q } in
            record {
              byte = d;
              rest = ds ++ stop ∷ [];
              passes = goes (more_after limit d) 0 d v a b s m.holds.is;
              member = record { rest = s; is = m.holds.is; word = refl };
              whole = m.word ∙ ap (λ (l : List ℕ). l ++ stop ∷ []) e;
            }
          where
            long : suc (length ds) ≤ limit
            long = subst (λ (l : List ℕ). length l ≤ limit) e (digits_most limit v positive m.holds.digits)

            leads : 0 < v → 48 < d
            leads h = subst (λ (l : List ℕ). 48 < get_or l 0 0) e (n.head h)

            alone : v ≡ 0 → length ds ≡ 0
            alone z =
                let x : d ∷ ds ≡ 48 ∷ [] = sym e ∙ ap decimal z ∙ decimal_small 0 (omega arith) in
                let l : suc (length ds) ≡ 1 = ap length x in
                omega arith

            few : (c : Bool) → eqb d 48 ≡ c → length ds ≤ more_after limit d
            few false h = let l = long in let k = more_other d (eqb-false d 48 h) in omega arith
            few true h = by_value v refl
              where
                by_value : (x : ℕ) → v ≡ x → length ds ≤ more_after limit d
                by_value zero z = let l = alone z in omega arith
                by_value (suc x) z = let l = leads (omega arith) in let k = eqb-true d 48 h in absurd (omega arith)

    pub reads_free : (v : ℕ) → FreeNumber free limit v → Reads (free_to free high stop limit) (Text (FreeNumber free limit) (number_text stop)) (Text (FreeNumber free limit) (number_text stop))
    unfolding free_to
    reads_free v f =
        let b = number_from v (number_text stop v) (record { holds = f; word = refl }) in
        reads_as (λ t at. refl) number_to_law number_from number_to_law number_from
        (reads_by_byte first (λ b. digits_after free high stop (more_after limit b) (with_digit 0 b))
        (λ b p. reads_digits (more_after limit b) (with_digit 0 b) (going (more_after limit b) 0 b p).1) b.byte b.passes)

-- ---- what is read is free

byte_found : {A : Type 0} (pass : ℕ → Bool) (next : ℕ → List ℕ → ℕ → Step A) (t : List ℕ) (at : ℕ) {a : A} {p : ℕ} → by_byte pass next t at ≡ found a p
    → (pass (get_or t at 0) ≡ true) × (next (get_or t at 0) t (at + 1) ≡ found a p)
unfolding by_byte
byte_found {A} pass next t at {a} {p} e = by_tests (ltb at (length t)) (pass (get_or t at 0)) e
  where
    by_tests : (b c : Bool) → cond (b && c) (next (get_or t at 0) t (at + 1)) (refused 16 at) ≡ found a p → (c ≡ true) × (next (get_or t at 0) t (at + 1) ≡ found a p)
    by_tests true true e = (refl, e)
    by_tests true false e = let z : ◌≡◌ {A = ℕ} 0 1 = cc in absurd (omega arith)
    by_tests false c e = let z : ◌≡◌ {A = ℕ} 0 1 = cc in absurd (omega arith)

module _ (free : ℕ → Bool) (high stop : ℕ) where
  stop_tells : (x b v at p : ℕ) → ends_free free stop x b ≡ true → found x at ≡ found v p → free v ≡ true
  unfolding ends_free
  stop_tells x b v at p e f = let q : x ≡ v = cc in subst (λ (k : ℕ). free k ≡ true) q (and_right (eqb b stop) (free x) e)

  digits_tell : (more x : ℕ) (t : List ℕ) (at v p : ℕ) → digits_after free high stop more x t at ≡ found v p → free v ≡ true
  unfolding digits_after goes_on
  digits_tell zero x t at v p e = let w = byte_found (ends_free free stop x) (λ b t at. found x at) t at e in stop_tells x (get_or t at 0) v (at + 1) p w.0 w.1
  digits_tell (suc more) x t at v p e =
      let w = byte_found (λ b. goes_on free high more x b || ends_free free stop x b) (λ b. cond (is_digit (class_of b)) (digits_after free high stop more (with_digit x b)) (λ t at. found x at)) t at e in
      by_digit (is_digit (class_of (get_or t at 0))) refl (λ y k. digits_tell more y t (at + 1) v p k) w.0 w.1
    where
      by_digit : (c : Bool) → is_digit (class_of (get_or t at 0)) ≡ c → ((y : ℕ) → digits_after free high stop more y t (at + 1) ≡ found v p → free v ≡ true)
          → ((c && opens free high more (with_digit x (get_or t at 0))) || ends_free free stop x (get_or t at 0)) ≡ true
          → cond c (digits_after free high stop more (with_digit x (get_or t at 0))) (λ t at. found x at) t (at + 1) ≡ found v p → free v ≡ true
      by_digit true d ih g e = ih (with_digit x (get_or t at 0)) e
      by_digit false d ih g e = stop_tells x (get_or t at 0) v (at + 1) p g e

  pub free_tells : (limit : ℕ) (t : List ℕ) (at v p : ℕ) → free_to free high stop limit t at ≡ found v p → free v ≡ true
  unfolding free_to
  free_tells limit t at v p e =
      digits_tell (more_after limit (get_or t at 0)) (with_digit 0 (get_or t at 0)) t (at + 1) v p
      (byte_found (λ b. goes_on free high (more_after limit b) 0 b) (λ b. digits_after free high stop (more_after limit b) (with_digit 0 b)) t at e).1

-- ---- what is read has no more digits than were asked for

-- A digit more.
digit_below : (x b more v : ℕ) → is_digit (class_of b) ≡ true → v < (with_digit x b + 1) * 10 ^ more → v < (x + 1) * 10 ^ suc more
unfolding with_digit
digit_below x b more v d h =
    let f = digit_facts b d in
    let lo = f.0 in
    let hi = f.1 in
    let k : x * 10 + (b - 48) + 1 ≤ (x + 1) * 10 = omega arith in
    let r : (x * 10 + (b - 48) + 1) * 10 ^ more ≤ (x + 1) * 10 * 10 ^ more = mul-le-mul_right (10 ^ more) k in
    let w : v < (x + 1) * (10 ^ more * 10) = omega arith in
    subst (λ (k : ℕ). v < (x + 1) * k) (sym (pow-suc 10 more)) w

itself_below : (x more : ℕ) → x < (x + 1) * 10 ^ more
itself_below x more =
    let p : 1 ≤ 10 ^ more = one-le-pow more 10 (omega arith) in
    let r : (x + 1) * 1 ≤ (x + 1) * 10 ^ more = mul-le-mul_left (x + 1) p in
    omega arith

module _ (free : ℕ → Bool) (high stop : ℕ) where
  digits_below : (more x : ℕ) (t : List ℕ) (at v p : ℕ) → digits_after free high stop more x t at ≡ found v p → v < (x + 1) * 10 ^ more
  unfolding digits_after
  digits_below zero x t at v p e =
      let w = byte_found (ends_free free stop x) (λ b t at. found x at) t at e in
      let q : x ≡ v = cc w.1 in
      subst (λ (k : ℕ). k < (x + 1) * 10 ^ 0) q (itself_below x 0)
  digits_below (suc more) x t at v p e =
      let w = byte_found (λ b. goes_on free high more x b || ends_free free stop x b) (λ b. cond (is_digit (class_of b)) (digits_after free high stop more (with_digit x b)) (λ t at. found x at)) t at e in
      by_digit (is_digit (class_of (get_or t at 0))) refl (λ y k. digits_below more y t (at + 1) v p k) w.1
    where
      by_digit : (c : Bool) → is_digit (class_of (get_or t at 0)) ≡ c → ((y : ℕ) → digits_after free high stop more y t (at + 1) ≡ found v p → v < (y + 1) * 10 ^ more)
          → cond c (digits_after free high stop more (with_digit x (get_or t at 0))) (λ t at. found x at) t (at + 1) ≡ found v p → v < (x + 1) * 10 ^ suc more
      by_digit true d ih e = digit_below x (get_or t at 0) more v d (ih (with_digit x (get_or t at 0)) e)
      by_digit false d ih e = let q : x ≡ v = cc in subst (λ (k : ℕ). k < (x + 1) * 10 ^ suc more) q (itself_below x (suc more))

  pub free_below : (limit : ℕ) (t : List ℕ) (at v p : ℕ) → 1 ≤ limit → free_to free high stop limit t at ≡ found v p → v < 10 ^ limit
  unfolding free_to goes_on more_after
  free_below limit t at v p pos e =
      let b : ℕ = get_or t at 0 in
      let w = byte_found (λ b. goes_on free high (more_after limit b) 0 b) (λ b. digits_after free high stop (more_after limit b) (with_digit 0 b)) t at e in
      let d : is_digit (class_of b) ≡ true = and_left (is_digit (class_of b)) (opens free high (more_after limit b) (with_digit 0 b)) w.0 in
      let h = digit_below 0 b (more_after limit b) v d (digits_below (more_after limit b) (with_digit 0 b) t (at + 1) v p w.1) in
      let m : suc (more_after limit b) ≤ limit = few (eqb b 48) in
      let q : 10 ^ suc (more_after limit b) ≤ 10 ^ limit = pow-le-pow_right {n = 10} (omega arith) {i = suc (more_after limit b)} {j = limit} m in
      omega arith
    where
      few : (c : Bool) → suc (cond c 0 (limit - 1)) ≤ limit
      few true = omega arith
      few false = omega arith
