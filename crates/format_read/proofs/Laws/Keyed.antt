-- The words that a line of a key and a number reads: the text of its number, for any digit limit.
use Rattle.std.specs.Prelude.{ℕ, ◌^◌, ◌≤◌, ◌<◌, ◌+◌, ◌≡◌, refl, false, List, [], ◌∷◌, ◌++◌, length}
use Rattle.std.proofs.Common.{arith, ap, sym, ◌∙◌, subst, append_assoc, append-nil, length-append}
use Rattle.base_limits.specs.declared.Verdict.{Verdict}
use Rattle.base_limits.specs.declared.Verdict.TheVariants.{Fine, Refused}
use Rattle.format_write.specs.Key.{comma, newline}
use Rattle.format_write.specs.Decimal.{decimal}
use Rattle.format_write.specs.Text.{line_of}
use Rattle.format_read.specs.Number.{is_digit, class_of, number_to, number_line, number_text, number_at, OfDigits}
use Rattle.format_read.proofs.Laws.NumberWord.{NumberWord, reads_number}
use Rattle.format_read.specs.Bytes.{fixed_at}
use Rattle.format_read.specs.Language.{Reads, Seq, Empty, Fixed, Text}
use Rattle.format_read.proofs.Laws.Bytes.{reads_fixed, fixed_one}
use Rattle.format_read.proofs.Laws.Language.{reads_then, reads_as, reads_checked}
use Rattle.format_read.proofs.Laws.Stands.{stands_first, stands_second}
use Rattle.format_read.proofs.Laws.Step.{then_found, then_value}
use Rattle.format_read.specs.Stands.{Stands}
use Rattle.format_read.specs.Step.{◌then◌, checked, found}

pub newline_no_digit : is_digit (class_of newline) ≡ false
unfolding is_digit class_of
newline_no_digit = refl

pub comma_no_digit : is_digit (class_of comma) ≡ false
unfolding is_digit class_of
comma_no_digit = refl

-- A key, a number of at most limit digits, and the byte that ends it.
pub reads_keyed : (key : List ℕ) (limit stop : ℕ) → 1 ≤ limit → is_digit (class_of stop) ≡ false
    → Reads (λ t at. fixed_at key t at then λ z p. number_to limit stop t p) (Text (OfDigits limit) (λ x. key ++ decimal x ++ (stop ∷ []))) (Text (OfDigits limit) (λ x. key ++ decimal x ++ (stop ∷ [])))
unfolding number_text
reads_keyed key limit stop positive no_digit = reads_as (λ t at. refl) to from to from (reads_then (reads_fixed key) (λ z. reads_number limit stop positive no_digit))
  where
    to : (a : ℕ) (w : List ℕ) → Seq (Fixed key) (λ z. NumberWord limit stop) a w → Text (OfDigits limit) (λ x. key ++ decimal x ++ (stop ∷ [])) a w
    to a w m =
        record {
          holds = m.second.below;
          word = m.whole ∙ ap (λ (x : List ℕ). x ++ m.right) m.first.word ∙ ap (λ (x : List ℕ). key ++ x) m.second.word ∙ sym (append_assoc key (decimal a) (stop ∷ []));
        }

    from : (a : ℕ) (w : List ℕ) → Text (OfDigits limit) (λ x. key ++ decimal x ++ (stop ∷ [])) a w → Seq (Fixed key) (λ z. NumberWord limit stop) a w
    from a w m =
        record {
          value = 0;
          left = key;
          right = number_text stop a;
          first = record { value = refl; word = refl };
          second = record { below = m.holds; word = refl };
          whole = m.word ∙ append_assoc key (decimal a) (stop ∷ []);
        }

pub reads_line : (key : List ℕ) (limit : ℕ) → 1 ≤ limit → Reads (number_line key limit) (Text (OfDigits limit) (line_of key)) (Text (OfDigits limit) (line_of key))
unfolding number_line line_of
reads_line key limit positive = reads_keyed key limit newline positive newline_no_digit

-- A line whose number is tested: what passes is read, and what fails is refused for another reason than its form.
pub record Passes (limit : ℕ) (test : ℕ → Verdict) (x : ℕ) : Type 0 where
  pub small : OfDigits limit x
  pub passes : test x ≡ Fine

pub reads_tested : (key : List ℕ) (limit : ℕ) → 1 ≤ limit → (test : ℕ → Verdict) → ((x n p : ℕ) → test x ≡ Refused n p → n ≡ 16 → ⊥)
    → Reads (λ t at. number_line key limit t at then λ x p. checked (test x) x p) (Text (Passes limit test) (line_of key)) (Text (OfDigits limit) (line_of key))
reads_tested key limit positive test h = reads_as (λ t at. refl) to from to' from' (reads_then (reads_line key limit positive) (λ x. reads_checked (test x) x (h x)))
  where
    to : (a : ℕ) (w : List ℕ) → Seq (Text (OfDigits limit) (line_of key)) (λ x c z. Empty x c z × (test x ≡ Fine)) a w → Text (Passes limit test) (line_of key) a w
    to a w m =
        let e : m.value ≡ a = sym m.second.0.value in
        record {
          holds = subst (Passes limit test) e record { small = m.first.holds; passes = m.second.1 };
          word = m.whole ∙ ap (λ (x : List ℕ). m.left ++ x) m.second.0.word ∙ append-nil m.left ∙ m.first.word ∙ ap (line_of key) e;
        }

    from : (a : ℕ) (w : List ℕ) → Text (Passes limit test) (line_of key) a w → Seq (Text (OfDigits limit) (line_of key)) (λ x c z. Empty x c z × (test x ≡ Fine)) a w
    from a w m =
        record {
          value = a;
          left = line_of key a;
          right = [];
          first = record { holds = m.holds.small; word = refl };
          second = (record { value = refl; word = refl }, m.holds.passes);
          whole = m.word ∙ sym (append-nil (line_of key a));
        }

    to' : (a : ℕ) (w : List ℕ) → Seq (Text (OfDigits limit) (line_of key)) (λ x. Empty x) a w → Text (OfDigits limit) (line_of key) a w
    to' a w m =
        let e : m.value ≡ a = sym m.second.value in
        record {
          holds = subst (OfDigits limit) e m.first.holds;
          word = m.whole ∙ ap (λ (x : List ℕ). m.left ++ x) m.second.word ∙ append-nil m.left ∙ m.first.word ∙ ap (line_of key) e;
        }

    from' : (a : ℕ) (w : List ℕ) → Text (OfDigits limit) (line_of key) a w → Seq (Text (OfDigits limit) (line_of key)) (λ x. Empty x) a w
    from' a w m =
        record {
          value = a;
          left = line_of key a;
          right = [];
          first = record { holds = m.holds; word = refl };
          second = record { value = refl; word = refl };
          whole = m.word ∙ sym (append-nil (line_of key a));
        }

-- A key and a number with the byte that ends it, where they stand.
pub keyed_reads_back : (key : List ℕ) (limit b : ℕ) (t : List ℕ) (at x : ℕ) → 1 ≤ limit → x < 10 ^ limit → is_digit (class_of b) ≡ false → Stands t at (key ++ number_text b x)
    → (fixed_at key t at then λ z p. number_to limit b t p) ≡ found x (at + length (key ++ number_text b x))
keyed_reads_back key limit b t at x pos h d s =
    let f = (reads_fixed key).complete t at 0 key (record { value = refl; word = refl }) (stands_first key (number_text b x) s) in
    let n = (reads_number limit b pos d).complete t (at + length key) x (number_text b x) (record { below = h; word = refl }) (stands_second key (number_text b x) s) in
    let l = length-append key (number_text b x) in
    let q : at + length key + length (number_text b x) ≡ at + length (key ++ number_text b x) = omega arith in
    then_found (λ z p. number_to limit b t p) f ∙ n ∙ ap (λ (r : ℕ). found x r) q

-- A number, where a byte that is no digit stands behind it.
pub number_reads_back : (limit b : ℕ) (t : List ℕ) (at x : ℕ) → 1 ≤ limit → x < 10 ^ limit → is_digit (class_of b) ≡ false → Stands t at (number_text b x)
    → number_at limit t at ≡ found x (at + length (decimal x))
unfolding number_to number_text
number_reads_back limit b t at x pos h d s =
    let n = (reads_number limit b pos d).complete t at x (number_text b x) (record { below = h; word = refl }) s in
    let f = then_value (number_at limit t at) _ n in
    let g = then_value (fixed_at (b ∷ []) t f.1) (λ z q. found f.0 q) f.3 in
    let q = fixed_one b t f.1 g.2 in
    let l = length-append (decimal x) (b ∷ []) in
    let same : f.0 ≡ x = cc g.3 in
    let ends : g.1 ≡ at + length (number_text b x) = cc g.3 in
    let p : f.1 ≡ at + length (decimal x) = omega arith in
    f.2 ∙ ap (λ (y : ℕ). found y f.1) same ∙ ap (λ (y : ℕ). found x y) p
