-- Steps that refuse with 16 alone: fixed bytes, a number, the end of the text. What else is refused comes of a test.
use Rattle.std.specs.Prelude.{ℕ, ◌+◌, ◌≡◌, Bool, true, false, cond, List, [], ◌∷◌, length, eqb, leb}
use Rattle.std.proofs.Common.{arith}
use Rattle.format_write.specs.Key.{newline}
use Rattle.format_write.specs.Decimal.{spelled_after}
use Rattle.format_read.specs.Step.{Step, found, refused, ◌then◌}
use Rattle.format_read.specs.Bytes.{byte_is, fixed_at, end_at}
use Rattle.format_read.proofs.Laws.Step.{Stops, early, late, then_stops}
use Rattle.format_read.specs.Number.{numeral_at, number_at, number_to, number_line}

pub record OnlyMalformed {A : Type 0} (s : Step A) : Type 0 where
  pub is : (n p : ℕ) → s ≡ refused n p → n ≡ 16

pub only_found : {A : Type 0} (a : A) (q : ℕ) → OnlyMalformed (found a q)
only_found a q = record { is = λ n p e. let z : ◌≡◌ {A = ℕ} 0 1 = cc in absurd (omega arith) }

pub only_refused : {A : Type 0} (q : ℕ) → OnlyMalformed {A = A} (refused 16 q)
only_refused {A} q = record { is = λ n p e. number e }
  where
    number : {n p : ℕ} → ◌≡◌ {A = Step A} (refused 16 q) (refused n p) → n ≡ 16
    number e = cc

pub only_then : {A B : Type 0} (s : Step A) (k : A → ℕ → Step B) → OnlyMalformed s → ((a : A) (q : ℕ) → OnlyMalformed (k a q)) → OnlyMalformed (s then k)
only_then {A} {B} s k h g = record { is = λ n p e. by_stop n p (then_stops s k e) }
  where
    by_stop : (n p : ℕ) → Stops s k n p → n ≡ 16
    by_stop n p (early q) = h.is n p q
    by_stop n p (late a q x y) = (g a q).is n p y

pub only_fixed : (bytes t : List ℕ) (at : ℕ) → OnlyMalformed (fixed_at bytes t at)
unfolding fixed_at
only_fixed [] t at = only_found 0 at
only_fixed (b ∷ bytes) t at = by_byte_law (byte_is t at b) (only_fixed bytes t (at + 1))
  where
    by_byte_law : (c : Bool) → OnlyMalformed (fixed_at bytes t (at + 1)) → OnlyMalformed (cond c (fixed_at bytes t (at + 1)) (refused 16 at))
    by_byte_law true h = h
    by_byte_law false h = only_refused at

only_number : (limit : ℕ) (t : List ℕ) (at : ℕ) → OnlyMalformed (number_at limit t at)
unfolding number_at
only_number limit t at = by_length (eqb (length (numeral_at limit t at)) 0) (spelled_after 0 (numeral_at limit t at)) (at + length (numeral_at limit t at))
  where
    by_length : (c : Bool) (x q : ℕ) → OnlyMalformed (cond c (refused 16 at) (found x q))
    by_length true x q = only_refused at
    by_length false x q = only_found x q

pub only_number_to : (limit stop : ℕ) (t : List ℕ) (at : ℕ) → OnlyMalformed (number_to limit stop t at)
unfolding number_to
only_number_to limit stop t at = only_then _ _ (only_number limit t at) (λ n p. only_then _ _ (only_fixed (stop ∷ []) t p) (λ z q. only_found n q))

pub only_line : (key : List ℕ) (limit : ℕ) (t : List ℕ) (at : ℕ) → OnlyMalformed (number_line key limit t at)
unfolding number_line
only_line key limit t at = only_then _ _ (only_fixed key t at) (λ z p. only_number_to limit newline t p)

pub only_end : (t : List ℕ) (at : ℕ) → OnlyMalformed (end_at t at)
unfolding end_at
only_end t at = by_length (leb (length t) at)
  where
    by_length : (c : Bool) → OnlyMalformed {A = ℕ} (cond c (found 0 at) (refused 16 at))
    by_length true = only_found 0 at
    by_length false = only_refused at
