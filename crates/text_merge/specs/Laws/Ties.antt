-- Tie lines: their numbers have at most three digits, and there are at most as many as a survey may have junctions.
use Rattle.std.specs.Prelude.{ℕ, zero, suc, ◌+◌, ◌≤◌, ◌<◌, refl, Bool, length, leb}
use Rattle.std.proofs.Common.{arith, subst, le-leb, leb-false}
use Rattle.std.proofs.Math.Path.{◌≡◌}
use Rattle.std.proofs.Math.Bool.{true, false, cond}
use mathlib.Core.List.{List}
use Rattle.std.proofs.lemmas.Bool.{lt-leb}
use Rattle.base_limits.specs.Limits.{endpoint_digits}
use Rattle.format_write.specs.Key.{comma, newline}
use Rattle.format_read.specs.Step.{Step, found, refused}
use Rattle.format_read.specs.Lines.{following}
use Rattle.format_read.specs.Bytes.{fixed_at}
use Rattle.format_read.specs.Items.{items_from}
use Rattle.format_read.specs.Number.{OfDigits, number_to}
use Rattle.format_read.proofs.Laws.Step.{then_value}
use Rattle.format_read.proofs.Laws.Digits.{number_to_below}
use Rattle.format_also.specs.Pair.{Pair, pair_of}
use Rattle.text_merge.specs.Ties.{tie_key, max_ties, tie_at, tie_line, tie_reader, tie_turns, tie_lines}

pub record TieDigits (x : Pair) : Type 0 where
  pub first : OfDigits endpoint_digits x.owner
  pub second : OfDigits endpoint_digits x.other

pub tie_digits : (t : List ℕ) (at : ℕ) {x : Pair} {next : ℕ} → tie_at t at ≡ found x next → TieDigits x
unfolding tie_at
tie_digits t at {x} {next} q =
    let k = then_value (fixed_at tie_key t at) _ q in
    let v = then_value (number_to endpoint_digits comma t k.1) _ k.3 in
    let g = then_value (number_to endpoint_digits newline t v.1) _ v.3 in
    let same : ◌≡◌ {A = Pair} (pair_of v.0 g.0) x = cc g.3 in
    subst TieDigits same
    record {
      first = number_to_below t endpoint_digits comma k.1 v.0 v.1 (omega arith) v.2;
      second = number_to_below t endpoint_digits newline v.1 g.0 g.1 (omega arith) g.2;
    }

module _ (t : List ℕ) (i at : ℕ) where
  pub line_past : max_ties ≤ i → refused 16 at ≡ tie_line t i at
  unfolding tie_line
  line_past h = rw (le-leb max_ties i h)

  pub line_read : i < max_ties → tie_at t at ≡ tie_line t i at
  unfolding tie_line
  line_read h = rw (lt-leb max_ties i h)

  pub line_digits : {x : Pair} {next : ℕ} → tie_line t i at ≡ found x next → TieDigits x
  unfolding tie_line
  line_digits {x} {next} = by (leb max_ties i)
    where
      by : (b : Bool) → cond b (refused 16 at) (tie_at t at) ≡ found x next → TieDigits x
      by true e = let z : ◌≡◌ {A = ℕ} 0 1 = cc in absurd (omega arith)
      by false e = tie_digits t at e

-- At most so many.
lines_few : (t : List ℕ) (fuel low i at : ℕ) → i ≤ max_ties → i + length (items_from (tie_reader t) fuel low i at).values ≤ max_ties
unfolding items_from following tie_reader tie_line
lines_few t zero low i at h = omega arith
lines_few t (suc fuel) low i at h = by (leb (length t) at) (leb max_ties i) refl (tie_at t at) (λ j a b. lines_few t fuel low j a b)
  where
    by : (stop past : Bool) → leb max_ties i ≡ past → (s : Step Pair) → ((j a : ℕ) → j ≤ max_ties → j + length (items_from (tie_reader t) fuel low j a).values ≤ max_ties)
        → i + length (cond stop (record { values = mathlib.Core.List.[]; end = found low at }) (following (cond past (refused 16 at) s) (λ a next. items_from (tie_reader t) fuel low (i + 1) next))).values ≤ max_ties
    by true past e s ih = omega arith
    by false true e s ih = omega arith
    by false false e (refused n p) ih = omega arith
    by false false e (found x next) ih = let b = leb-false max_ties i e in let more = ih (i + 1) next (omega arith) in omega arith

pub ties_few : (t : List ℕ) → length (tie_lines t).values ≤ max_ties
unfolding tie_lines
ties_few t = let few = lines_few t tie_turns 0 0 0 (omega arith) in omega arith
