-- Laws of print calls: a text that was measured is refused or fits, and then the buffer holds it.
use Rattle.std.specs.Prelude.{ℕ, ◌+◌, ◌≤◌, ◌<◌, ◌≡◌, List, [], ◌++◌, drop}
use native.Mathlib.Omega.{arith}
use Rattle.std.proofs.Common.{lt-ltb, le-ltb, eq-eqb, ne_eqb, sym, ◌∙◌, subst}
use Rattle.std.proofs.Math.Path.{ap}
use Rattle.std.proofs.Math.ListN.{length}
use Rattle.std.proofs.lemmas.List.Edits.{sets-eq}
use Rattle.base_limits.specs.Limits.{record_bytes}
use Rattle.base_limits.specs.Verdict.{refuse_if, ◌before◌, written}
use Rattle.format_print.specs.declared.Printed.{Printed}
use Rattle.format_print.specs.declared.Printed.TheVariants.{Length, Refused}
use Rattle.format_write.specs.Text.{dual_line}
use Rattle.format_print.specs.Print.{print_refusal, answer_of, out_after, printed, printed_out, dual_print_refusal, dual_printed, dual_printed_out}
use Rattle.format_write.specs.Wrote.{farthest, Wrote}
use Rattle.format_write.proofs.Laws.Wrote.{sets_past}

-- What a print call does, the answer and the buffer at once.
pub record Prints (text out new : List ℕ) (r : Printed) : Type 0 where
  pub answers : r ≡ printed text out
  pub leaves : new ≡ printed_out text out

-- A text that fits is written whole.
pub whole_prints : (text out : List ℕ) → length out < farthest → length text ≤ length out → {new : List ℕ} {next : ℕ} → Wrote out 0 text new next
    → Prints text out new (Length next)
unfolding printed printed_out print_refusal refuse_if answer_of out_after written
whole_prints text out small fits {new} {next} w =
    let end = w.place in
    let whole : next ≡ length text = omega arith in
    let none : 0 + length text ≡ length text = omega arith in
    record {
      answers = rw (le-ltb (length out) (length text) fits) (ap Length whole);
      leaves = rw (le-ltb (length out) (length text) fits) (w.bytes ∙ sets-eq text out 0 (omega arith) ∙ ap (λ n. text ++ drop n out) none);
    }

-- `held` is what measuring leaves of the empty part that it was lent.
module _ (text out : List ℕ) {held : List ℕ} {need : ℕ} (small : length out < farthest) (measured : Wrote [] 0 text held need) where
  same : held ++ out ≡ out
  same = ap (λ l. l ++ out) (measured.bytes ∙ sets_past text [] 0 (omega arith))

  pub short_prints : length (held ++ out) < need → Prints text out (held ++ out) (Refused 7 0)
  unfolding printed printed_out print_refusal refuse_if answer_of out_after written
  short_prints h =
      let place = measured.place in
      let long = ap length same in
      let lt : length out < length text = omega arith in
      record { answers = rw (lt-ltb (length out) (length text) lt); leaves = rw (lt-ltb (length out) (length text) lt) same }

  pub fit_prints : need ≤ length (held ++ out) → {new : List ℕ} {next : ℕ} → Wrote (held ++ out) 0 text new next → Prints text out new (Length next)
  fit_prints h w =
      let place = measured.place in
      let long = ap length same in
      let le : length text ≤ length out = omega arith in
      whole_prints text out small le (rw same at w)

-- A text that fits is printed whole, and never refused.
module _ (text out : List ℕ) (fits : length text ≤ length out) where
  fitting_printed : printed text out ≡ Length (length text)
  unfolding printed print_refusal refuse_if answer_of
  fitting_printed = rw (le-ltb (length out) (length text) fits)

  pub fitting_length : {r : Printed} {n : ℕ} → r ≡ printed text out → r ≡ Length n → n ≡ length text
  fitting_length {r} {n} e told = same (sym told ∙ e ∙ fitting_printed)
    where
      same : Length n ≡ Length (length text) → n ≡ length text
      same h = cc

  pub fitting_never : {r : Printed} {number place : ℕ} → r ≡ printed text out → r ≡ Refused number place → ⊥
  fitting_never {r} {number} {place} e told = other (sym told ∙ e ∙ fitting_printed)
    where
      other : Refused number place ≡ Length (length text) → ⊥
      other h = let z : ◌≡◌ {A = ℕ} 0 1 = cc in omega arith

  pub fitting_out : printed_out text out ≡ text ++ drop (length text) out
  unfolding printed_out print_refusal refuse_if out_after written
  fitting_out = rw (le-ltb (length out) (length text) fits)

-- The same print under another name of its text, which fits a room.
pub prints_as : (room : ℕ) (out : List ℕ) {w text new : List ℕ} {r : Printed} → w ≡ text → (r ≡ printed w out) × (new ≡ printed_out w out) → length w ≤ room
    → (r ≡ printed text out) × ((new ≡ printed_out text out) × (length text ≤ room))
prints_as room out {new = new} {r = r} e p l =
    subst (λ (x : List ℕ). (r ≡ printed x out) × ((new ≡ printed_out x out) × (length x ≤ room))) e (p.0, (p.1, l))

-- A record of another length is refused first; of one of its own length the line is printed.
pub dual_short_answer : (r out : List ℕ) → (length r ≡ record_bytes → ⊥) → Refused 9 0 ≡ dual_printed r out
unfolding dual_printed dual_print_refusal refuse_if ◌before◌ answer_of
dual_short_answer r out d = rw (ne_eqb (length r) record_bytes d)

pub dual_short_out : (r out : List ℕ) → (length r ≡ record_bytes → ⊥) → out ≡ dual_printed_out r out
unfolding dual_printed_out dual_print_refusal refuse_if ◌before◌ out_after written
dual_short_out r out d = rw (ne_eqb (length r) record_bytes d)

pub dual_answer : (r out : List ℕ) → length r ≡ record_bytes → printed (dual_line r) out ≡ dual_printed r out
unfolding printed dual_printed dual_print_refusal refuse_if ◌before◌
dual_answer r out e = rw (eq-eqb (length r) record_bytes e)

pub dual_out_law : (r out : List ℕ) → length r ≡ record_bytes → printed_out (dual_line r) out ≡ dual_printed_out r out
unfolding printed_out dual_printed_out dual_print_refusal refuse_if ◌before◌
dual_out_law r out e = rw (eq-eqb (length r) record_bytes e)
