-- A program that reads into a buffer, prints what a function says of the bytes that were read, and writes that, prints
-- what the function says of the first bytes of its input.
use Rattle.std.proofs.Common.{◌≡◌, ℕ, List, ◌++◌, length, take, ap, ◌∙◌, subst, le_refl, take_all, Some, None, IfSome, OnOk, Ok, Err, Result, Option, refl, drop, sym, length-append, le-add_right, le-ltb, ◌≤◌}
use lib.Seq.{take-append-le}
use Rattle.std.specs.Io.KnownBytes.{Appends}
use Rattle.base_limits.specs.Verdict.{refuse_if, written}
use Rattle.base_limits.specs.declared.Verdict.TheVariants.{Fine}
use Rattle.format_print.specs.declared.Printed.{Printed}
use Rattle.format_print.specs.Print.{answer_of, out_after, print_refusal, printed, printed_out}
use Rattle.program_io.specs.Prints.{Prints, PrintsWithin, WritesPrinted}

-- The front of a buffer that begins with a text, as long as the text.
pub text_in_front : (n : ℕ) (text rest buf : List ℕ) → n ≡ length text → buf ≡ text ++ rest → take n buf ≡ text
text_in_front n text rest buf long begins =
    ap (λ m. take m buf) long ∙ ap (take (length text)) begins ∙ take-append-le (length text) text rest (le_refl _) ∙ take_all (length text) text (le_refl _)

pub prints : (room n : ℕ) (print : List ℕ → List ℕ) (given old new : Option (List ℕ)) (read written : List ℕ) → n ≡ room → IfSome given (λ xs. read ≡ take n xs) → written ≡ print read → Appends old new written → Prints room print given old new
prints room n print None old new read written long first same appends = tt
prints room n print (Some xs) old new read written long first same appends =
    subst (Appends old new) (same ∙ ap print (first ∙ ap (λ m. take m xs) long)) appends

-- What holds in any case holds after an `Ok`.
pub on_ok : {A E : Type 0} (r : Result A E) (P : Type 0) → P → OnOk r P
on_ok (Ok x) P p = p
on_ok (Err e) P p = tt

-- A text that fits is written whole.
fits_fine : (text out : List ℕ) → length text ≤ length out → print_refusal text out ≡ Fine
unfolding print_refusal refuse_if
fits_fine text out fits = ap (λ b. refuse_if b 7 0) (le-ltb _ _ fits)

pub written_whole : (text out : List ℕ) (old new : Option (List ℕ)) → length text ≤ length out → WritesPrinted (printed text out) (printed_out text out) old new → Appends old new text
unfolding printed printed_out answer_of out_after written
written_whole text out old new fits writes =
    let rest = drop (length text) out in
    let done : WritesPrinted (answer_of Fine text) (out_after Fine text out) old new = subst (λ v. WritesPrinted (answer_of v text) (out_after v text out) old new) (fits_fine text out fits) writes in
    let long : length text ≤ length (text ++ rest) = subst (λ m. length text ≤ m) (sym (length-append text rest)) (le-add_right _ _) in
    subst (Appends old new) (text_in_front (length text) text rest (text ++ rest) refl refl) (done long)

pub prints_within : (room n space : ℕ) (print : List ℕ → List ℕ) (given old new : Option (List ℕ)) (read out : List ℕ) (told : Printed) (after : List ℕ) → n ≡ room → length out ≡ space → IfSome given (λ xs. read ≡ take n xs) → told ≡ printed (print read) out → after ≡ printed_out (print read) out → WritesPrinted told after old new → PrintsWithin room print space given old new
prints_within room n space print None old new read out told after long wide first value out_value writes = tt
prints_within room n space print (Some xs) old new read out told after long wide first value out_value writes = λ fits.
    let whole : read ≡ take room xs = first ∙ ap (λ m. take m xs) long in
    let short : length (print read) ≤ length out = subst (λ m. length (print read) ≤ m) (sym wide) (subst (λ l. length (print l) ≤ space) (sym whole) fits) in
    let done = subst (λ a. WritesPrinted (printed (print read) out) a old new) out_value (subst (λ t. WritesPrinted t after old new) value writes) in
    subst (λ l. Appends old new (print l)) whole (written_whole (print read) out old new short done)
