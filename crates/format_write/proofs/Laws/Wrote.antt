-- Laws of writers: nothing, and texts one after another.
use Rattle.std.specs.Prelude.{ℕ, suc, ◌+◌, ◌≤◌, ◌<◌, ◌≡◌, refl, List, [], ◌∷◌, ◌++◌, length, set}
use Rattle.std.proofs.Common.{arith, add-zero, ap, sym, ◌∙◌, ⊎_elim, length-append}
use Rattle.std.proofs.lemmas.List.Edits.{sets}
use Rattle.std.proofs.Math.Seq.{length-sets, set_out}
use Rattle.base_finite.specs.Laws.Below.{lt_or_ge}
use Rattle.format_write.specs.Wrote.{farthest, Wrote}

-- Stores past the end change nothing.
pub sets_past : (vs l : List ℕ) (i : ℕ) → length l ≤ i → sets l i vs ≡ l
sets_past [] l i h = refl
sets_past (v ∷ vs) l i h = ap (λ m. sets m (suc i) vs) (set_out l i v h) ∙ sets_past vs l (suc i) (omega arith)

sets_append : (xs ys l : List ℕ) (i : ℕ) → sets l i (xs ++ ys) ≡ sets (sets l i xs) (i + length xs) ys
sets_append [] ys l i = ap (λ k. sets l k ys) (sym (add-zero i))
sets_append (x ∷ xs) ys l i =
    let e : suc i + length xs ≡ i + suc (length xs) = omega arith in
    sets_append xs ys (set l i x) (suc i) ∙ ap (λ k. sets (sets (set l i x) (suc i) xs) k ys) e

-- Nothing written.
pub wrote_none : (old : List ℕ) (at : ℕ) → Wrote old at [] old at
wrote_none old at = record { place = omega arith; bytes = refl }

pub wrote_length : {old : List ℕ} {at : ℕ} {text new : List ℕ} {next : ℕ} → Wrote old at text new next → length new ≡ length old
wrote_length {old} {at} {text} w = ap length w.bytes ∙ length-sets old at text

-- One text after another, in a buffer no longer than `farthest`.
pub wrote_then : {old : List ℕ} {at : ℕ} {xs mid : List ℕ} {next : ℕ} {ys new : List ℕ} {last : ℕ} → length old ≤ farthest
    → Wrote old at xs mid next → Wrote mid next ys new last → Wrote old at (xs ++ ys) new last
wrote_then {old} {at} {xs} {mid} {next} {ys} {new} {last} small w v =
    let long : length (xs ++ ys) ≡ length xs + length ys = length-append xs ys in
    let reach = w.place in
    let end = v.place in
    let same : sets (sets old at xs) next ys ≡ sets (sets old at xs) (at + length xs) ys =
    ⊎_elim
    (λ (past : farthest < at + length xs).
    let l : length (sets old at xs) ≡ length old = length-sets old at xs in
    let out : length (sets old at xs) ≤ next = omega arith in
    sets_past ys (sets old at xs) next out ∙ sym (sets_past ys (sets old at xs) (at + length xs) (omega arith)))
    (λ (near : at + length xs ≤ farthest).
    let e : next ≡ at + length xs = omega arith in
    ap (λ k. sets (sets old at xs) k ys) e)
    (lt_or_ge farthest (at + length xs)) in
    record {
      place = omega arith;
      bytes = v.bytes ∙ ap (λ l. sets l next ys) w.bytes ∙ same ∙ sym (sets_append xs ys old at);
    }

-- The same text under another name.
pub wrote_as : {old : List ℕ} {at : ℕ} {xs ys new : List ℕ} {next : ℕ} → Wrote old at xs new next → xs ≡ ys → Wrote old at ys new next
wrote_as w e = rw e at w
