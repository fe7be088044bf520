-- Laws of dropping every picked edge.
use Rattle.std.specs.Prelude.{◌≡◌, ℕ, zero, suc, ◌+◌, Bool, true, false, List, [], ◌∷◌, ◌++◌, length, refl}
use Rattle.std.specs.Int.{from_bool}
use Rattle.std.specs.List.{filter, range_with_len}
use Rattle.std.proofs.Common.{arith, ap, ◌∙◌, length-append}
use Rattle.std.proofs.lemmas.List.Elements.{filter-append}
use Rattle.base_finite.specs.Below.{counted, sum_below, count_below}
use Rattle.theory_steiner.specs.Pruning.{mark_of}
use Rattle.base_buffer.proofs.Laws.Store.{length_remade}
use Rattle.plan_drop.specs.Dropped.{dropped_marks}

-- ---- one edge

pub dropped_picked : {in_set : Bool} → in_set ≡ true → mark_of in_set false ≡ 1
unfolding mark_of
dropped_picked t = rw t

pub dropped_other : {in_set : Bool} → in_set ≡ false → mark_of in_set false ≡ 0
unfolding mark_of
dropped_other t = rw t

pub dropped_counts_law : (in_set : Bool) → mark_of in_set false ≡ counted in_set 1
unfolding mark_of counted
dropped_counts_law true = refl
dropped_counts_law false = refl

-- A test as a number.
pub bool_counts : (t : Bool) → from_bool t ≡ counted t 1
unfolding counted
bool_counts true = refl
bool_counts false = refl

-- How many of the numbers below n pass, as the library's calls leave it.
range_last : (n a : ℕ) → range_with_len a (suc n) ≡ range_with_len a n ++ ((a + n) ∷ [])
range_last zero a = ap (λ k. k ∷ []) (omega arith)
range_last (suc n) a = ap (λ l. a ∷ l) (range_last n (a + 1) ∙ ap (λ k. range_with_len (a + 1) n ++ (k ∷ [])) (omega arith))

one_counted : (t : ℕ → Bool) (n : ℕ) (b : Bool) → t n ≡ b → length (filter t (n ∷ [])) ≡ counted b 1
unfolding counted
one_counted t n true h = rw h
one_counted t n false h = rw h

pub filter_counts : (n : ℕ) (t : ℕ → Bool) → length (filter t (range_with_len 0 n)) ≡ count_below n t
unfolding count_below sum_below
filter_counts zero t = refl
filter_counts (suc n) t =
    ap (λ l. length (filter t l)) (range_last n 0)
    ∙ ap length (filter-append t (range_with_len 0 n) ((0 + n) ∷ []))
    ∙ length-append (filter t (range_with_len 0 n)) (filter t ((0 + n) ∷ []))
    ∙ ap (λ k. k + length (filter t ((0 + n) ∷ []))) (filter_counts n t)
    ∙ ap (λ k. count_below n t + k) (one_counted t (0 + n) (t n) (ap t (omega arith)))

-- ---- all of them

pub length_dropped : (F : ℕ → Bool) (m : ℕ) (marks : List ℕ) → length (dropped_marks F m marks) ≡ length marks
unfolding dropped_marks
length_dropped F m marks = length_remade _ m marks
