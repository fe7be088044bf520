-- Laws of tests: what a true or a false test of two says of each.
use Rattle.std.specs.Prelude.{◌≡◌, refl, ◌⊎◌, Bool, true, false, ◌&&◌, ◌||◌, not}
use Rattle.std.proofs.Common.{sym, inl, inr, true≢false}
use Rattle.std.proofs.lemmas.Bool.{false≢true}

-- Either value of a test, with its equation.
pub either : (t : Bool) → (t ≡ true) ⊎ (t ≡ false)
either true = inl refl
either false = inr refl

pub and_left : (s t : Bool) → (s && t) ≡ true → s ≡ true
and_left true t h = refl
and_left false t h = absurd (false≢true h)

pub and_right : (s t : Bool) → (s && t) ≡ true → t ≡ true
and_right true t h = h
and_right false t h = absurd (false≢true h)

pub and_both : (s t : Bool) → s ≡ true → t ≡ true → (s && t) ≡ true
and_both true t h k = k
and_both false t h k = h

pub and_false_cases : (s t : Bool) → (s && t) ≡ false → (s ≡ false) ⊎ (t ≡ false)
and_false_cases true t h = inr h
and_false_cases false t h = inl refl

pub or_cases : (s t : Bool) → (s || t) ≡ true → (s ≡ true) ⊎ (t ≡ true)
or_cases true t h = inl refl
or_cases false t h = inr h

pub or_left : (s t : Bool) → s ≡ true → (s || t) ≡ true
or_left true t h = refl
or_left false t h = absurd (false≢true h)

pub or_right : (s t : Bool) → t ≡ true → (s || t) ≡ true
or_right true t h = refl
or_right false t h = h

pub or_false_left : (s t : Bool) → (s || t) ≡ false → s ≡ false
or_false_left true t h = h
or_false_left false t h = refl

pub or_false_right : (s t : Bool) → (s || t) ≡ false → t ≡ false
or_false_right true t h = absurd (true≢false h)
or_false_right false t h = h

pub true_not_false : {A : Type 0} (t : Bool) → t ≡ true → t ≡ false → A
true_not_false true h k = absurd (true≢false k)
true_not_false false h k = absurd (false≢true h)

-- Not both: a test that is not true is false.
pub not_true_false : (t : Bool) → (t ≡ true → ⊥) → t ≡ false
not_true_false true h = absurd (h refl)
not_true_false false h = refl

-- Two tests that hold together are the same.
pub same_test_law : (s t : Bool) → (s ≡ true → t ≡ true) → (t ≡ true → s ≡ true) → s ≡ t
same_test_law true t f g = sym (f refl)
same_test_law false true f g = g refl
same_test_law false false f g = refl

pub not_of_false : (t : Bool) → t ≡ false → not t ≡ true
not_of_false true h = absurd (true≢false h)
not_of_false false h = refl
