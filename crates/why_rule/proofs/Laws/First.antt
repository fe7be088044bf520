-- The first number that passes a test, or 0: where it is, where there is none, and tests that agree. The round of a reason is one, and the code that looks for it cites these.
use Rattle.std.specs.Prelude.{ℕ, ◌<◌, ◌≡◌, Bool, false}
use Rattle.std.proofs.Common.{arith, lt-ltb, le-ltb}
use Rattle.theory_route.proofs.Laws.First.{IsFirst, first_is, first_none, first_cong}
use Rattle.why_rule.specs.Reason.{first_or_zero}

pub zero_first : (n : ℕ) (t : ℕ → Bool) (i : ℕ) → IsFirst n t i → i ≡ first_or_zero n t
unfolding first_or_zero
zero_first n t i h = rw (first_is n t i h, lt-ltb i n h.below)

pub zero_none : (n : ℕ) (t : ℕ → Bool) → ((j : ℕ) → j < n → t j ≡ false) → 0 ≡ first_or_zero n t
unfolding first_or_zero
zero_none n t h = rw (first_none n t h, le-ltb n n (omega arith))

pub zero_cong : (n : ℕ) (s t : ℕ → Bool) → ((i : ℕ) → i < n → s i ≡ t i) → first_or_zero n s ≡ first_or_zero n t
unfolding first_or_zero
zero_cong n s t h = rw (first_cong n s t h)
