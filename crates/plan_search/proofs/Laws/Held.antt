-- What is held, and what it stands for.
use Rattle.std.specs.Prelude.{ℕ, ◌-◌, ◌≤◌, ◌≡◌, refl, Bool, true, false}
use Rattle.std.proofs.Common.{arith}
use Rattle.plan_search.specs.Held.{held_value, settled_by}

pub held_on : (time value : ℕ) {t : Bool} → t ≡ true → held_value time t value ≡ time - value
unfolding held_value
held_on time value h = rw h

pub held_off : (time value : ℕ) {t : Bool} → t ≡ false → held_value time t value ≡ value
unfolding held_value
held_off time value h = rw h

pub settled_on : (time held : ℕ) {t : Bool} → t ≡ true → settled_by time t held ≡ time - held
unfolding settled_by
settled_on time held h = rw h

pub settled_off : (time held : ℕ) {t : Bool} → t ≡ false → settled_by time t held ≡ held
unfolding settled_by
settled_off time held h = rw h

-- What is held gives the value back.
pub held_settled : (time value : ℕ) (t : Bool) → value ≤ time → settled_by time t (held_value time t value) ≡ value
unfolding settled_by held_value
held_settled time value true h = omega arith
held_settled time value false h = refl
