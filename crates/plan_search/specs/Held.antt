-- How values and loads are held while time passes: what belongs to an active component grows with the time.
use Rattle.std.specs.Prelude.{ℕ, ◌-◌, Bool, cond}

-- What is held for a value: while its component is active, the time at which it was 0, so that no round changes it; else the value.
unfoldable pub held_value : (time : ℕ) → (active : Bool) → (value : ℕ) → ℕ
held_value time active value = cond active (time - value) value

-- One turned into the other, by the flag.
unfoldable pub settled_by : (time : ℕ) → (active : Bool) → (held : ℕ) → ℕ
settled_by time active held = cond active (time - held) held
