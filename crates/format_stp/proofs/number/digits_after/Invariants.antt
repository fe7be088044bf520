-- `format_stp::number::digits_after` meets its contract: what is left of the digits is what follows those before them.
use Prim.Native.Nat.{ℕ, ◌+◌, ◌*◌, ◌^◌, ◌≤◌}
use mathlib.Core.List.{List}
use mathlib.Core.Bool.{Bool}
use mathlib.Core.Path.{◌≡◌}
use Rattle.base_limits.specs.Limits.{max_digits}
use Rattle.format_stp.specs.StpNumber.{is_free, stop_byte, digits_after}
use Rattle.format_stp.proofs.number.digits_after.Given as goal

pub record Inv (text : List ℕ) (free : ℕ → Bool) (high stop most first from at x more : ℕ) : Type 0 where
  pub room : (x + 1) * 10 ^ more ≤ 10 ^ max_digits
  pub rest : digits_after free high stop more x text at ≡ digits_after free high stop most first text from

abbrev pub invariant-loop-more : goal.invariant-loop-more
invariant-loop-more l = Inv l.text (is_free l.groups l.low l.high) l.high (stop_byte l.spaced) l.most l.first l.from l.at l.x l.more
