-- `format_read::digits::value` meets its contract: what has been read and what is left write the number, and so many digits fit.
use Prim.Native.Nat.{ℕ, ◌+◌, ◌*◌, ◌^◌, ◌≤◌}
use mathlib.Core.Path.{◌≡◌}
use mathlib.Core.List.{List}
use lib.ListN.{drop}
use Rattle.format_write.specs.Decimal.{spelled_after}
use Rattle.format_read.proofs.digits.value.Given as goal

pub record Inv (s : List ℕ) (n i : ℕ) : Type 0 where
  pub room : n + 23 ≤ 23 * 10 ^ i
  pub rest : spelled_after n (drop i s) ≡ spelled_after 0 s

abbrev pub invariant-loop-d : goal.invariant-loop-d
invariant-loop-d l = Inv l.digits l.n l.d-index
