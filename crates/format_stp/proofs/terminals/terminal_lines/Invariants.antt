-- `format_stp::terminals::terminal_lines` meets its contract: what is left to read, from the groups so far, is what the whole reads.
use Prim.Native.Nat.{ℕ}
use mathlib.Core.List.{List}
use mathlib.Core.Path.{◌≡◌}
use lib.ListN.{length}
use Rattle.format_stp.specs.StpReading.{terminal_lines}
use Rattle.format_stp.proofs.terminals.terminal_lines.Given as goal

pub record Inv (text : List ℕ) (n count at₀ : ℕ) (groups₀ groups : List ℕ) (at left : ℕ) : Type 0 where
  pub long : length groups ≡ length groups₀
  pub rest : terminal_lines n left groups text at ≡ terminal_lines n count groups₀ text at₀

abbrev pub invariant-loop-left : goal.invariant-loop-left
invariant-loop-left l = Inv l.text l.vertices l.count l.initial.next.at l.initial.groups l.groups l.next.at l._left
