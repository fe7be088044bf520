-- `format_survey::edges::edge_lines` meets its contract: what is left to read and to store is what the whole reads and stores.
use Prim.Native.Nat.{ℕ}
use mathlib.Core.List.{List}
use Rattle.format_survey.specs.Line.{edge_line, edge_lines}
use Rattle.format_read.proofs.Laws.Lines.{LinesLeft, Stored}
use Rattle.format_survey.proofs.edges.edge_lines.Given as goal

pub record Inv (text : List ℕ) (count at₀ : ℕ) (firsts₀ seconds₀ weights₀ firsts seconds weights : List ℕ) (at edge : ℕ) : Type 0 where
  pub left : LinesLeft (edge_line text) (edge_lines text count at₀) count edge at
  pub one : Stored (edge_line text) (edge_lines text count at₀) count edge at (λ e. e.first) firsts₀ firsts
  pub two : Stored (edge_line text) (edge_lines text count at₀) count edge at (λ e. e.second) seconds₀ seconds
  pub three : Stored (edge_line text) (edge_lines text count at₀) count edge at (λ e. e.weight) weights₀ weights

abbrev pub invariant-loop-edge : goal.invariant-loop-edge
invariant-loop-edge l = Inv l.text l.count l.initial.next.at l.initial.firsts l.initial.seconds l.initial.weights l.firsts l.seconds l.weights l.next.at l.edge
