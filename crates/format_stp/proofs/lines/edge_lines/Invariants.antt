-- `format_stp::lines::edge_lines` meets its contract: what is left to read and to store is what the whole reads and stores.
use Prim.Native.Nat.{ℕ}
use mathlib.Core.List.{List}
use Rattle.format_read.specs.Step.{Step}
use Rattle.format_survey.specs.Line.{Edge}
use Rattle.format_read.proofs.Laws.Lines.{LinesLeft, Stored}
use Rattle.format_stp.specs.StpReading.{stp_edge, stp_edges}
use Rattle.format_stp.specs.StpWord.{after_empty}
use Rattle.format_stp.proofs.lines.edge_lines.Given as goal

-- The reader of line e.
abbrev pub line_at : (text : List ℕ) (n e at : ℕ) → Step Edge
line_at text n e at = after_empty (stp_edge n) text at

pub record Inv (text : List ℕ) (n count at₀ : ℕ) (firsts₀ seconds₀ weights₀ firsts seconds weights : List ℕ) (at edge : ℕ) : Type 0 where
  pub left : LinesLeft (line_at text n) (stp_edges n text count at₀) count edge at
  pub one : Stored (line_at text n) (stp_edges n text count at₀) count edge at (λ e. e.first) firsts₀ firsts
  pub two : Stored (line_at text n) (stp_edges n text count at₀) count edge at (λ e. e.second) seconds₀ seconds
  pub three : Stored (line_at text n) (stp_edges n text count at₀) count edge at (λ e. e.weight) weights₀ weights

abbrev pub invariant-loop-edge : goal.invariant-loop-edge
invariant-loop-edge l = Inv l.text l.vertices l.count l.initial.next.at l.initial.firsts l.initial.seconds l.initial.weights l.firsts l.seconds l.weights l.next.at l.edge
