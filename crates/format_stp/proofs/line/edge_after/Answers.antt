-- `format_stp::line::edge_after` meets its contract: a track line behind the empty lines.
use Prim.Native.Nat.{ℕ}
use mathlib.Core.Path.{◌∙◌, ap}
use Rattle.format_stp.specs.StpReading.{stp_edge}
use Rattle.format_stp.specs.StpWord.{after_empty}
use Rattle.format_stp.proofs.line.edge_after.Goals as goal

pub returns : goal.returns
unfolding after_empty
returns c = c.edge_line.ensures ∙ ap (λ (k : ℕ). stp_edge c.args.vertices c.args.text.now k) c.skip.ensures
