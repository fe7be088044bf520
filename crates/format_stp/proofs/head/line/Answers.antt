-- `format_stp::head::line` meets its contract: fixed bytes behind the empty lines.
use Prim.Native.Nat.{ℕ}
use mathlib.Core.Path.{◌∙◌, ap}
use Rattle.format_read.specs.Bytes.{fixed_at}
use Rattle.format_stp.specs.StpReading.{stp_line}
use Rattle.format_stp.specs.StpWord.{after_empty}
use Rattle.format_stp.proofs.head.line.Goals as goal

pub returns : goal.returns
unfolding stp_line after_empty
returns c =
    let a = c.args in
    c.fixed.ensures ∙ ap (λ (k : ℕ). fixed_at a.bytes.now a.text.now k) c.skip.ensures
