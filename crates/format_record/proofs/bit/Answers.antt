-- `bit`: a byte has eight bits, and below the eighth the shift is the division of the definition.
use mathlib.Core.Path.{sym}
use native.Mathlib.Omega.{arith}
use borrow.Author.Rules.{rules}
use Rattle.format_record.specs.Bits.{bit_at}
use Rattle.format_record.proofs.Laws.Bits.{bit_past}
use Rattle.format_record.proofs.bit.Goals as goal

pub returns-then-k-ge8 : goal.returns-then-k-ge8
returns-then-k-ge8 c = sym (bit_past c.args.b c.args.k (omega arith) c.if-k-ge8.true)

pub returns : goal.returns
unfolding bit_at
returns c = search rules
