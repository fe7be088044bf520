-- `has_bit` meets its contract: whether the strength divided by the bit's power is odd.
use Rattle.std.proofs.Common.{◌%◌, ◌/◌, ap, eqb}
use Rattle.theory_steiner.specs.Strength.{has_bit}
use Rattle.winter_core.proofs.Laws.Call.{power_some}
use borrow.Author.Rules.{rules}
use Rattle.winter_core.proofs.bit.has_bit.Goals as goal

pub nonzero_div-result : goal.nonzero_div-result
nonzero_div-result c =
    let some = power_some c.args.bit c.requires in search (rules, some, c.power.ensures)

pub returns : goal.returns
unfolding has_bit
returns c = ap (λ p. eqb (c.args.strength / p % 2) 1) c.power.ensures
