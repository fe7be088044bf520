-- `add_bits` meets its contract: no copies, then those of one bit more in each turn.
use Prim.Native.Nat.{◌≤◌}
use mathlib.Core.Path.{◌≡◌}
use Rattle.base_finite.specs.Below.{sum_below}
use Rattle.survey_core.specs.Survey.{survey_with}
use Rattle.theory_steiner.specs.Strength.{strength_bits}
use Rattle.winter_core.specs.Bit.{bit_price, copies_for}
use Rattle.winter_core.proofs.add_bits.Given as goal

abbrev pub invariant-loop-bit : goal.invariant-loop-bit
invariant-loop-bit l =
    (l.bit ≤ strength_bits)
    × ((l.total ≡ sum_below l.bit (bit_price (survey_with l.groups l.firsts l.seconds l.weights l.owners l.others) l.strengths))
    × (l.copies ≡ copies_for (survey_with l.groups l.firsts l.seconds l.weights l.owners l.others) l.strengths l.initial.copies l.bit))
