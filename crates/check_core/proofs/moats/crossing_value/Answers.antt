-- `crossing_value` meets its contract: the value counts exactly if the two vertices lie on different sides.
use mathlib.Core.Bool.{xor}
use mathlib.Core.Path.{ap₂, sym, ◌∙◌}
use Rattle.base_finite.specs.Laws.Below.{counted_true, counted_false}
use Rattle.check_core.proofs.moats.crossing_value.Goals as goal

pub returns-then-member : goal.returns-then-member
unfolding xor
returns-then-member c = c.value.ensures ∙ sym (counted_true (sym (ap₂ xor c.member.ensures c.member-2.ensures) ∙ c.if-member.true) _)

pub returns : goal.returns
unfolding xor
returns c = sym (counted_false (sym (ap₂ xor c.member.ensures c.member-2.ensures) ∙ c.if-member.false) _)
