-- `format_plan::members::risen_after` meets its contract: each test is a case of the definition.
use mathlib.Core.Path.{sym}
use Rattle.format_plan.proofs.Laws.Tests.{risen_low, risen_high, risen_next}
use Rattle.format_plan.proofs.members.risen_after.Goals as goal

-- not above the one before
pub returns-then-v-low : goal.returns-then-v-low
returns-then-v-low c = sym (risen_low _ _ c.if-v-low.true)

-- no member
pub returns-then-v-ge-MEMBER_NUMBERS : goal.returns-then-v-ge-MEMBER_NUMBERS
returns-then-v-ge-MEMBER_NUMBERS c = sym (risen_high _ _ c.if-v-low.false c.if-v-ge-MEMBER_NUMBERS.true)

-- the next one
pub returns : goal.returns
returns c = sym (risen_next _ _ c.if-v-low.false c.if-v-ge-MEMBER_NUMBERS.false)
