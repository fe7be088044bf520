-- `pick_of` meets its contract: each return by its test.
use Rattle.base_finite.specs.Laws.Below.{counted_true, counted_false}
use mathlib.Core.Path.{sym, ◌∙◌}
use Rattle.closed_core.proofs.alone.pick_of.Goals as goal

pub returns-then-is_picked : goal.returns-then-is_picked
returns-then-is_picked c = sym (counted_true (sym c.is_picked.ensures ∙ c.if-is_picked.true) 1)

pub returns : goal.returns
returns c = sym (counted_false (sym c.is_picked.ensures ∙ c.if-is_picked.false) 1)
