-- `tail_of` meets its contract: a branch on the direction.
use mathlib.Core.Path.{◌∙◌}
use Rattle.floor_core.specs.Laws.Arcs.{tail_low, tail_high}
use Rattle.floor_core.proofs.arcs.tail_of.Goals as goal

pub returns-then-a-firsts : goal.returns-then-a-firsts
returns-then-a-firsts c = c.at.ensures ∙ tail_low _ _ _ c.if-a-firsts.true

pub returns : goal.returns
returns c = c.at-2.ensures ∙ tail_high _ _ _ c.if-a-firsts.false
