-- `head_of` meets its contract: a branch on the direction.
use mathlib.Core.Path.{◌∙◌}
use Rattle.floor_core.specs.Laws.Arcs.{head_low, head_high}
use Rattle.floor_core.proofs.arcs.head_of.Goals as goal

pub returns-then-a-firsts : goal.returns-then-a-firsts
returns-then-a-firsts c = c.at.ensures ∙ head_low _ _ _ c.if-a-firsts.true

pub returns : goal.returns
returns c = c.at-2.ensures ∙ head_high _ _ _ c.if-a-firsts.false
