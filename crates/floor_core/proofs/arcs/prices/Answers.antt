-- `prices` meets its contract: it stores at rising places.
use mathlib.Core.Path.{refl, ◌∙◌}
use Rattle.base_buffer.specs.Store.{remade}
use Rattle.base_buffer.proofs.Laws.Store.{remade_more}
use Rattle.survey_core.proofs.Laws.Pairs.{own_read}
use Rattle.floor_core.specs.Laws.Arcs.{prices_end}
use Rattle.floor_core.proofs.arcs.prices.Goals as goal

pub loop-a-init : goal.loop-a-init
unfolding remade
loop-a-init c = refl

pub loop-a-preserved : goal.loop-a-preserved
loop-a-preserved c = c.put.ensures ∙ remade_more _ _ _ _ _ c.loop-a.invariant (own_read c.args.weights.now c.edge_of.ensures c.at.ensures)

pub returns : goal.returns
returns c = prices_end _ _ _ _ c.loop-a.auto.a-end c.loop-a-test.false c.requires c.loop-a.invariant
