-- `first_shares` meets its contract: it stores at rising places.
use mathlib.Core.Path.{refl, ◌∙◌}
use Rattle.base_buffer.specs.Store.{remade}
use Rattle.base_buffer.proofs.Laws.Store.{remade_more}
use Rattle.floor_core.specs.Laws.Shares.{first_shares_end}
use Rattle.floor_core.proofs.shares.first_shares.Goals as goal

pub loop-l-init : goal.loop-l-init
unfolding remade
loop-l-init c = refl

pub loop-l-preserved : goal.loop-l-preserved
loop-l-preserved c = c.put.ensures ∙ remade_more _ _ _ _ _ c.loop-l.invariant (c.first_share.ensures _ c.count_members.ensures c.loop-l-test.true)

pub returns : goal.returns
returns c = first_shares_end _ _ c.loop-l.auto.l-end c.loop-l-test.false c.loop-l.invariant
