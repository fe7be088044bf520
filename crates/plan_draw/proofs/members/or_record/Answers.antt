-- `or_record` meets its contract: it stores at rising places.
use mathlib.Core.Path.{refl, ap, ◌∙◌}
use lib.Bits.{bit_or}
use lib.ListN.{get_or}
use Rattle.base_buffer.specs.Store.{remade}
use Rattle.base_buffer.proofs.Laws.Store.{remade_more, remade_end}
use Rattle.plan_draw.specs.Members.{ored}
use native.Mathlib.Omega.{arith}
use Rattle.plan_draw.proofs.members.or_record.Goals as goal

pub loop-i-init : goal.loop-i-init
unfolding remade
loop-i-init c = refl

pub loop-i-preserved : goal.loop-i-preserved
loop-i-preserved c =
    let byte = ap (bit_or (get_or c.loop-i.part c.loop-i.i 0)) c.at.ensures in
    remade_more (λ j b. bit_or b (get_or c.args.other.now j 0)) _ c.args.part.now _ _ c.loop-i.invariant byte

pub returns : goal.returns
unfolding ored
returns c = c.loop-i.invariant ∙ remade_end _ _ _ _ (omega arith) (omega arith)
