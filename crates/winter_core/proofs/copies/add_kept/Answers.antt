-- `add_kept` meets its contract: it stores at rising places.
use native.Mathlib.Omega.{arith}
use mathlib.Core.Path.{refl, ◌∙◌}
use Rattle.base_buffer.specs.Store.{remade}
use Rattle.base_buffer.proofs.Laws.Store.{remade_more, remade_end}
use Rattle.winter_core.proofs.Laws.Call.{room_ahead, more_read}
use Rattle.winter_core.proofs.copies.add_kept.Goals as goal

pub loop-e-init : goal.loop-e-init
unfolding remade
loop-e-init c =
    (omega arith, refl)

pub more-requires : goal.more-requires
more-requires c =
    let a = c.args in
    room_ahead _ a.copies.now a.power c.requires c.loop-e-test.true c.loop-e.invariant.1 c.at.ensures

pub loop-e-preserved : goal.loop-e-preserved
loop-e-preserved c =
    (omega (arith, c.loop-e-test.true), c.put.ensures ∙ remade_more _ _ _ _ _ c.loop-e.invariant.1 (more_read c.args.power c.at.ensures c.at-in-loop-e.ensures c.more.ensures))

pub returns : goal.returns
returns c =
    c.loop-e.invariant.1 ∙ remade_end _ _ _ _ (omega (arith, c.loop-e.invariant.0)) (omega (arith, c.loop-e-test.false))
