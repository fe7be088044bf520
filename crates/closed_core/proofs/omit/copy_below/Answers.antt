-- `copy_below` meets its contract: it stores at rising places, and below c old and new numbers are the same.
use Prim.Native.Nat.{◌-◌}
use native.Mathlib.Omega.{arith}
use mathlib.Core.Path.{refl, ◌∙◌}
use Rattle.base_buffer.specs.Store.{remade}
use Rattle.base_buffer.proofs.Laws.Store.{remade_more, remade_end}
use Rattle.closed_core.specs.Laws.LeftOut.{read_below}
use borrow.Author.Rules.{rules}
use Rattle.closed_core.proofs.omit.copy_below.Goals as goal

pub loop-e-init : goal.loop-e-init
unfolding remade
loop-e-init c = (omega arith, refl)

pub bounds-list-e : goal.bounds-list-e
bounds-list-e c = let known = c.requires.0 in search (rules, known)

pub bounds-left-e : goal.bounds-left-e
bounds-left-e c = let known = c.requires.0 in let few = c.requires.1 in search (rules, known, few)

pub loop-e-preserved : goal.loop-e-preserved
loop-e-preserved c =
    (omega arith, remade_more _ _ _ _ _ c.loop-e.invariant.1 (read_below c.args.list.now c.args.c c.loop-e.e c.loop-e-test.true))

pub returns : goal.returns
returns c = c.loop-e.invariant.1 ∙ remade_end _ _ _ _ (omega arith) (omega arith)
