-- `copy_above` meets its contract: it stores at rising places, and from c on the old number is one more.
use Prim.Native.Nat.{◌-◌}
use native.Mathlib.Omega.{arith}
use mathlib.Core.Path.{◌∙◌}
use Rattle.base_buffer.proofs.Laws.Store.{remade_more, remade_end}
use Rattle.closed_core.specs.Laws.LeftOut.{read_above}
use borrow.Author.Rules.{rules}
use Rattle.closed_core.proofs.omit.copy_above.Goals as goal

pub loop-e-init : goal.loop-e-init
loop-e-init c = ((omega arith, c.requires.c_le_count.0), c.requires.left_value)

pub overflow_add-left : goal.overflow_add-left
overflow_add-left c = let known = c.requires.c_le_count.1 in let few = c.requires.c_le_count.2 in search (rules, known, few)

pub bounds-list-e : goal.bounds-list-e
bounds-list-e c = let known = c.requires.c_le_count.1 in search (rules, known)

pub bounds-left-e : goal.bounds-left-e
bounds-left-e c = let known = c.requires.c_le_count.1 in let few = c.requires.c_le_count.2 in search (rules, known, few)

pub loop-e-preserved : goal.loop-e-preserved
loop-e-preserved c = (
  (omega (arith, c.loop-e.invariant.0.0), omega arith),
  remade_more _ _ _ _ _ c.loop-e.invariant.1 (read_above c.args.list.now c.args.c c.loop-e.e c.loop-e.invariant.0.0),
)

pub returns : goal.returns
returns c = c.loop-e.invariant.1 ∙ remade_end _ _ _ _ c.loop-e.invariant.0.1 (omega arith)
