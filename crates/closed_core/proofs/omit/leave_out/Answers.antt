-- `leave_out` meets its contract: the numbers before c, then those after it.
use native.Mathlib.Omega.{arith}
use mathlib.Core.Path.{ap, ◌∙◌}
use mathlib.Core.List.{List}
use lib.ListN.{get_or}
use Prim.Native.Nat.{ℕ}
use Rattle.base_buffer.specs.Store.{remade}
use Rattle.theory_steiner.specs.Closed.{skipping}
use borrow.Author.Rules.{rules}
use Rattle.closed_core.proofs.omit.leave_out.Goals as goal

pub copy_below-requires : goal.copy_below-requires
copy_below-requires c = c.requires

pub overflow_sub-list : goal.overflow_sub-list
overflow_sub-list c = let known = c.requires.0 in search (rules, known)

pub copy_above-requires : goal.copy_above-requires
copy_above-requires c =
    let a = c.args in
    let known = c.requires.0 in record { c_le_count = (omega (arith, known), omega (arith, known), c.requires.1); left_value = c.copy_below.ensures ∙ ap (λ (l : List ℕ). remade (λ e x. get_or a.list.now (skipping a.c e) 0) a.c l) c.requires.2 }
