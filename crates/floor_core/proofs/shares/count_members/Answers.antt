-- `count_members` meets its contract: one vertex after the other.
use Prim.Native.Nat.{◌<◌}
use native.Mathlib.Omega.{arith}
use mathlib.Core.Path.{refl}
use lib.ListN.{get_or}
use Rattle.base_limits.specs.Limits.{group_numbers}
use Rattle.floor_core.specs.Laws.Shares.{counts_start, count_fits, counts_more, counts_end}
use borrow.Author.Rules.{rules}
use Rattle.floor_core.proofs.shares.count_members.Goals as goal

pub loop-l-init : goal.loop-l-init
loop-l-init c = counts_start _ c.requires

pub note_member-requires : goal.note_member-requires
note_member-requires c =
    let low : get_or c.args.groups.now c.loop-l.l-index 0 < group_numbers = omega (arith, c.type_inv.groups c.loop-l.l-index) in
    let few = count_fits _ _ c.loop-l.invariant low in
    search (rules, few)

pub loop-l-preserved : goal.loop-l-preserved
loop-l-preserved c = counts_more _ _ c.loop-l.invariant refl c.note_member.ensures

pub returns : goal.returns
returns c = counts_end _ _ _ c.loop-l.auto.l-index-end c.loop-l-test.false c.loop-l.invariant
