-- `numbered` meets its contract: it stores at rising places.
use Prim.Native.Nat.{◌<◌}
use mathlib.Core.Path.{refl, ap, ◌∙◌}
use lib.ListN.{get_or, replicate}
use Rattle.base_buffer.specs.Store.{remade}
use Rattle.base_buffer.proofs.Laws.Store.{remade_more}
use Rattle.base_limits.specs.Limits.{max_vertices, group_numbers}
use Rattle.floor_rule.specs.Number.{number_of}
use Rattle.floor_core.specs.Laws.Number.{number_is, at_end}
use borrow.Author.Rules.{rules}
use Rattle.floor_core.proofs.number.numbered.Goals as goal

pub loop-v-init : goal.loop-v-init
unfolding remade
loop-v-init c = refl

pub loop-v-preserved : goal.loop-v-preserved
loop-v-preserved c =
    let low : c.at.result < group_numbers = search rules in
    c.put.ensures ∙ remade_more _ _ _ _ _ c.loop-v.invariant (number_is c.args.poured.now c.args.groups.now c.args.owners.now c.args.others.now c.paired_lows.ensures _ c.at.ensures low c.number_of.ensures)

pub returns : goal.returns
returns c =
    c.loop-v.invariant
    ∙ ap (λ n. remade (λ v x. number_of c.args.poured.now c.args.groups.now c.args.owners.now c.args.others.now (get_or c.args.poured.now v 0)) n (replicate max_vertices 0)) (at_end _ _ c.loop-v.auto.v-end c.loop-v-test.false)
