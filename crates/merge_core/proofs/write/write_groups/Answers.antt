-- `write_groups` meets its contract: one more store in each turn (`head_more`).
use native.Mathlib.Omega.{arith}
use mathlib.Core.Path.{refl, ◌∙◌}
use lib.ListN.{length}
use Rattle.merge_core.specs.Row.{own_with}
use Rattle.merge_core.specs.Pairs.{standing_in}
use Rattle.merge_core.specs.Laws.Stored.{head_more, run_end}
use Rattle.merge_core.specs.Laws.Copy.{table_below, table_end, table_read}
use Rattle.merge_core.specs.Laws.Pairs.{own_read}
use Rattle.merge_core.proofs.write.write_groups.Goals as goal

pub loop-w-init : goal.loop-w-init
loop-w-init c = (omega arith, refl)

pub loop-w-preserved : goal.loop-w-preserved
loop-w-preserved c = (omega arith, c.put.ensures ∙ head_more _ _ _ c.loop-w.invariant.1 (table_below _ _ c.loop-w-test.true) (table_read _ (λ w. own_with c.args.groups.now c.args.second_groups.now w (standing_in c.args.places.now (length c.args.second_groups.now) w)) c.loop-w-test.true (own_read c.args.groups.now c.args.second_groups.now c.args.places.now c.loop-w.w c.find_in-v.ensures c.own_of.ensures)))

pub returns : goal.returns
returns c = run_end _ _ _ _ c.loop-w.invariant.1 (table_end _ _ c.loop-w-test.false)
