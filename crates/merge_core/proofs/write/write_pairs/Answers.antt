-- `write_pairs` meets its contract: two more stores in each turn (`head_more`).
use native.Mathlib.Omega.{arith}
use mathlib.Core.Path.{refl, ◌∙◌}
use Rattle.merge_rule.specs.Merged.{pair_vertex, pair_group}
use Rattle.merge_core.specs.Laws.Stored.{head_more, run_end}
use Rattle.merge_core.specs.Laws.Copy.{part_below, part_end_law, part_read}
use Rattle.merge_core.proofs.write.write_pairs.Goals as goal

pub loop-i-init : goal.loop-i-init
loop-i-init c = (omega arith, (refl, refl))

pub loop-i-preserved : goal.loop-i-preserved
loop-i-preserved c = (omega arith, (c.put.ensures ∙ head_more _ _ _ c.loop-i.invariant.1.0 (part_below pair_vertex c.args.pairs.now c.requires c.loop-i-test.true) (part_read pair_vertex c.args.pairs.now c.requires c.loop-i-test.true c.at-pair.ensures refl), c.put-in-loop-i.ensures ∙ head_more _ _ _ c.loop-i.invariant.1.1 (part_below pair_group c.args.pairs.now c.requires c.loop-i-test.true) (part_read pair_group c.args.pairs.now c.requires c.loop-i-test.true c.at-pair.ensures refl)))

pub returns : goal.returns
returns c = record { owners_value = run_end _ _ _ _ c.loop-i.invariant.1.0 (part_end_law pair_vertex c.args.pairs.now c.requires c.loop-i-test.false); others_value = run_end _ _ _ _ c.loop-i.invariant.1.1 (part_end_law pair_group c.args.pairs.now c.requires c.loop-i-test.false) }
