-- `copy_places` meets its contract: one more store in each turn (`run_more`).
use native.Mathlib.Omega.{arith}
use mathlib.Core.Path.{refl, ◌∙◌}
use lib.ListN.{get_or}
use Rattle.merge_core.specs.Laws.Stored.{run_more, run_end}
use Rattle.merge_core.specs.Laws.Copy.{mapped_below, mapped_end, mapped_read}
use Rattle.merge_core.proofs.write.copy_places.Goals as goal

pub loop-i-init : goal.loop-i-init
loop-i-init c = (omega arith, refl)

pub loop-i-preserved : goal.loop-i-preserved
loop-i-preserved c = (omega arith, c.put.ensures ∙ run_more _ _ _ _ c.loop-i.invariant.1 (mapped_below (λ v. get_or c.args.places.now v 0) c.args.list.now c.loop-i-test.true) (mapped_read c.args.places.now c.args.list.now c.loop-i-test.true refl refl c.at.ensures))

pub returns : goal.returns
returns c = run_end _ _ _ _ c.loop-i.invariant.1 (mapped_end (λ v. get_or c.args.places.now v 0) c.args.list.now c.loop-i-test.false)
