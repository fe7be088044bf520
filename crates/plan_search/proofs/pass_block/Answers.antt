-- `pass_block` meets its contract: the edges of the block, and then the lowest of their keys.
use mathlib.Core.Path.{ap, ◌∙◌}
use lib.ListN.{length, set}
use Rattle.plan_search.specs.Tables.{on_by}
use Rattle.plan_search.proofs.Laws.Blocks.{size_fits, size_is}
use native.Mathlib.Omega.{arith}
use Rattle.plan_search.proofs.pass_block.Goals as goal

pub overflow_add-to : goal.overflow_add-to
overflow_add-to c =
    let f = size_fits (length c.args.firsts.now) c.args.b c.requires.b_in_bounds in
    let e = c.block_size.ensures in
    omega arith

pub returns : goal.returns
unfolding on_by
returns c =
    let z = size_is c.args.b c.block_size.ensures in
    let best = c.scan_block-passed.ensures.best_value in
    let keys = c.scan_block-passed.ensures.keys_value in
    let floors = c.put.ensures ∙ ap (λ x. set c.args.floors.now c.args.b x) c.scan_block-passed.ensures.low_value in
    record { result_value = rw z at best; keys_value = rw z at keys; floors_value = rw z at floors }
