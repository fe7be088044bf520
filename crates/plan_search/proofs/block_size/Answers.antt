-- `block_size` meets its contract: whole, or what is left.
use Rattle.std.proofs.Common.{◌∙◌}
use Rattle.plan_search.specs.Scan.{block_size}
use Rattle.plan_search.proofs.Laws.Min.{min_first}
use Rattle.plan_search.proofs.block_size.Goals as goal

pub returns : goal.returns
unfolding block_size
returns c = c.min.ensures ∙ min_first _ _
