-- `write_weights` meets its contract: two runs, one behind the other.
use native.Mathlib.Omega.{arith}
use Rattle.merge_core.specs.Laws.Stored.{runs_both}
use Rattle.merge_core.proofs.write.write_weights.Goals as goal

pub copy_at-requires : goal.copy_at-requires
copy_at-requires c = let few = c.requires.weights_len_bound in record { at_le_max_edges = omega arith; list_len_bound = few }

pub copy_at-requires-2 : goal.copy_at-requires-2
copy_at-requires-2 c = record { at_le_max_edges = c.requires.weights_len_bound; list_len_bound = c.requires.second_weights_len_bound }

pub returns : goal.returns
returns c = runs_both c.args.out.now c.args.weights.now c.args.second_weights.now c.copy_at.ensures c.copy_at-2.ensures
