-- `write_ends` meets its contract: two runs, one behind the other.
use mathlib.Core.List.{map}
use lib.ListN.{get_or}
use native.Mathlib.Omega.{arith}
use Rattle.merge_core.specs.Laws.Stored.{runs_both}
use Rattle.merge_core.proofs.write.write_ends.Goals as goal

pub copy_at-requires : goal.copy_at-requires
copy_at-requires c = let few = c.requires.ends_len_bound in record { at_le_max_edges = omega arith; list_len_bound = few }

pub copy_places-requires : goal.copy_places-requires
copy_places-requires c = record { at_le_max_edges = c.requires.ends_len_bound; list_len_bound = c.requires.second_ends_len_bound }

pub returns : goal.returns
returns c = runs_both c.args.out.now c.args.ends.now (map (λ v. get_or c.args.places.now v 0) c.args.second_ends.now) c.copy_at.ensures c.copy_places.ensures
