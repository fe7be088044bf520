-- `grow_marks` meets its contract: what pruning the growth's picks finds says whether the groups can be joined, and what it leaves is the plan's.
use mathlib.Core.Path.{ap, sym, ◌∙◌}
use native.Mathlib.Omega.{arith}
use lib.ListN.{length}
use Rattle.base_finite.specs.Laws.Below.{length_tabulate}
use Rattle.base_limits.specs.Limits.{max_edges}
use Rattle.survey_core.proofs.Laws.Group.{plain_bytes}
use Rattle.plan_core.specs.Laws.Planned.{picks_pruned, picks_join, picks_part, marks_joined_law, marks_parted}
use Rattle.plan_core.proofs.planned.grow_marks.Goals as goal

pub slice_bounds-prune_picks-end : goal.slice_bounds-prune_picks-end
slice_bounds-prune_picks-end c = sym (ap length c.grow_rounds-grown.ensures.picked_are ∙ length_tabulate max_edges _)

pub prune_picks-found-requires : goal.prune_picks-found-requires
prune_picks-found-requires c = picks_pruned _ _ _ _ c.requires.survey_sound c.grow_rounds-grown.ensures

-- every group is joined
pub returns-in-Fine : goal.returns-in-Fine
returns-in-Fine c =
    let sound = c.requires.survey_sound in
    record {
      picked = _;
      grew = c.grow_rounds-grown.ensures;
      joins_is = picks_join _ _ _ _ sound c.grow_rounds-grown.ensures c.prune_picks-found.ensures.result_value (plain_bytes _ _ _ _ (λ v. omega (arith, c.shared_slice_known-1.given v))) c.in-Fine.is;
      marks_are = marks_joined_law _ _ _ _ sound c.grow_rounds-grown.ensures c.prune_picks-found.ensures.result_value _ c.prune_picks-found.ensures.marks_value (plain_bytes _ _ _ _ (λ v. omega (arith, c.shared_slice_known-1.given v))) c.requires.firsts_in_bounds c.in-Fine.is;
    }

-- some group is not
pub returns-in-Refused : goal.returns-in-Refused
returns-in-Refused c =
    let sound = c.requires.survey_sound in
    record {
      picked = _;
      grew = c.grow_rounds-grown.ensures;
      joins_is = picks_part _ _ _ _ sound c.grow_rounds-grown.ensures c.prune_picks-found.ensures.result_value c.in-Refused.is;
      marks_are = marks_parted _ _ _ _ sound c.grow_rounds-grown.ensures c.prune_picks-found.ensures.result_value _ c.prune_picks-found.ensures.marks_value c.in-Refused.is;
    }
