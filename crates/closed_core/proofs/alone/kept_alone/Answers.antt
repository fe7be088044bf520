-- `kept_alone` meets its contract: dropping parts the picked tracks alone where 8 applies (`alone_parted`), and leaves the plan's cost (`alone_joined`).
use native.Mathlib.Omega.{arith}
use mathlib.Core.Path.{sym}
use Rattle.base_limits.specs.Limits.{max_vertices, max_edges}
use Rattle.survey_core.proofs.Laws.Group.{plain_bytes}
use Rattle.closed_rule.specs.Closed.{closed_outcome}
use Rattle.closed_core.specs.Laws.AloneSurvey.{count_few, listed_room, alone_picks, alone_parted, alone_joined}
use borrow.Author.Rules.{rules}
use Rattle.closed_core.proofs.alone.kept_alone.Goals as goal

pub slice_bounds-part-end : goal.slice_bounds-part-end
slice_bounds-part-end c = let few = count_few _ _ _ _ c.requires.survey_sound c.requires.picks_value c.list_picked-count.ensures.value in let long = listed_room _ _ _ max_vertices c.list_picked-count.ensures.fact.0 in search (rules, few, long)

pub slice_bounds-prune_picks-end : goal.slice_bounds-prune_picks-end
slice_bounds-prune_picks-end c = let few = count_few _ _ _ _ c.requires.survey_sound c.requires.picks_value c.list_picked-count.ensures.value in let long = listed_room _ _ _ max_vertices c.list_picked-count.ensures.fact.1 in search (rules, few, long)

pub slice_bounds-prune_picks-end-2 : goal.slice_bounds-prune_picks-end-2
slice_bounds-prune_picks-end-2 c = sym (listed_room _ _ _ max_edges c.list_picked-count.ensures.fact.3)

pub prune_picks-found-requires : goal.prune_picks-found-requires
prune_picks-found-requires c = alone_picks _ _ _ _ c.requires.survey_sound c.requires.picks_value c.list_picked-count.ensures.value c.list_picked-count.ensures.fact.0 c.list_picked-count.ensures.fact.1 c.list_picked-count.ensures.fact.2 c.list_picked-count.ensures.fact.3

-- 8
pub returns-in_default : goal.returns-in_default
unfolding closed_outcome
returns-in_default c = alone_parted _ _ _ _ c.requires.survey_sound c.requires.picks_value c.list_picked-count.ensures.value c.list_picked-count.ensures.fact.0 c.list_picked-count.ensures.fact.1 c.list_picked-count.ensures.fact.2 c.list_picked-count.ensures.fact.3 c.prune_picks-found.ensures.result_value c.in_default.is

pub slice_bounds-kept_cost-end : goal.slice_bounds-kept_cost-end
slice_bounds-kept_cost-end c = let few = count_few _ _ _ _ c.requires.survey_sound c.requires.picks_value c.list_picked-count.ensures.value in let long = listed_room _ _ _ max_vertices c.list_picked-count.ensures.fact.2 in search (rules, few, long)

-- cost and bound
pub returns : goal.returns
unfolding closed_outcome
returns c =
    alone_joined _ _ _ _ c.requires.survey_sound c.requires.picks_value c.list_picked-count.ensures.value c.list_picked-count.ensures.fact.0 c.list_picked-count.ensures.fact.1 c.list_picked-count.ensures.fact.2 c.list_picked-count.ensures.fact.3 c.prune_picks-found.ensures.result_value
    (plain_bytes _ _ _ _ (λ v. omega (arith, c.shared_slice_known-1.given v))) c.prune_picks-found.ensures.marks_value c.in-Fine.is c.kept_cost-cost.ensures c.requires.bound_value
