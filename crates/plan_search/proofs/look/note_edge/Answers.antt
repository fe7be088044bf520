-- `note_edge` meets its contract: the labels decide, then whether the edge rests, and then the loads.
use mathlib.Core.Path.{ap, ◌∙◌}
use lib.ListN.{set}
use Rattle.theory_steiner.specs.Growth.{better}
use Rattle.plan_search.specs.Between.{slack_between, winner_in}
use Rattle.plan_search.proofs.Laws.Between.{better_never, better_inside, delay_apart}
use Rattle.plan_search.proofs.Laws.Tables.{better_resting, key_inside, key_resting, key_apart, reach_le}
use native.Mathlib.Omega.{arith}
use Rattle.plan_search.proofs.look.note_edge.Goals as goal

-- inside a component
pub returns-then-first-second : goal.returns-then-first-second
returns-then-first-second c =
    let args = c.args in
    let inside = c.if-first-second.true in record { result_value = c.better_of.ensures ∙ better_never (winner_in args.best) args.e ∙ better_inside args.first args.second args.weight (winner_in args.best) args.e inside; keys_value = c.put.ensures ∙ ap (λ k. set args.keys.now args.e k) (key_inside args.u args.v args.first args.second args.time args.weight inside) }

-- at rest
pub returns-then-rests_between : goal.returns-then-rests_between
returns-then-rests_between c =
    let args = c.args in
    let rests = c.rests_between.ensures in
    let yes = c.if-rests_between.true in record { result_value = c.better_of-then-rests_between.ensures ∙ better_never (winner_in args.best) args.e ∙ better_resting args.u args.v args.first args.second args.weight (winner_in args.best) args.e rests yes; keys_value = c.put-then-rests_between.ensures ∙ ap (λ k. set args.keys.now args.e k) (key_resting args.u args.v args.first args.second args.time args.weight rests yes) }

pub reach_between-requires : goal.reach_between-requires
reach_between-requires c = let slack = c.edge_slack-slack.ensures in omega arith

pub overflow_add-time : goal.overflow_add-time
overflow_add-time c =
    let small = c.requires in
    let slack = c.edge_slack-slack.ensures in
    let le = reach_le _ _ _ _ _ c.reach_between.ensures in
    record { fits = omega arith }

-- between two
pub returns : goal.returns
unfolding slack_between
returns c =
    let args = c.args in
    let apart = c.if-first-second.false in
    let slack = c.edge_slack-slack.ensures in record { result_value = c.better_of-2.ensures ∙ ap (better (winner_in args.best) args.e) (delay_apart args.first args.second args.weight apart slack c.delay_of.ensures); keys_value = c.put-2.ensures ∙ ap (λ k. set args.keys.now args.e k) (key_apart args.u args.v args.first args.second args.time args.weight apart c.rests_between.ensures c.if-rests_between.false slack c.reach_between.ensures) }
