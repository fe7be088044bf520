-- `grow_rounds` meets its contract: before each turn the arrays represent the state of the definition.
use Rattle.std.proofs.Common.{refl, arith}
use Rattle.plan_rounds.specs.Laws.Round.{going, merged_small, won_edge, round_over, round_won}
use Rattle.plan_rounds.specs.Laws.Rounds.{represents_start, all_merged, time_fits, settled_left, grown_still}
use Rattle.plan_rounds.proofs.grow_rounds.Goals as goal
use Rattle.plan_rounds.proofs.grow_rounds.Goals.{else-loop-r-test, then-loop-r-test+in_default}

pub overflow_cast-n : goal.overflow_cast-n
overflow_cast-n c = let few = c.requires.survey_sound.few in record { fits = omega arith }

pub loop-r-init : goal.loop-r-init
loop-r-init c = (
  represents_start c.requires.survey_sound refl c.requires.values_value c.own_labels.ensures c.active_flags-flags.ensures c.start_keys.ensures,
  record { mates_are = c.mates-mates.ensures; members_are = c.list_members-count.ensures.members_value; count_is = c.list_members-count.ensures.value },
)

pub overflow_add-n : goal.overflow_add-n
overflow_add-n c = record { fits = (merged_small c.loop-r.invariant.0).0 }

pub overflow_cast-n-in-loop-r : goal.overflow_cast-n-in-loop-r
overflow_cast-n-in-loop-r c = record { fits = (merged_small c.loop-r.invariant.0).1 }

pub note_pick-requires : goal.note_pick-requires
note_pick-requires c =
    let inv = c.loop-r.invariant in
    won_edge inv.0 _ inv.1 c.round-found.ensures.result_value c.round-found.ensures.flags_value c.in-Some.is

pub overflow_add-time : goal.overflow_add-time
overflow_add-time c =
    let inv = c.loop-r.invariant in
    record { fits = time_fits (round_won inv.0 _ inv.1 c.round-found.ensures.result_value c.round-found.ensures.flags_value c.in-Some.is (c.note_pick.ensures.picked_value, c.note_pick.ensures.order_value)) }

pub loop-r-preserved : goal.loop-r-preserved
loop-r-preserved c =
    let inv = c.loop-r.invariant in
    (round_won inv.0 _ inv.1 c.round-found.ensures.result_value c.round-found.ensures.flags_value c.in-Some.is (c.note_pick.ensures.picked_value, c.note_pick.ensures.order_value), inv.1)

pub overflow_add-n-2 : goal.overflow_add-n-2
overflow_add-n-2 c =
    let few = c.loop-r.invariant.0.sound.few in
    let left = going c.loop-r.invariant.0 in
    record { fits = omega arith }

-- after n - 1 rounds, or a round without a winner
pub returns : goal.returns
returns c =
    let inv = c.loop-r.invariant in
    elim c.loop-r-test.branch [
      | else-loop-r-test w ↦
          grown_still inv.0 (settled_left inv.0 w.values-is w.flags-is c.settle_bound.ensures.values_value) refl refl (all_merged inv.0 (omega (arith, w.loop-r-test.false))) c.settle_bound.ensures.rounds_value
      | then-loop-r-test+in_default w ↦
          let over = round_over inv.0 _ inv.1 w.round-found.ensures.result_value w.round-found.ensures.flags_value w.in_default.is in
          grown_still over.1 (settled_left over.1 w.values-is w.flags-is c.settle_bound.ensures.values_value) refl refl over.0 c.settle_bound.ensures.rounds_value
    ]
