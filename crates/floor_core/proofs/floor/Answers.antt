-- `floor` meets its contract: planning's refusals, or the ascent over its figures.
use native.Mathlib.Omega.{arith}
use Rattle.survey_core.specs.Survey.{survey_with}
use Rattle.floor_rule.specs.Floor.{floored_outcome}
use Rattle.floor_core.specs.Laws.Floor.{figured_sound, floor_finished, floor_refused, floor_promised}
use Rattle.floor_core.proofs.floor.Goals as goal

pub ascent_of-ascent-requires : goal.ascent_of-ascent-requires
ascent_of-ascent-requires c = figured_sound (survey_with c.args.groups.now c.args.firsts.now c.args.seconds.now c.args.weights.now c.args.owners.now c.args.others.now) c.figures-figured.ensures.result_value c.in-Finished.is (record { own_byte = λ v. omega (arith, c.shared_slice_known-1.given v); other_byte = λ i. omega (arith, c.shared_slice_known-6-1.given i) })

pub returns-in-Finished : goal.returns-in-Finished
unfolding floored_outcome
returns-in-Finished c = let is = floor_finished (survey_with c.args.groups.now c.args.firsts.now c.args.seconds.now c.args.weights.now c.args.owners.now c.args.others.now) c.figures-figured.ensures.result_value c.in-Finished.is c.ascent_of-ascent.ensures c.greater_half.ensures in record { result_value = is; promises = floor_promised (survey_with c.args.groups.now c.args.firsts.now c.args.seconds.now c.args.weights.now c.args.owners.now c.args.others.now) (record { own_byte = λ v. omega (arith, c.shared_slice_known-1.given v); other_byte = λ i. omega (arith, c.shared_slice_known-6-1.given i) }) is }

pub returns-in-Refused : goal.returns-in-Refused
unfolding floored_outcome
returns-in-Refused c = let is = floor_refused (survey_with c.args.groups.now c.args.firsts.now c.args.seconds.now c.args.weights.now c.args.owners.now c.args.others.now) c.figures-figured.ensures.result_value c.in-Refused.is in record { result_value = is; promises = floor_promised (survey_with c.args.groups.now c.args.firsts.now c.args.seconds.now c.args.weights.now c.args.owners.now c.args.others.now) (record { own_byte = λ v. omega (arith, c.shared_slice_known-1.given v); other_byte = λ i. omega (arith, c.shared_slice_known-6-1.given i) }) is }
