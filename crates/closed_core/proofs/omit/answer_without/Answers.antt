-- `answer_without` meets its contract: the three lists without the track, planned (`left_out_lent`).
use native.Mathlib.Omega.{arith}
use mathlib.Core.Path.{refl, ap, sym, ◌∙◌, subst}
use Rattle.survey_core.specs.Survey.{Survey, survey_with}
use Rattle.survey_core.specs.Sound.{SurveySound}
use Rattle.plan_rule.specs.Figures.{figuring}
use Rattle.closed_core.specs.LeftOut.{closed_of}
use Rattle.closed_core.specs.Laws.LeftOut.{left_long, left_out_sound, left_out_lent}
use borrow.Author.Rules.{rules}
use Rattle.closed_core.proofs.omit.answer_without.Goals as goal

pub overflow_sub-count : goal.overflow_sub-count
overflow_sub-count c = let known = c.requires.c_in_bounds in search (rules, known)

pub leave_out-requires : goal.leave_out-requires
leave_out-requires c = (c.requires.c_in_bounds, c.requires.survey_sound.edges_few, refl)

pub leave_out-requires-2 : goal.leave_out-requires-2
leave_out-requires-2 c =
    let few = c.requires.survey_sound.edges_few in
    let long = c.requires.survey_sound.seconds_long in
    (omega (arith, long, c.requires.c_in_bounds), omega (arith, few, long), refl)

pub leave_out-requires-3 : goal.leave_out-requires-3
leave_out-requires-3 c =
    let few = c.requires.survey_sound.edges_few in
    let long = c.requires.survey_sound.weights_long in
    (omega (arith, long, c.requires.c_in_bounds), omega (arith, few, long), refl)

pub slice_bounds-sound_answer-end : goal.slice_bounds-sound_answer-end
slice_bounds-sound_answer-end c = let few = c.requires.survey_sound.edges_few in let long = left_long _ _ c.leave_out.ensures in search (rules, few, long)

pub slice_bounds-sound_answer-end-2 : goal.slice_bounds-sound_answer-end-2
slice_bounds-sound_answer-end-2 c = let few = c.requires.survey_sound.edges_few in let long = left_long _ _ c.leave_out-2.ensures in search (rules, few, long)

pub slice_bounds-sound_answer-end-3 : goal.slice_bounds-sound_answer-end-3
slice_bounds-sound_answer-end-3 c = let few = c.requires.survey_sound.edges_few in let long = left_long _ _ c.leave_out-3.ensures in search (rules, few, long)

pub sound_answer-requires : goal.sound_answer-requires
sound_answer-requires c =
    let a = c.args in
    subst SurveySound
    (sym (left_out_lent (survey_with a.groups.now a.firsts.now a.seconds.now a.weights.now a.owners.now a.others.now) a.c c.requires.survey_sound c.leave_out.ensures c.leave_out-2.ensures c.leave_out-3.ensures))
    (left_out_sound _ c.requires.survey_sound _ c.requires.c_in_bounds)

pub returns : goal.returns
returns c =
    let a = c.args in
    c.sound_answer.ensures
    ∙ ap (λ (s : Survey). closed_of (figuring s))
    (left_out_lent (survey_with a.groups.now a.firsts.now a.seconds.now a.weights.now a.owners.now a.others.now) a.c c.requires.survey_sound c.leave_out.ensures c.leave_out-2.ensures c.leave_out-3.ensures)
