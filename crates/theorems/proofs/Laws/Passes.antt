-- Every finished plan, printed behind the text of its survey, passes the checking program with the same counts, and both texts fit that program's buffer.
use Rattle.std.specs.Prelude.{ℕ, ◌^◌, ◌≤◌, ◌<◌, ◌≡◌, length}
use Rattle.std.proofs.Common.{arith}
use mathlib.Core.List.{List, ◌++◌}
use Rattle.base_limits.specs.Limits.{figure_digits, verify_room}
use Rattle.base_limits.specs.Verdict.{answer}
use Rattle.base_limits.specs.declared.Verdict.TheVariants.{Fine}
use Rattle.format_survey.specs.Line.{Lengths}
use Rattle.format_survey.specs.Reading.{reading, SurveyText}
use Rattle.theory_steiner.proofs.Laws.Rounds.{rounds_lt, grown_reached}
use Rattle.survey_core.specs.Survey.{Survey, vertex_count, problem_of}
use Rattle.survey_core.specs.Sound.{SurveySound, ByteGroups}
use Rattle.survey_core.proofs.Laws.Refusal.{survey_sound}
use Rattle.check_rule.specs.Check.{Checked}
use Rattle.plan_draw.specs.Drawing.{records_of}
use Rattle.plan_draw.proofs.Laws.Drawing.{bytes_records}
use Rattle.plan_rule.specs.Plan.{plan_of, plan_refusal}
use Rattle.plan_rule.specs.Promise.{Ready}
use Rattle.plan_rule.proofs.Laws.Ready.{fine_ready}
use Rattle.plan_rule.proofs.Laws.Passes.{finished_passes}
use Rattle.check_printed.specs.Verify.{survey_in, verifying}
use Rattle.check_printed.specs.Laws.Passes.{read_numbered, printed_passes, printed_length}
use Rattle.check_printed.specs.Laws.Length.{verified_length}
use Rattle.theorems.specs.Printed.{plan_for, printed_plan}

-- Rounds have few digits.
pub rounds_few : (s : Survey) → SurveySound s → (plan_of (problem_of s)).rounds < 10 ^ figure_digits
unfolding plan_of problem_of vertex_count
rounds_few s sound =
    let some = sound.some in
    let few = sound.few in
    let r = rounds_lt (problem_of s) (survey_sound s sound) (omega arith) (grown_reached (problem_of s)) in
    omega arith

-- Whatever passes, the checking program reads whole: what it cannot see does not pass.
pub passed_fits : (t : List ℕ) (c : Checked) → verifying t ≡ answer c → length t ≤ verify_room
passed_fits t c e = let l = verified_length t c e in omega arith

-- A survey's text, read with any buffers.
module _ (t : List ℕ) (lent : Lengths) (s : SurveyText) (read : reading t lent ≡ answer s) where
  numbered : ByteGroups (survey_in s)
  numbered = read_numbered t lent s read

  ready : (marks_length records_length : ℕ) → plan_refusal (survey_in s) marks_length records_length ≡ Fine → Ready (survey_in s) marks_length records_length
  ready marks_length records_length fine = fine_ready (survey_in s) numbered marks_length records_length fine

  module _ (marks_length records_length : ℕ) (fine : plan_refusal (survey_in s) marks_length records_length ≡ Fine) where
    -- Where none of 1 to 8 applies, the plan printed behind the survey's text passes, with its own k, cost and bound.
    pub plan_passes : verifying (t ++ printed_plan (plan_for s)) ≡ answer (record { terminals = (plan_for s).terminals; cost = (plan_for s).cost; bound = (plan_for s).bound })
    plan_passes =
        let p = plan_for s in
        let plain = ready marks_length records_length fine in
        printed_passes t lent s read p.marks (records_of p.duals) (bytes_records p.duals) p.rounds (rounds_few (survey_in s) plain.survey)
        (record { terminals = p.terminals; cost = p.cost; bound = p.bound }) (finished_passes (survey_in s) plain.survey plain.joinable numbered)

    -- The checking program reads both texts whole.
    pub plan_fits : length (t ++ printed_plan (plan_for s)) ≤ verify_room
    plan_fits =
        let p = plan_for s in
        let plain = ready marks_length records_length fine in
        let l =
        printed_length t lent s read p.marks (records_of p.duals) (bytes_records p.duals) p.rounds (rounds_few (survey_in s) plain.survey)
        (record { terminals = p.terminals; cost = p.cost; bound = p.bound }) (finished_passes (survey_in s) plain.survey plain.joinable numbered) in
        omega arith
