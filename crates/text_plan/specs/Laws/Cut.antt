-- The program `plan` reads at most `survey_room` bytes; what stands behind them changes nothing that it prints.
use Rattle.std.specs.Prelude.{ℕ, ◌≡◌, List, take}
use Rattle.std.proofs.Common.{ap}
use Rattle.base_limits.specs.Limits.{survey_room}
use Rattle.format_survey.specs.Line.{widest}
use Rattle.format_survey.proofs.Laws.Cut.{reading_first_bytes}
use Rattle.text_plan.specs.Output.{survey_read, read_plan, text_plan, outcome_text, plan_output}

pub output_first_bytes : (t : List ℕ) → plan_output (take survey_room t) ≡ plan_output t
unfolding plan_output text_plan survey_read
output_first_bytes t = ap (λ o. outcome_text (read_plan o)) (reading_first_bytes t widest)
