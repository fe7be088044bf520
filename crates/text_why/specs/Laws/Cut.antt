-- The program `why` reads at most `survey_room` bytes; what stands behind them changes nothing that it prints.
use Rattle.std.specs.Prelude.{ℕ, ◌≡◌, List, take}
use Rattle.std.proofs.Common.{ap}
use Rattle.base_limits.specs.Limits.{survey_room}
use Rattle.format_survey.specs.Line.{widest}
use Rattle.format_survey.proofs.Laws.Cut.{reading_first_bytes}
use Rattle.text_plan.specs.Output.{survey_read}
use Rattle.text_why.specs.Output.{read_reason, reason_lines, why_output}

pub why_first_bytes : (t : List ℕ) (e : ℕ) → why_output (take survey_room t) e ≡ why_output t e
unfolding why_output survey_read
why_first_bytes t e = ap (λ o. reason_lines e (read_reason o e)) (reading_first_bytes t widest)
