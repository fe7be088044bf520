-- `format_survey::decide::decided` meets its contract: what the lines end with, and the end of the text.
use mathlib.Core.Path.{ap, ◌∙◌}
use Rattle.format_read.specs.Bytes.{end_at}
use Rattle.format_read.specs.Step.{found, ◌then◌}
use Rattle.format_survey.proofs.decide.decided.Goals as goal

pub returns : goal.returns
returns c =
    let a = c.args in
    c.ended.ensures ∙ ap (λ s. s then λ k p. end_at a.text.now p then λ z q. found k q) c.survey_lines-lines.ensures.0
