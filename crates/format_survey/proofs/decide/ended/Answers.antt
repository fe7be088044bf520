-- `format_survey::decide::ended` meets its contract: a refusal of a line stays, and the end of the text is looked for last.
use mathlib.Core.Path.{ap, sym, ◌∙◌}
use Rattle.format_read.proofs.Laws.Step.{then_found, then_refused}
use Rattle.format_read.proofs.Laws.Bytes.{end_here, end_later}
use Rattle.format_read.specs.Answer.{number_step}
use Rattle.format_survey.proofs.decide.ended.Goals as goal

-- a line is refused
pub returns-in_default : goal.returns-in_default
unfolding number_step
returns-in_default c = let told = ap number_step c.in_default.is in told ∙ sym (then_refused _ told)

-- 16: something stands behind the last line
pub returns-then-end-text : goal.returns-then-end-text
unfolding number_step
returns-then-end-text c = sym (then_found _ (ap number_step c.in-Value.is) ∙ then_refused _ (end_later _ _ c.if-end-text.true))

pub returns : goal.returns
unfolding number_step
returns c = sym (then_found _ (ap number_step c.in-Value.is) ∙ then_found _ (end_here _ _ c.if-end-text.false))
