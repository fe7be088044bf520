-- `track_number`: a number, and the end of the word.
use Rattle.format_read.specs.Step.{found, ◌then◌}
use Rattle.format_read.specs.Bytes.{end_at}
use Rattle.format_read.proofs.Laws.Step.{then_found, then_refused}
use Rattle.format_read.proofs.Laws.Bytes.{end_here, end_later}
use Rattle.format_read.proofs.Laws.NumberStep.{value_goes, refusal_stays}
use Rattle.format_read.specs.Answer.{number_step}
use mathlib.Core.Path.{sym, ◌∙◌}
use Rattle.text_why.specs.Output.{track_at}
use Rattle.text_why.proofs.track.track_number.Goals as goal

-- no number
pub returns-in_default : goal.returns-in_default
unfolding track_at
returns-in_default c =
    let word = c.args.word.now in
    refusal_stays (λ n p. end_at word p then λ z q. found n q) c.number_at-step.ensures c.in_default.is

-- more behind it
pub returns-then-end-word : goal.returns-then-end-word
unfolding track_at number_step
returns-then-end-word c =
    let word = c.args.word.now in
    sym
    (value_goes (λ n p. end_at word p then λ z q. found n q) c.number_at-step.ensures c.in-Value.is
    ∙ then_refused _ (end_later word _ c.if-end-word.true))

-- a number
pub returns : goal.returns
unfolding track_at number_step
returns c =
    let word = c.args.word.now in
    sym
    (value_goes (λ n p. end_at word p then λ z q. found n q) c.number_at-step.ensures c.in-Value.is
    ∙ then_found _ (end_here word _ c.if-end-word.false))
