-- `given_at` meets its contract: a refusal of any part stays, and a value goes on to the next part.
use mathlib.Core.Path.{sym, ◌∙◌}
use Rattle.format_read.specs.Number.{stop_of}
use Rattle.format_read.proofs.Laws.NumberStep.{stopped_stays, value_goes}
use Rattle.text_winter.specs.Given.{strength_key, given_at, given_step}
use Rattle.text_winter.proofs.given.given_at.Goals as goal

pub returns-in_default : goal.returns-in_default
unfolding given_at strength_key stop_of
returns-in_default c =
    c.stopped_given.ensures ∙ stopped_stays _ c.fixed-key.ensures c.in_default.is

pub returns-in_default-one : goal.returns-in_default-one
unfolding given_at strength_key stop_of
returns-in_default-one c =
    c.stopped_given-in_default-one.ensures
    ∙ stopped_stays _ c.number_to-one.ensures c.in_default-one.is
    ∙ sym (value_goes _ c.fixed-key.ensures c.in-Value.is)

pub returns-in_default-two : goal.returns-in_default-two
unfolding given_at strength_key stop_of
returns-in_default-two c =
    c.stopped_given-in_default-two.ensures
    ∙ stopped_stays _ c.number_to-two.ensures c.in_default-two.is
    ∙ sym (value_goes _ c.number_to-one.ensures c.in-Value-one.is)
    ∙ sym (value_goes _ c.fixed-key.ensures c.in-Value.is)

pub returns : goal.returns
unfolding given_at strength_key stop_of given_step
returns c =
    sym (value_goes _ c.number_to-two.ensures c.in-Value-two.is)
    ∙ sym (value_goes _ c.number_to-one.ensures c.in-Value-one.is)
    ∙ sym (value_goes _ c.fixed-key.ensures c.in-Value.is)
