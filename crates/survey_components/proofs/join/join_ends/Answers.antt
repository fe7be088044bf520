-- `join_ends` meets its contract: a branch on what the two vertices hang on.
use mathlib.Core.Path.{refl}
use Rattle.survey_components.specs.Laws.Met.{met_one, met_hung}
use Rattle.survey_components.proofs.join.join_ends.Goals as goal

pub returns-then-up-at : goal.returns-then-up-at
returns-then-up-at c =
    met_one _ _ _ _ refl c.at-up.ensures refl c.at.ensures c.if-up-at.true

pub returns : goal.returns
returns c =
    met_hung _ _ _ _ refl c.at-up.ensures refl c.at.ensures
    c.if-up-at.false c.hang_ends.ensures.hung
