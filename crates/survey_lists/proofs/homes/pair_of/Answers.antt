-- `pair_of` meets its contract: a branch on the vertex of the pair.
use mathlib.Core.Path.{sym, ◌∙◌}
use Rattle.survey_lists.proofs.Laws.Home.{pair_taken, pair_passed}
use Rattle.survey_lists.proofs.homes.pair_of.Goals as goal

pub returns-then-at-v : goal.returns-then-at-v
returns-then-at-v c = pair_taken (sym c.at.ensures ∙ c.if-at-v.true) c.at-then-at-v.ensures

pub returns : goal.returns
returns c = pair_passed _ (λ e. c.if-at-v.false (c.at.ensures ∙ e))
