-- `home` meets its contract: the own group, or the first pair that the search finds.
use mathlib.Core.Path.{sym, ◌∙◌}
use Rattle.survey_core.specs.Lists.{lists_from}
use Rattle.survey_lists.proofs.Laws.Home.{home_own, homeless_start, homeless_turn, homeless_found, homeless_end}
use Rattle.survey_lists.proofs.homes.home.Goals as goal

-- the own group
pub returns-then-own-ne0 : goal.returns-then-own-ne0
returns-then-own-ne0 c = c.at-own.ensures ∙ sym (home_own (lists_from _ _ _) _ (λ e. c.if-own-ne0.true (c.at-own.ensures ∙ e)))

pub loop-i-init : goal.loop-i-init
loop-i-init c = homeless_start _ _ (sym c.at-own.ensures ∙ c.if-own-ne0.false)

-- the first pair
pub returns-then-found-ne0 : goal.returns-then-found-ne0
returns-then-found-ne0 c =
    homeless_found _ _ c.loop-i.invariant c.loop-i-test.true c.pair_of-found.ensures c.if-found-ne0.true

pub loop-i-preserved : goal.loop-i-preserved
loop-i-preserved c =
    homeless_turn _ _ c.loop-i.invariant c.loop-i-test.true c.pair_of-found.ensures c.if-found-ne0.false

-- no list
pub returns : goal.returns
returns c = homeless_end _ _ c.loop-i.invariant c.loop-i-test.false
