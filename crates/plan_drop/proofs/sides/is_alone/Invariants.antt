-- `is_alone` meets its contract: before each turn the edges below e have passed.
use Rattle.std.proofs.Common.{◌≡◌, true, get_or}
use Rattle.base_finite.specs.Below.{count_below}
use Rattle.survey_components.specs.Labels.{picked_in}
use Rattle.plan_drop.specs.Word.{are_alone}
use Rattle.plan_drop.proofs.sides.is_alone.Given as goal

abbrev pub invariant-loop-e : goal.invariant-loop-e
invariant-loop-e l =
    (l.i ≡ count_below l.e (picked_in l.picked))
    × (are_alone (λ e. get_or l.firsts e 0) (λ e. get_or l.seconds e 0) (picked_in l.picked) l.base l.e l.words ≡ true)
