-- `mates` meets its contract: before each turn the table holds the last members below v, and the mates below v are stored; from the end of the groups on each is its own.
use mathlib.Core.Path.{◌≡◌}
use Rattle.base_finite.specs.Below.{tabulate}
use Rattle.base_limits.specs.Limits.{group_numbers}
use Rattle.base_buffer.specs.Store.{remade}
use Rattle.survey_groups.specs.Mate.{last_below, mate_of}
use Rattle.survey_groups.proofs.mates.mates.Given as goal

abbrev pub invariant-loop-v : goal.invariant-loop-v
invariant-loop-v l =
    (l.last ≡ tabulate group_numbers (λ g. last_below l.groups g l.v)) × (l.mates ≡ remade (λ v x. mate_of l.groups v) l.v l.initial.mates)
