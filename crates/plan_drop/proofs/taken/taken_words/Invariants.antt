-- `taken_words` meets its contract: after e edges the buffers are those of the definition.
use Rattle.std.proofs.Common.{◌≡◌, get_or}
use Rattle.base_finite.specs.Below.{count_below}
use Rattle.base_limits.specs.Limits.{max_vertices}
use Rattle.survey_components.specs.Labels.{picked_in}
use Rattle.plan_drop.specs.Taken.{taken_below}
use Rattle.plan_drop.proofs.taken.taken_words.Given as goal

abbrev pub invariant-loop-e : goal.invariant-loop-e
invariant-loop-e l =
    (l.i ≡ count_below l.e (picked_in l.picked))
    × (l.labels ≡ (taken_below max_vertices (λ e. get_or l.firsts e 0) (λ e. get_or l.seconds e 0) (picked_in l.picked) l.base l.e).labels)
    × (l.words ≡ (taken_below max_vertices (λ e. get_or l.firsts e 0) (λ e. get_or l.seconds e 0) (picked_in l.picked) l.base l.e).words)
