-- `note_edges` meets its contract: it counts upwards, modulo 2^32, and after e edges the buffers are those of the definition.
use Rattle.std.proofs.Common.{◌≡◌, ◌%◌, ◌^◌, get_or}
use Rattle.base_finite.specs.Below.{count_below}
use Rattle.survey_components.specs.Labels.{picked_in}
use Rattle.plan_drop.specs.Peel.{ends_of, edges_noted}
use Rattle.plan_drop.proofs.peel.note_edges.Given as goal

abbrev pub invariant-loop-e : goal.invariant-loop-e
invariant-loop-e l =
    (l.i ≡ count_below l.e (picked_in l.picked) % 2 ^ 32)
    × (ends_of l.degrees l.others l.marks ≡ edges_noted (λ e. get_or l.firsts e 0) (λ e. get_or l.seconds e 0) (picked_in l.picked) l.e (ends_of l.initial.degrees l.initial.others l.initial.marks))
