-- `at_most` meets its contract: it is the smaller of the two.
use Rattle.std.proofs.Common.{arith, ⊎_elim}
use Rattle.base_finite.specs.Laws.Below.{lt_or_ge}
use Rattle.base_buffer.proofs.Laws.Part.{most_room, most_wanted}
use Rattle.base_buffer.proofs.part.at_most.Goals as goal

pub returns : goal.returns
returns c =
    ⊎_elim
    (λ b. let h = most_room c.args.wanted c.args.room b in omega arith)
    (λ b. let h = most_wanted c.args.wanted c.args.room b in omega arith)
    (lt_or_ge c.args.room c.args.wanted)
