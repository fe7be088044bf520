-- `note_edge` meets its contract: a branch on whether the edge is picked.
use Rattle.std.proofs.Common.{refl, sym, ◌∙◌}
use Rattle.plan_drop.specs.Laws.Peel.{noted_picked, noted_passed}
use Rattle.plan_drop.proofs.peel.note_edge.Goals as goal

-- picked
pub returns-then-is_picked : goal.returns-then-is_picked
returns-then-is_picked c =
    let t = sym c.is_picked.ensures ∙ c.if-is_picked.true in
    record { value = rw t refl; marks_value = noted_picked _ _ _ _ t c.at-a.ensures c.at-b.ensures refl c.turn_end.ensures c.turn_end-then-is_picked.ensures }

-- not picked
pub returns : goal.returns
returns c =
    let t = sym c.is_picked.ensures ∙ c.if-is_picked.false in
    record { value = rw t; marks_value = noted_passed _ _ t }
