-- `record_bytes` meets its contract.
use Rattle.text_plan.specs.Laws.Planned.{held_room, held_wanted}
use Rattle.text_plan.proofs.print.record_bytes.Goals as goal

pub returns-then-room-wanted : goal.returns-then-room-wanted
returns-then-room-wanted c = held_room _ _ c.if-room-wanted.true

pub returns : goal.returns
returns c = held_wanted _ _ c.if-room-wanted.false
