-- `turn_end` meets its contract: three stores at the vertex's place.
use Rattle.plan_drop.specs.Laws.Peel.{turned_by}
use Rattle.plan_drop.proofs.peel.turn_end.Goals as goal

pub returns : goal.returns
returns c =
    let args = c.args in
    turned_by args.v args.w args.mark args.more args.degrees.now args.others.now args.marks.now
    (rw (← c.at.ensures) c.put.ensures)
    (rw (← c.at-2.ensures) c.put-2.ensures)
    (rw (← c.at-3.ensures) c.put-3.ensures)
