-- `take_ends` meets its contract: what it reads is what the definitions read.
use Rattle.plan_drop.specs.Laws.Word.{edge_taken_by, ends_joined_by}
use Rattle.plan_drop.proofs.taken.take_ends.Goals as goal

pub returns : goal.returns
returns c =
    let args = c.args in
    let x = c.at-x.ensures in
    let y = c.at-y.ensures in (
      ends_joined_by args.a args.b args.labels.now x y c.relabel.ensures,
      edge_taken_by args.a args.b args.own args.labels.now args.words.now x y
          (c.at.ensures)
          (c.at-2.ensures)
          c.turn_all.ensures,
    )
