-- `note_member` meets its contract: one more is stored.
use Rattle.floor_core.specs.Laws.Shares.{noted_member}
use Rattle.floor_core.proofs.shares.note_member.Goals as goal

pub returns : goal.returns
returns c = noted_member c.args.counts.now _ c.from.ensures c.at-count.ensures c.from-2.ensures c.put.ensures
