-- `are_joined` meets its contract.
use Rattle.why_core.specs.Laws.Replay.{read_both}
use Rattle.why_core.proofs.round.are_joined.Goals as goal

pub returns : goal.returns
returns c =
    read_both c.args.labels.now c.at-first.ensures c.at.ensures c.at-second.ensures c.at-2.ensures
