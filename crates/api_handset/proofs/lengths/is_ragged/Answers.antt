-- `is_ragged` meets its contract: the remainder's test.
use borrow.Author.Rules.{rules}
use Rattle.api_handset.specs.Slices.{is_ragged}
use Rattle.api_handset.proofs.lengths.is_ragged.Goals as goal

pub returns : goal.returns
unfolding is_ragged
returns c = search rules
