-- `format_also::test::rank` meets its contract: numbers of 32 bits leave room.
use borrow.Author.Rules.{rules}
use Rattle.format_also.specs.Pair.{rank}
use Rattle.format_also.proofs.test.rank.Goals as goal

pub returns : goal.returns
unfolding rank
returns c = search rules
