-- `code` meets its contract: what is past 64 bits is their largest number.
use borrow.Author.Rules.{rules}
use Rattle.api_code.specs.Code.{capped}
use Rattle.api_code.proofs.code.Goals as goal

pub returns : goal.returns
unfolding capped
returns c = search rules
