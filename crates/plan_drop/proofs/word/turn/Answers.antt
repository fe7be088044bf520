-- `turn` meets its contract: the two exclusive ors of the definition.
use Rattle.plan_drop.specs.Word.{turned}
use Rattle.plan_drop.proofs.word.turn.Goals as goal

pub returns : goal.returns
unfolding turned
returns c = rw (c.word_at.ensures, c.word_at-2.ensures)
