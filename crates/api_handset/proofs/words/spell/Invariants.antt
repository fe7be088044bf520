-- `spell` meets its contract: it stores at rising places.
use Rattle.api_handset.proofs.Laws.Words.{Spelling}
use Rattle.api_handset.proofs.words.spell.Given as goal

abbrev pub invariant-loop-i : goal.invariant-loop-i
invariant-loop-i g l = Spelling l.bytes l.initial.words l.i l.words
