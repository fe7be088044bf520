-- `word` meets its contract: four bytes, from the highest down.
use Rattle.api_handset.proofs.Laws.Words.{word_read}
use Rattle.api_handset.proofs.words.word.Goals as goal

pub returns : goal.returns
returns c =
    let args = c.args in
    word_read args.bytes.now args.i c.byte-3.ensures.value c.byte-2.ensures.value c.byte.ensures.value c.byte-fourth.ensures.value
