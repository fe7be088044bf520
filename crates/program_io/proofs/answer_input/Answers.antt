-- `answer_input` prints what the program says of what was read, where that fits.
use Rattle.std.proofs.Common.{ℕ}
use lib.ListN.{length-replicate}
use Rattle.std.proofs.lemmas.Result.{on_ok_weaker}
use Rattle.program_io.proofs.Prints.{prints_within}
use Rattle.program_io.proofs.answer_input.Goals as goal

pub returns : goal.returns
returns g c =
    on_ok_weaker _
    (prints_within _ _ _ g.A.Answers.output _ _ _ _ _ _ _ (length-replicate {A = ℕ} g.row.ROOM 0) (length-replicate {A = ℕ} g.row.SPACE 0) c.in_ok-got.ensures.first c.answer-told.ensures.value c.answer-told.ensures.out_value)
    c.write_printed.ensures
