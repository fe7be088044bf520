-- `answer` prints what the program says of what was read, where that fits.
use Rattle.std.proofs.Common.{ℕ}
use lib.ListN.{length-replicate}
use Rattle.text_closed.specs.Output.{closed_output}
use Rattle.std.proofs.lemmas.Result.{on_ok_weaker}
use Rattle.program_io.proofs.Prints.{prints_within}
use Rattle.closed.proofs.answer.Goals as goal

pub returns : goal.returns
returns g c =
    on_ok_weaker _
    (prints_within _ _ _ (λ t. closed_output t c.args.tracks.now) _ _ _ _ _ _ _ c.room-bytes.ensures (length-replicate {A = ℕ} 20480 0) c.in_ok-got.ensures.first c.closed_text-told.ensures.value c.closed_text-told.ensures.out_value)
    c.write_printed.ensures
