-- `run` prints what the program says of what was read.
use Rattle.text_stp.specs.StpOutput.{stp_output}
use Rattle.std.proofs.lemmas.Result.{on_ok_weaker}
use Rattle.program_io.proofs.Prints.{prints, text_in_front}
use Rattle.stp.proofs.run.Goals as goal

pub returns : goal.returns
returns g c =
    on_ok_weaker _
    (prints _ _ stp_output _ _ _ _ _ c.room-bytes.ensures c.in_ok-got.ensures.first
    (text_in_front _ _ _ _ c.stp_whole-printed.ensures.value c.stp_whole-printed.ensures.out_value))
    c.write_all.ensures.bytes
