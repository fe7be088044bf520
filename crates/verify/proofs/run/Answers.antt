-- `run` prints what checking says of what was read, and the line that the printed figures show.
use Rattle.std.proofs.Common.{◌∙◌, ap}
use Rattle.text_verify.specs.Output.{verify_output}
use Rattle.format_plan.specs.Remark.{remark_line, remark_on}
use Rattle.program_io.proofs.Prints.{prints, text_in_front, on_ok}
use Rattle.std.proofs.lemmas.Result.{on_ok_weaker}
use Rattle.verify.proofs.run.Goals as goal

pub returns-clause-output : goal.returns-clause-output
returns-clause-output g c =
    on_ok _ _
    (prints _ _ verify_output _ _ _ _ _ c.room-bytes.ensures c.in_ok-got.ensures.first
    (text_in_front _ _ _ _ c.verify_whole-printed.ensures.value c.verify_whole-printed.ensures.out_value)
    c.in_ok-write_all.ensures.bytes)

pub returns-clause-errors : goal.returns-clause-errors
unfolding remark_line
returns-clause-errors g c =
    on_ok_weaker _
    (prints _ _ (λ t. remark_on (verify_output t) 7) _ _ _ _ _ c.room-bytes.ensures c.in_ok-got.ensures.first
    (c.remark-said.ensures.remark_line_value
    ∙ ap (λ l. remark_on l 7) (text_in_front _ _ _ _ c.verify_whole-printed.ensures.value c.verify_whole-printed.ensures.out_value)))
    c.write_all-2.ensures.bytes
