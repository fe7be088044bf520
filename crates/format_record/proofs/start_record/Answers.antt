-- `start_record`: a record with no member is its value in all its bytes.
use mathlib.Core.Path.{ap, sym, ◌∙◌}
use native.Mathlib.Omega.{arith}
use Rattle.format_record.proofs.Laws.Record.{record_of_none}
use Rattle.format_record.specs.Record.{overwritten, started_as}
use Rattle.format_record.proofs.start_record.Goals as goal

pub returns : goal.returns
unfolding started_as
returns c =
    let a = c.args in
    c.write_low.ensures ∙ ap (overwritten a.part.now) (sym (record_of_none a.x (omega arith)))
