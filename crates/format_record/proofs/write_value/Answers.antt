-- `write_value`: the lowest eight bytes.
use Rattle.format_record.specs.Record.{with_value}
use Rattle.format_record.proofs.write_value.Goals as goal

pub returns : goal.returns
unfolding with_value
returns c = c.write_low.ensures
