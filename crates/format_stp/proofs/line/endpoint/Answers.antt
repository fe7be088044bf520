-- `format_stp::line::endpoint` meets its contract: a number that no group excludes.
use Rattle.format_stp.specs.StpNumber.{stop_byte}
use Rattle.format_stp.specs.StpReading.{stp_end}
use Rattle.format_stp.proofs.line.endpoint.Goals as goal

pub returns : goal.returns
unfolding stp_end stop_byte
returns c = c.free_number.ensures
