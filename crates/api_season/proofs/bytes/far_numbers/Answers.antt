-- `far_numbers` meets its contract.
use Rattle.api_season.specs.Laws.Bytes.{numbers_none, numbers_some}
use Rattle.api_season.proofs.bytes.far_numbers.Goals as goal

pub returns-in-Nothing : goal.returns-in-Nothing
returns-in-Nothing c = numbers_none c.in-Nothing.is

pub returns-in-At : goal.returns-in-At
returns-in-At c = numbers_some c.in-At.is
