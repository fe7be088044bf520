-- What the answers of the code say in the terms of the definitions: a number, or a refusal.
use Rattle.std.specs.Prelude.{ℕ}
use Rattle.format_read.specs.declared.Number.{Number}
use Rattle.format_read.specs.declared.Number.TheVariants.{Value, Refused}
use Rattle.format_read.specs.Step.{Step, found, refused}

unfoldable pub number_step : Number → Step ℕ
number_step (Value n next) = found n next.at
number_step (Refused number place) = refused number place
