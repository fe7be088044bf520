-- What an answer of the code says together with the groups that it leaves; those of a refusal do not count.
use Rattle.std.specs.Prelude.{ℕ, List}
use Rattle.format_read.specs.Step.{Step, found, refused}
use Rattle.format_read.specs.declared.Number.{Number}
use Rattle.format_read.specs.declared.Number.TheVariants.{Value, Refused}

unfoldable pub groups_step : Number → (groups : List ℕ) → Step (List ℕ)
groups_step (Value v next) groups = found groups next.at
groups_step (Refused number place) groups = refused number place
