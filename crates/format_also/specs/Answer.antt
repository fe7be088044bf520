-- What the answers of the code say in the terms of the definitions: an also line.
use Rattle.format_read.specs.Step.{Step, found, refused}
use Rattle.format_also.specs.Pair.{Pair, pair_of}
use Rattle.format_also.specs.declared.PairLine.{PairLine}
use Rattle.format_also.specs.declared.PairLine.TheVariants.{Pair as PairRead, Refused as PairRefused}

unfoldable pub pair_step : PairLine → Step Pair
pair_step (PairRead v g next) = found (pair_of v g) next.at
pair_step (PairRefused number place) = refused number place
