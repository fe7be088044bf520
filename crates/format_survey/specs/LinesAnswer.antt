-- What the answers of the code say in the terms of the definitions: an edge's line and the two counts.
use Rattle.format_read.specs.Step.{Step, found, refused}
use Rattle.format_survey.specs.Line.{Edge, SurveyCounts}
use Rattle.format_survey.specs.declared.EdgeLine.{EdgeLine}
use Rattle.format_survey.specs.declared.EdgeLine.TheVariants.{Edge as EdgeRead, Refused as EdgeRefused}
use Rattle.format_survey.specs.declared.Head.{Head}
use Rattle.format_survey.specs.declared.Head.TheVariants.{Counts as CountsRead, Refused as HeadRefused}

unfoldable pub edge_step : EdgeLine → Step Edge
edge_step (EdgeRead u v w next) = found (record { first = u; second = v; weight = w }) next.at
edge_step (EdgeRefused number place) = refused number place

unfoldable pub counts_step : Head → Step SurveyCounts
counts_step (CountsRead n m next) = found (record { vertices = n; edges = m }) next.at
counts_step (HeadRefused number place) = refused number place
