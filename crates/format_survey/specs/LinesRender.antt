-- The text of an edge's line (document 01, 'Survey text and printed plan').
use Rattle.std.specs.Prelude.{ℕ, List, ◌++◌}
use Rattle.format_write.specs.Key.{comma, newline, link_key}
use Rattle.format_survey.specs.Line.{Edge}
use Rattle.format_read.specs.Number.{number_text}

unfoldable pub edge_text : Edge → List ℕ
edge_text e =
    link_key ++ number_text comma e.first ++ number_text comma e.second ++ number_text newline e.weight
