-- A survey as a text (document 01, 'Survey text and printed plan'; document 02, No. 2): its lines in their fixed order.
use Rattle.std.specs.Prelude.{ℕ, ◌+◌, ◌*◌, List, ◌++◌, length}
use Rattle.format_read.specs.Number.{line_bytes}
use Rattle.base_limits.specs.Limits.{max_vertices, max_edges, max_pairs, group_digits, endpoint_digits, weight_digits}
use Rattle.format_write.specs.Text.{line_of}
use Rattle.format_write.specs.Key.{nodes_key, links_key, node_key, link_key}
use Rattle.format_also.specs.Pair.{Pair}
use Rattle.format_also.specs.Render.{pairs_text, pair_bytes}
use Rattle.format_survey.specs.Line.{Edge}
use Rattle.format_survey.specs.LinesRender.{edge_text}
use Rattle.format_read.specs.Lines.{text_of}

unfoldable pub render : (groups : List ℕ) (pairs : List Pair) (edges : List Edge) → List ℕ
render groups pairs edges =
    line_of nodes_key (length groups)
    ++ line_of links_key (length edges)
    ++ text_of (line_of node_key) groups
    ++ pairs_text pairs
    ++ text_of edge_text edges

-- The bytes that an edge's line can take.
abbrev pub edge_bytes : ℕ
edge_bytes = length link_key + (2 * (endpoint_digits + 1) + (weight_digits + 1))

-- The longest text: the two count lines, whose counts have three and four digits, the group lines, the also lines and the edge lines.
abbrev pub longest_text : ℕ
longest_text = line_bytes nodes_key 3 + line_bytes links_key 4 + max_vertices * line_bytes node_key group_digits + max_pairs * pair_bytes + max_edges * edge_bytes
