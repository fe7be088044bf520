-- How a text begins where reading gives 1, 3 or 7 (document 02, No. 5: 'those of our own text'), in lines as the grammar has them and with no word about
-- how a text is read. Laws/Beginning proves that reading gives each exactly if the text begins so.
use Rattle.std.specs.Prelude.{ℕ, ◌≤◌, ◌<◌, List, ◌++◌, ◌⊎◌, ◌≡◌, length}
use Rattle.base_limits.specs.Limits.{count_digits, max_vertices, max_edges}
use Rattle.format_write.specs.Text.{line_of}
use Rattle.format_read.specs.Number.{OfDigits}
use Rattle.format_survey.specs.Beginning.{BeginsWith, VerticesFit}
use Rattle.format_survey.specs.Line.{Lengths}
use Rattle.format_stp.specs.Grammar.{blanks, StpOpening}
use Rattle.format_stp.specs.StpKey.{nodes_word, edges_word}

-- The lengths of the lent buffers; an STP text has no pairs.
abbrev pub stp_lent : (groups firsts seconds weights : List ℕ) → Lengths
stp_lent groups firsts seconds weights = record { groups = length groups; firsts = length firsts; seconds = length seconds; weights = length weights; owners = 0; others = 0 }

-- The text begins with an opening and a whole line `Nodes n`.
pub record NodesLine (t : List ℕ) (n : ℕ) : Type 0 where
  pub opening : List ℕ
  pub opens : StpOpening opening
  pub digits : OfDigits count_digits n
  pub begins : BeginsWith (opening ++ line_of nodes_word n) t

-- And behind that, and empty lines, a whole line `Edges m`.
pub record EdgesLine (t : List ℕ) (n m : ℕ) : Type 0 where
  pub opening : List ℕ
  pub opens : StpOpening opening
  pub nodes_digits : OfDigits count_digits n
  pub empty : ℕ
  pub digits : OfDigits count_digits m
  pub begins : BeginsWith ((opening ++ line_of nodes_word n) ++ (blanks empty ++ line_of edges_word m)) t

-- 1: a whole `Nodes` line, whose number is 0 or over the limit.
pub record StpVerticesOut (t : List ℕ) : Type 0 where
  pub vertices : ℕ
  pub line : NodesLine t vertices
  pub out : (vertices ≡ 0) ⊎ (max_vertices < vertices)

-- 3: a `Nodes` line that fits, and a whole `Edges` line, whose number is over the limit.
pub record StpEdgesOver (lent : Lengths) (t : List ℕ) : Type 0 where
  pub vertices : ℕ
  pub edges : ℕ
  pub line : EdgesLine t vertices edges
  pub fits : VerticesFit lent vertices
  pub over : max_edges < edges

-- 7 at the first count: it is within the limit, and the group buffer is shorter.
pub record StpGroupsShort (lent : Lengths) (t : List ℕ) : Type 0 where
  pub vertices : ℕ
  pub line : NodesLine t vertices
  pub some : 0 < vertices
  pub most : vertices ≤ max_vertices
  pub short : lent.groups < vertices

-- 7 at the second: the first fits, it is within the limit, and a buffer of ends or prices is shorter.
pub record StpEdgesShort (lent : Lengths) (t : List ℕ) : Type 0 where
  pub vertices : ℕ
  pub edges : ℕ
  pub line : EdgesLine t vertices edges
  pub fits : VerticesFit lent vertices
  pub most : edges ≤ max_edges
  pub short : (lent.firsts < edges) ⊎ ((lent.seconds < edges) ⊎ (lent.weights < edges))

abbrev pub StpShort : Lengths → (t : List ℕ) → Type 0
StpShort lent t = StpGroupsShort lent t ⊎ StpEdgesShort lent t

-- A text that escapes 1, 3 and 7: it begins in none of these ways.
pub record StpEscapes (lent : Lengths) (t : List ℕ) : Type 0 where
  pub one : StpVerticesOut t → ⊥
  pub three : StpEdgesOver lent t → ⊥
  pub seven : StpShort lent t → ⊥

-- Every refusal of reading but 20: its number, its place, and how the text begins.
pub data StpRefusing (lent : Lengths) (t : List ℕ) (number place : ℕ) : Type 0 where
  vertices_out : number ≡ 1 → place ≡ 0 → StpVerticesOut t → StpRefusing lent t number place
  edges_over : number ≡ 3 → place ≡ 0 → StpEdgesOver lent t → StpRefusing lent t number place
  buffer_short : number ≡ 7 → place ≡ 0 → StpShort lent t → StpRefusing lent t number place
