-- How a text begins where reading gives 1, 3, 7, 17 or 18 (document 01, 'Survey text and printed plan'; document 02, No. 2): in lines as the renderer
-- writes them, and with no word about how a text is read. Laws/Beginning proves that reading gives each exactly if the text begins so.
use Rattle.std.specs.Prelude.{ℕ, ◌≤◌, ◌<◌, ◌≡◌, ◌⊎◌, List, ◌++◌, length}
use Rattle.base_limits.specs.Limits.{max_vertices, max_edges, max_pairs, group_numbers, count_digits, group_digits}
use Rattle.format_read.specs.Language.{EachFrom}
use Rattle.format_read.specs.Lines.{text_of}
use Rattle.format_write.specs.Key.{nodes_key, links_key, node_key}
use Rattle.format_read.specs.Number.{OfDigits}
use Rattle.format_write.specs.Text.{line_of}
use Rattle.format_also.specs.Pair.{Pair, PairDigits}
use Rattle.format_also.specs.Render.{pair_text, pairs_text}
use Rattle.format_also.specs.WellFormed.{PairInOrder, PairOutOfOrder, PairsPass, last_rank}
use Rattle.format_survey.specs.Line.{Lengths, pair_room}

-- The text t begins with the bytes w.
pub record BeginsWith (w t : List ℕ) : Type 0 where
  pub rest : List ℕ
  pub whole : t ≡ w ++ rest

-- A count of junctions that escapes 1, and 7 of the group buffer.
pub record VerticesFit (lent : Lengths) (n : ℕ) : Type 0 where
  pub some : 0 < n
  pub most : n ≤ max_vertices
  pub room : n ≤ lent.groups

-- A count of tracks that escapes 3, and 7 of the buffers of ends and prices.
pub record EdgesFit (lent : Lengths) (m : ℕ) : Type 0 where
  pub most : m ≤ max_edges
  pub first : m ≤ lent.firsts
  pub second : m ≤ lent.seconds
  pub weight : m ≤ lent.weights

-- 1: a whole `nodes` line, whose number is 0 or over the limit.
pub record VerticesOut (t : List ℕ) : Type 0 where
  pub vertices : ℕ
  pub digits : OfDigits count_digits vertices
  pub out : (vertices ≡ 0) ⊎ (max_vertices < vertices)
  pub begins : BeginsWith (line_of nodes_key vertices) t

-- 3: a `nodes` line that fits, and a whole `links` line, whose number is over the limit.
pub record EdgesOver (lent : Lengths) (t : List ℕ) : Type 0 where
  pub vertices : ℕ
  pub edges : ℕ
  pub fits : VerticesFit lent vertices
  pub digits : OfDigits count_digits edges
  pub over : max_edges < edges
  pub begins : BeginsWith (line_of nodes_key vertices ++ line_of links_key edges) t

-- 7 at the first count: it is within the limit, and the group buffer is shorter.
pub record GroupsShort (lent : Lengths) (t : List ℕ) : Type 0 where
  pub vertices : ℕ
  pub some : 0 < vertices
  pub most : vertices ≤ max_vertices
  pub short : lent.groups < vertices
  pub begins : BeginsWith (line_of nodes_key vertices) t

-- 7 at the second count: the first fits, it is within the limit, and a buffer of ends or prices is shorter.
pub record EdgesShort (lent : Lengths) (t : List ℕ) : Type 0 where
  pub vertices : ℕ
  pub edges : ℕ
  pub fits : VerticesFit lent vertices
  pub most : edges ≤ max_edges
  pub short : (lent.firsts < edges) ⊎ ((lent.seconds < edges) ⊎ (lent.weights < edges))
  pub begins : BeginsWith (line_of nodes_key vertices ++ line_of links_key edges) t

-- 17 at junction v: counts that fit, the lines of the junctions before v with groups up to 255, and the whole line of v, whose group is higher.
pub record GroupOver (lent : Lengths) (t : List ℕ) (v : ℕ) : Type 0 where
  pub vertices : ℕ
  pub edges : ℕ
  pub before : List ℕ
  pub group : ℕ
  pub fits_vertices : VerticesFit lent vertices
  pub fits_edges : EdgesFit lent edges
  pub place : v ≡ length before
  pub inside : v < vertices
  pub each_before : EachFrom (λ u g. g < group_numbers) 0 before
  pub digits : OfDigits group_digits group
  pub over : group_numbers ≤ group
  pub begins : BeginsWith (line_of nodes_key vertices ++ line_of links_key edges ++ text_of (line_of node_key) before ++ line_of node_key group) t

-- The whole also line of pair i: counts that fit, groups up to 255, and the lines of the pairs before it, each of which passes.
pub record AlsoLine (lent : Lengths) (t : List ℕ) (i : ℕ) : Type 0 where
  pub groups : List ℕ
  pub edges : ℕ
  pub before : List Pair
  pub pair : Pair
  pub fits_vertices : VerticesFit lent (length groups)
  pub fits_edges : EdgesFit lent edges
  pub each_group : EachFrom (λ u g. g < group_numbers) 0 groups
  pub passes : PairsPass groups (pair_room lent) 0 0 before
  pub place : i ≡ length before
  pub few : i < max_pairs
  pub digits : PairDigits pair
  pub begins : BeginsWith (line_of nodes_key (length groups) ++ line_of links_key edges ++ text_of (line_of node_key) groups ++ pairs_text before ++ pair_text pair) t

-- 17 in an also line, at its junction v as it is written: the group is higher than 255.
pub record PairOver (lent : Lengths) (t : List ℕ) (v : ℕ) : Type 0 where
  pub number : ℕ
  pub line : AlsoLine lent t number
  pub junction : v ≡ line.pair.owner
  pub over : group_numbers ≤ line.pair.other

-- 18 at pair i: its group is none above 255, and it has one of the faults that 18 names.
pub record PairFaulty (lent : Lengths) (t : List ℕ) (i : ℕ) : Type 0 where
  pub line : AlsoLine lent t i
  pub group : line.pair.other < group_numbers
  pub fault : PairOutOfOrder line.groups (last_rank 0 line.before) line.pair

-- 7 in an also line: 17 and 18 do not come to its pair, and one of the pair buffers is full.
pub record PairsShort (lent : Lengths) (t : List ℕ) : Type 0 where
  pub number : ℕ
  pub line : AlsoLine lent t number
  pub group : line.pair.other < group_numbers
  pub order : PairInOrder line.groups (last_rank 0 line.before) line.pair
  pub short : (lent.owners ≤ number) ⊎ (lent.others ≤ number)

abbrev pub BufferShort : Lengths → (t : List ℕ) → Type 0
BufferShort lent t = GroupsShort lent t ⊎ (EdgesShort lent t ⊎ PairsShort lent t)

abbrev pub HighGroup : Lengths → (t : List ℕ) → (v : ℕ) → Type 0
HighGroup lent t v = GroupOver lent t v ⊎ PairOver lent t v

-- Every refusal of reading but 16: its number, its place, and how the text begins.
pub data Refusing (lent : Lengths) (t : List ℕ) (number place : ℕ) : Type 0 where
  vertices_out : number ≡ 1 → place ≡ 0 → VerticesOut t → Refusing lent t number place
  edges_over : number ≡ 3 → place ≡ 0 → EdgesOver lent t → Refusing lent t number place
  buffer_short : number ≡ 7 → place ≡ 0 → BufferShort lent t → Refusing lent t number place
  high_group : number ≡ 17 → HighGroup lent t place → Refusing lent t number place
  pair_faulty : number ≡ 18 → PairFaulty lent t place → Refusing lent t number place
