-- The lines of a survey text (document 01, 'Survey text and printed plan', and 1, 3, 7, 16 and 17 of 'Refused surveys and plans'; document 02, No. 2: the
-- also lines, which format_also reads).
use Rattle.std.specs.Prelude.{ℕ, min, ◌||◌, cond, List, [], map, length, eqb, ltb, leb}
use Rattle.base_limits.specs.Limits.{max_vertices, max_edges, max_pairs, group_numbers, count_digits, group_digits, endpoint_digits, weight_digits}
use Rattle.base_limits.specs.Verdict.{refuse_if, ◌before◌}
use Rattle.base_limits.specs.declared.Verdict.{Verdict}
use Rattle.format_write.specs.Key.{nodes_key, links_key, node_key, link_key, comma, newline}
use Rattle.format_read.specs.Step.{Step, found, refused, ◌then◌, checked}
use Rattle.format_read.specs.Lines.{Lines, lines_from, lines_after}
use Rattle.format_read.specs.Bytes.{fixed_at}
use Rattle.format_read.specs.Number.{number_to, number_line, OfDigits}
use Rattle.format_also.specs.Pair.{Pair, also_at}

-- How long the buffers are that are lent for what a text says.
pub record Lengths : Type 0 where
  pub groups : ℕ
  pub firsts : ℕ
  pub seconds : ℕ
  pub weights : ℕ
  pub owners : ℕ
  pub others : ℕ

abbrev pub lengths_of : (groups firsts seconds weights owners others : List ℕ) → Lengths
lengths_of groups firsts seconds weights owners others =
    record { groups = length groups; firsts = length firsts; seconds = length seconds; weights = length weights; owners = length owners; others = length others }

abbrev pub lent_lengths : (groups firsts seconds weights owners others : List ℕ) → Lengths
lent_lengths groups firsts seconds weights owners others = lengths_of groups firsts seconds weights owners others

-- Buffers that hold what any text within the limits says.
abbrev pub widest : Lengths
widest = record { groups = max_vertices; firsts = max_edges; seconds = max_edges; weights = max_edges; owners = max_pairs; others = max_pairs }

-- Of the two pair buffers the shorter counts.
abbrev pub pair_room : Lengths → ℕ
pair_room lent = min lent.owners lent.others

-- What is tested when a line is complete: a count, the group of vertex v; and for how many pairs there is room.
pub record Tests : Type 0 where
  pub vertices : ℕ → Verdict
  pub edges : ℕ → Verdict
  pub group : (v g : ℕ) → Verdict
  pub room : ℕ

-- 1, then 7 where the group buffer is short.
unfoldable pub vertices_test : (lent n : ℕ) → Verdict
vertices_test lent n = refuse_if (eqb n 0 || ltb max_vertices n) 1 0 before refuse_if (ltb lent n) 7 0

-- 3, then 7 where one of the three others is short.
unfoldable pub edges_test : (firsts seconds weights m : ℕ) → Verdict
edges_test firsts seconds weights m =
    refuse_if (ltb max_edges m) 3 0 before refuse_if (ltb firsts m || ltb seconds m || ltb weights m) 7 0

-- 17 at the vertex.
unfoldable pub group_test : (v g : ℕ) → Verdict
group_test v g = refuse_if (leb group_numbers g) 17 v

unfoldable pub tests_for : Lengths → Tests
tests_for lent =
    record { vertices = vertices_test lent.groups; edges = edges_test lent.firsts lent.seconds lent.weights; group = group_test; room = pair_room lent }

unfoldable pub count_line : (key : List ℕ) → (ℕ → Verdict) → List ℕ → (at : ℕ) → Step ℕ
count_line key test t at = number_line key count_digits t at then λ n p. checked (test n) n p

unfoldable pub group_line : (ℕ → ℕ → Verdict) → List ℕ → (v at : ℕ) → Step ℕ
group_line test t v at = number_line node_key group_digits t at then λ g p. checked (test v g) g p

-- A track's two ends and its price.
pub record Edge : Type 0 where
  pub first : ℕ
  pub second : ℕ
  pub weight : ℕ

-- Numbers of 32 bits lie below this.
abbrev pub word_numbers : ℕ
word_numbers = 4294967296

-- The numbers of an edge's line have no more digits than a line may give them.
pub record EdgeDigits (x : Edge) : Type 0 where
  pub first : OfDigits endpoint_digits x.first
  pub second : OfDigits endpoint_digits x.second
  pub weight : OfDigits weight_digits x.weight

unfoldable pub firsts_of : List Edge → List ℕ
firsts_of = map (λ e. e.first)

unfoldable pub seconds_of : List Edge → List ℕ
seconds_of = map (λ e. e.second)

unfoldable pub weights_of : List Edge → List ℕ
weights_of = map (λ e. e.weight)

unfoldable pub edge_line : List ℕ → (e at : ℕ) → Step Edge
edge_line t e at =
    fixed_at link_key t at then λ z a.
    number_to endpoint_digits comma t a then λ u b.
    number_to endpoint_digits comma t b then λ v c.
    number_to weight_digits newline t c then λ w d.
    found (record { first = u; second = v; weight = w }) d

pub record SurveyCounts : Type 0 where
  pub vertices : ℕ
  pub edges : ℕ

unfoldable pub counts_at : (vertices edges : ℕ → Verdict) → List ℕ → Step SurveyCounts
counts_at vertices edges t =
    count_line nodes_key vertices t 0 then λ n p.
    count_line links_key edges t p then λ m q.
    found (record { vertices = n; edges = m }) q

unfoldable pub group_lines : (ℕ → ℕ → Verdict) → List ℕ → (count at : ℕ) → Lines ℕ ℕ
group_lines test t count at = lines_from (group_line test t) count 0 at

unfoldable pub edge_lines : List ℕ → (count at : ℕ) → Lines ℕ Edge
edge_lines t count at = lines_from (edge_line t) count 0 at

-- The also lines and the edge lines, where these groups stand before them: what they say up to the first refusal, and where they end, with the
-- number of pairs.
pub record SurveyTail : Type 0 where
  pub pairs : List Pair
  pub edges : List Edge
  pub end : Step ℕ

unfoldable pub tail_at : (room : ℕ) → List ℕ → (groups : List ℕ) → (edges at : ℕ) → SurveyTail
tail_at room t groups edges at =
    let ps = also_at t groups room at in
    let es = lines_after ps.end (edge_lines t edges) in
    record { pairs = ps.values; edges = es.values; end = es.end then λ z p. found (length ps.values) p }

-- None where what stands before them is refused.
unfoldable pub tail_after : Step ℕ → (ℕ → SurveyTail) → SurveyTail
tail_after (found z next) rest = rest next
tail_after (refused number place) rest = record { pairs = []; edges = []; end = refused number place }

-- The lines of a survey after its counts, in the same way.
pub record SurveyLines : Type 0 where
  pub groups : List ℕ
  pub pairs : List Pair
  pub edges : List Edge
  pub end : Step ℕ

unfoldable pub lines_of : (ℕ → ℕ → Verdict) → (room : ℕ) → List ℕ → SurveyCounts → (at : ℕ) → SurveyLines
lines_of test room t counts at =
    let gs = group_lines test t counts.vertices at in
    let tail = tail_after gs.end (tail_at room t gs.values counts.edges) in
    record { groups = gs.values; pairs = tail.pairs; edges = tail.edges; end = tail.end }

-- The same with the test of groups; more may stand behind these lines.
unfoldable pub lines_at : (room : ℕ) → List ℕ → (vertices edges at : ℕ) → SurveyLines
lines_at room t vertices edges at = lines_of group_test room t (record { vertices = vertices; edges = edges }) at

-- The same with a group buffer of this length, by which the pairs are tested: 7 where it is short.
unfoldable pub lines_with : (lent room : ℕ) → List ℕ → (vertices edges at : ℕ) → SurveyLines
lines_with lent room t vertices edges at =
    cond (ltb lent vertices) (record { groups = []; pairs = []; edges = []; end = refused 7 0 }) (lines_at room t vertices edges at)
