-- The longest text is reached: a well-formed text whose counts escape 1 and 3 has exactly so many bytes as no such text exceeds (`longest_text_law`).
use Rattle.std.specs.Prelude.{ℕ, zero, suc, ◌+◌, ◌*◌, ◌≤◌, ◌<◌, ◌≡◌, refl, List, [], ◌++◌, length, replicate}
use Rattle.std.proofs.Common.{arith, ap, ◌∙◌, length-append}
use Rattle.std.proofs.lemmas.List.{length-replicate}
use Rattle.base_limits.specs.Limits.{max_vertices, max_edges, max_pairs, group_digits}
use Rattle.format_write.specs.Key.{nodes_key, links_key, node_key}
use Rattle.format_write.specs.Decimal.{decimal, digits_within}
use Rattle.format_write.specs.Text.{line_of}
use Rattle.format_read.specs.Lines.{text_of}
use Rattle.format_read.specs.Language.{EachFrom, none_from, more_from, Each, none, more}
use Rattle.format_read.specs.Number.{number_text, line_bytes}
use Rattle.format_also.specs.Pair.{Pair, pair_of}
use Rattle.format_also.specs.Render.{pair_text, pairs_text, pair_bytes}
use Rattle.format_survey.specs.Line.{Edge}
use Rattle.format_survey.specs.LinesRender.{edge_text}
use Rattle.format_survey.specs.Render.{render, edge_bytes, longest_text}
use Rattle.format_survey.specs.WellFormed.{WellFormed}

-- Members that are all the same.
each_same : {A : Type 0} {P : ℕ → A → Type 0} (a : A) → ((i : ℕ) → P i a) → (n i : ℕ) → EachFrom P i (replicate n a)
each_same a h zero i = none_from
each_same a h (suc n) i = more_from (h i) (each_same a h n (i + 1))

all_same : {A : Type 0} {P : A → Type 0} (a : A) → P a → (n : ℕ) → Each P (replicate n a)
all_same a h zero = none
all_same a h (suc n) = more h (all_same a h n)

text_same : {A : Type 0} (f : A → List ℕ) (a : A) (n : ℕ) → length (text_of f (replicate n a)) ≡ n * length (f a)
unfolding text_of
text_same f a zero = omega arith
text_same f a (suc n) =
    let ih = text_same f a n in
    let l = length-append (f a) (text_of f (replicate n a)) in
    omega arith

-- The longest line of each kind.
long_edge : Edge
long_edge = record { first = 999; second = 999; weight = 999999999 }

node_long : length (line_of node_key 9999999) ≡ line_bytes node_key group_digits
unfolding line_of decimal digits_within
node_long = refl

pair_long : length (pair_text (pair_of 999 999)) ≡ pair_bytes
unfolding pair_text number_text decimal digits_within
pair_long = refl

edge_long : length (edge_text long_edge) ≡ edge_bytes
unfolding long_edge edge_text number_text decimal digits_within
edge_long = refl

nodes_long : length (line_of nodes_key max_vertices) ≡ line_bytes nodes_key 3
unfolding line_of decimal digits_within
nodes_long = refl

links_long : length (line_of links_key max_edges) ≡ line_bytes links_key 4
unfolding line_of decimal digits_within
links_long = refl

-- As many of each as there may be.
groups : List ℕ
groups = replicate max_vertices 9999999

pairs : List Pair
pairs = replicate max_pairs (pair_of 999 999)

edges : List Edge
edges = replicate max_edges long_edge

pub record ReachesLongest (t : List ℕ) : Type 0 where
  pub well : WellFormed t
  pub some : 0 < length well.groups
  pub few_groups : length well.groups ≤ max_vertices
  pub few_edges : length well.edges ≤ max_edges
  pub long : length t ≡ longest_text

well : WellFormed (render groups pairs edges)
unfolding groups pairs edges long_edge
well =
    let n = length-replicate {A = ℕ} max_vertices 9999999 in
    let k = length-replicate {A = Pair} max_pairs (pair_of 999 999) in
    let m = length-replicate {A = Edge} max_edges long_edge in
    record {
      groups = groups;
      pairs = pairs;
      edges = edges;
      few_groups = omega arith;
      few_edges = omega arith;
      each_group = each_same 9999999 (λ i. omega arith) max_vertices 0;
      few_pairs = record { digits = all_same (pair_of 999 999) (record { owner = omega arith; other = omega arith }) max_pairs; few = omega arith };
      each_edge = each_same long_edge (λ i. record { first = omega arith; second = omega arith; weight = omega arith }) max_edges 0;
      word = refl;
    }

reached : length (render groups pairs edges) ≡ longest_text
unfolding groups pairs edges render pairs_text
reached =
    let n = length-replicate {A = ℕ} max_vertices 9999999 in
    let m = length-replicate {A = Edge} max_edges long_edge in
    let N = line_of nodes_key (length groups) in
    let M = line_of links_key (length edges) in
    let G = text_of (line_of node_key) groups in
    let P = pairs_text pairs in
    let E = text_of edge_text edges in
    let a = length-append (N ++ M ++ G ++ P) E in
    let b = length-append (N ++ M ++ G) P in
    let c = length-append (N ++ M) G in
    let d = length-append N M in
    let u : length N ≡ line_bytes nodes_key 3 = ap (λ (k : ℕ). length (line_of nodes_key k)) n ∙ nodes_long in
    let v : length M ≡ line_bytes links_key 4 = ap (λ (k : ℕ). length (line_of links_key k)) m ∙ links_long in
    let g : length G ≡ max_vertices * line_bytes node_key group_digits = text_same (line_of node_key) 9999999 max_vertices ∙ ap (λ (k : ℕ). max_vertices * k) node_long in
    let p : length P ≡ max_pairs * pair_bytes = text_same pair_text (pair_of 999 999) max_pairs ∙ ap (λ (k : ℕ). max_pairs * k) pair_long in
    let e : length E ≡ max_edges * edge_bytes = text_same edge_text long_edge max_edges ∙ ap (λ (k : ℕ). max_edges * k) edge_long in
    omega arith

pub longest_reached : (t : List ℕ) × ReachesLongest t
unfolding groups edges well
longest_reached =
    let n = length-replicate {A = ℕ} max_vertices 9999999 in
    let m = length-replicate {A = Edge} max_edges long_edge in
    (render groups pairs edges, record { well = well; some = omega arith; few_groups = omega arith; few_edges = omega arith; long = reached })
