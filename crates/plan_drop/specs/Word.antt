-- The sides of up to 64 edges in one pass: every vertex has a word, and bit k of it says on which side of the edge with index base + k the vertex
-- lies. The index of an edge is how many edges of F have lower numbers.
use Rattle.std.specs.Prelude.{◌≡◌, ℕ, zero, suc, ◌+◌, ◌-◌, ◌^◌, ◌<◌, Bool, true, cond, not, ◌&&◌, ◌||◌, List, length, ◌==◌, bit_xor, nat_le, nat_lt, slice_index, slice_set}
use Rattle.base_finite.specs.Below.{counted, count_below, all_below}
use Rattle.theory_graph.specs.Path.{crosses}
use Rattle.theory_graph.specs.Component.{components}
use Rattle.format_record.specs.Bits.{bit_at}
use Rattle.base_buffer.specs.Store.{remade}

abbrev pub word_bits : ℕ
word_bits = 64

-- Index i is one of the 64 from base on.
unfoldable pub in_batch : (base i : ℕ) → Bool
in_batch base i = nat_le base i && nat_lt (i - base) word_bits

-- The bit of the edge with index i; none where the index is of another batch.
unfoldable pub own_word : (base i : ℕ) → ℕ
own_word base i = counted (in_batch base i) (2 ^ (i - base))

-- What a new edge between the components x and y makes of a vertex's word: y's vertices turn where the ends lie on different sides, and x's
-- vertices are the new edge's side.
unfoldable pub turned : (x y delta own : ℕ) → (label word : ℕ) → ℕ
turned x y delta own label word = bit_xor (bit_xor word (counted (label == y) delta)) (counted (label == x) own)

-- The words after the edges of F below m.
unfoldable pub side_words : (n : ℕ) (a b : ℕ → ℕ) → (ℕ → Bool) → (base m : ℕ) → ℕ → ℕ
side_words n a b F base zero = λ w. 0
side_words n a b F base (suc e) =
    let word = side_words n a b F base e in
    let label = components n a b F e in
    cond (F e) (λ w. turned (label (a e)) (label (b e)) (bit_xor (word (a e)) (word (b e))) (own_word base (count_below e F)) (label w) (word w)) word

-- The same of words and labels in buffers, for an edge with the ends a and b.
unfoldable pub turned_all : (x y delta own : ℕ) → (labels words : List ℕ) → List ℕ
turned_all x y delta own labels words = remade (λ w. turned x y delta own (slice_index labels w)) (length words) words

unfoldable pub edge_taken : (a b own : ℕ) → (labels words : List ℕ) → List ℕ
edge_taken a b own labels words =
    turned_all (slice_index labels a) (slice_index labels b) (bit_xor (slice_index words a) (slice_index words b)) own labels words

-- Bit k of the words is a cut that the edge with index base + k crosses, and no other edge of F below m.
pub record Alone (a b : ℕ → ℕ) (F : ℕ → Bool) (base m : ℕ) (words : List ℕ) : Type 0 where
  pub crossed : (f g k : ℕ) → f < m → g < m → F f ≡ true → F g ≡ true → count_below f F ≡ base + k → k < word_bits
      → crosses a b (λ v. bit_at (slice_index words v) k) g ≡ (f == g)

-- The test of it: the words of the two ends of each edge of F differ in the edge's own bit, and in no other (law `tried_alone`).
unfoldable pub are_alone : (a b : ℕ → ℕ) → (ℕ → Bool) → (base m : ℕ) → List ℕ → Bool
are_alone a b F base m words =
    all_below m (λ e. not (F e) || bit_xor (slice_index words (a e)) (slice_index words (b e)) == (own_word base (count_below e F)))

-- The ends of all edges below m are below N.
abbrev pub CutEndsBelow : (N : ℕ) (a b : ℕ → ℕ) → (m : ℕ) → Type 0
CutEndsBelow N a b m = (e : ℕ) → e < m → (a e < N) × (b e < N)

-- Vertex v hangs on another one by the edge with index mark - 1, and gets its word, turned in that edge's bit; mark 0 is no edge.
unfoldable pub hung_at : (others marks : List ℕ) → (base v : ℕ) → (words : List ℕ) → List ℕ
hung_at others marks base v words =
    cond (slice_index marks v == 0) words (slice_set words v (bit_xor (slice_index words (slice_index others v)) (own_word base (slice_index marks v - 1))))

-- The first k vertices of an order, from the last of them to the first.
unfoldable pub hung_from : (order others marks : List ℕ) → (base k : ℕ) → (words : List ℕ) → List ℕ
hung_from order others marks base zero words = words
hung_from order others marks base (suc k) words = hung_from order others marks base k (hung_at others marks base (slice_index order k) words)
