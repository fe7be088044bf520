-- Words and labels as they stand in buffers while the edges come in, one after another.
use Rattle.std.specs.Prelude.{◌≡◌, ℕ, zero, suc, ◌+◌, Bool, cond, List}
use Rattle.base_finite.specs.Below.{counted, count_below, tabulate}
use Rattle.survey_components.specs.Buffer.{ends_joined}
use Rattle.plan_drop.specs.Word.{own_word, edge_taken}

pub record Taken : Type 0 where
  pub labels : List ℕ
  pub words : List ℕ

-- The edge between a and b with the index i comes in.
unfoldable pub taken : (a b base i : ℕ) → Taken → Taken
taken a b base i t = record { labels = ends_joined a b t.labels; words = edge_taken a b (own_word base i) t.labels t.words }

-- Buffers of N places after the edges of F below m. Reads past them give 0, so it is said for any ends; where the ends lie below N the words are
-- those of `side_words` (law `taken_words`).
unfoldable pub taken_below : (N : ℕ) (a b : ℕ → ℕ) → (ℕ → Bool) → (base m : ℕ) → Taken
taken_below N a b F base zero = record { labels = tabulate N (λ v. v); words = tabulate N (λ v. 0) }
taken_below N a b F base (suc e) =
    let before = taken_below N a b F base e in cond (F e) (taken (a e) (b e) base (count_below e F) before) before

-- The labels, the words and the next index after an edge with the ends a and b and the index i.
pub record EdgeStep (in_set : Bool) (a b base i : ℕ) (labels words : List ℕ) (next : ℕ) (labels_after_ words_after : List ℕ) : Type 0 where
  pub index : next ≡ i + counted in_set 1
  pub labels_are : labels_after_ ≡ cond in_set (ends_joined a b labels) labels
  pub words_are : words_after ≡ cond in_set (edge_taken a b (own_word base i) labels words) words
