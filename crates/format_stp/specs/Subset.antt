-- The lines of the undirected subset of SteinLib STP (document 02, No. 5; docs/STP.md) and what they say, with no word about how a text is read; and its
-- files in the form that is read: empty lines stand before a line, and a section is known by its first letter.
use Rattle.std.specs.Prelude.{ℕ, suc, ◌+◌, ◌≤◌, ◌<◌, List, [], ◌∷◌, ◌++◌, ◌≡◌, get_or, set, replicate}
use Rattle.base_limits.specs.Limits.{count_digits, endpoint_digits, weight_digits}
use Rattle.format_write.specs.Key.{newline}
use Rattle.format_read.specs.Language.{Seq, Empty, Fixed, Text}
use Rattle.format_read.specs.Number.{OfDigits, number_text}
use Rattle.format_write.specs.Text.{line_of}
use Rattle.format_survey.specs.Line.{Edge}
use Rattle.format_stp.specs.StpKey.{header_line, section_word, graph_line, comment_letter, graph_letter, comment_rest, graph_rest, nodes_word, edges_word, edge_word, end_line, terminals_line, terminals_word, terminal_word, eof_line, space}
use Rattle.format_stp.specs.StpReading.{StpContent}
use Rattle.format_stp.specs.StpWord.{AfterEmpty, CommentWord, Repeated}

-- A fixed line, with empty lines before it.
abbrev pub StpLine : (bytes : List ℕ) → ℕ → List ℕ → Type 0
StpLine bytes = AfterEmpty (Fixed bytes)

-- The comment section behind its letter, and the line that begins the graph.
abbrev pub CommentSection : ℕ → List ℕ → Type 0
CommentSection = Seq (Fixed comment_rest) λ z. Seq CommentWord λ y. StpLine graph_line

-- Behind the word SECTION: a comment and the graph, or the graph.
pub data GraphSection (a : ℕ) : List ℕ → Type 0 where
  commented : {w : List ℕ} → CommentSection a w → GraphSection a (comment_letter ∷ w)
  plain : {w : List ℕ} → Fixed graph_rest a w → GraphSection a (graph_letter ∷ w)

-- The line of a track with ends from 1 to n, where ours count from 0.
pub record StpEdgeIn (n : ℕ) (e : Edge) : Type 0 where
  pub first : e.first < n
  pub second : e.second < n
  pub first_digits : OfDigits endpoint_digits (e.first + 1)
  pub second_digits : OfDigits endpoint_digits (e.second + 1)
  pub weight : OfDigits weight_digits e.weight

unfoldable pub stp_edge_text : Edge → List ℕ
stp_edge_text e = edge_word ++ (number_text space (e.first + 1) ++ (number_text space (e.second + 1) ++ number_text newline e.weight))

-- The number of terminals: written as a count, and not more than n.
pub record TerminalsIn (n k : ℕ) : Type 0 where
  pub most : k ≤ n
  pub digits : OfDigits count_digits k

-- A terminal, counted from 0: a junction that is none yet.
pub record TerminalIn (n : ℕ) (groups : List ℕ) (v : ℕ) : Type 0 where
  pub below : v < n
  pub fresh : get_or groups v 0 ≡ 0
  pub digits : OfDigits endpoint_digits (v + 1)

unfoldable pub terminal_text : ℕ → List ℕ
terminal_text v = terminal_word ++ number_text newline (v + 1)

-- So many lines `T v`, each with empty lines before it, and what the groups are before and after them.
pub data TerminalLines (n : ℕ) : (count : ℕ) (before after : List ℕ) → List ℕ → Type 0 where
  none : {groups : List ℕ} → TerminalLines n 0 groups groups []
  one : {count : ℕ} {before after : List ℕ} {v : ℕ} {x w : List ℕ} → AfterEmpty (Text (TerminalIn n before) terminal_text) v x
      → TerminalLines n count (set before v 1) after w → TerminalLines n (suc count) before after (x ++ w)

-- From the end of the graph to the line EOF: the groups, 1 for a terminal.
abbrev pub TerminalSection : (n : ℕ) → List ℕ → List ℕ → Type 0
TerminalSection n =
    Seq (StpLine end_line) λ z. Seq (StpLine terminals_line) λ y. Seq (AfterEmpty (Text (TerminalsIn n) (line_of terminals_word))) λ k.
    Seq (TerminalLines n k (replicate n 0)) λ gs. Seq (StpLine end_line) λ x. Seq (StpLine eof_line) λ w. Empty gs

abbrev pub StpBody : (n m : ℕ) → StpContent → List ℕ → Type 0
StpBody n m =
    Seq (Repeated (AfterEmpty (Text (StpEdgeIn n) stp_edge_text)) m) λ es. Seq (TerminalSection n) λ gs.
    Empty (record { vertices = n; edges = m; groups = gs; lines = es })

abbrev pub StpHead : ℕ → List ℕ → Type 0
StpHead = Seq (Fixed header_line) λ z. Seq (StpLine section_word) λ y. GraphSection

-- A count's line, and what stands behind it.
abbrev pub CountThen : {A : Type 0} → (word : List ℕ) → (ℕ → Type 0) → (ℕ → A → List ℕ → Type 0) → A → List ℕ → Type 0
CountThen word P X = Seq (AfterEmpty (Text P (line_of word))) X

-- The files whose counts satisfy these, up to the line EOF.
abbrev pub StpFile : (N M : ℕ → Type 0) → StpContent → List ℕ → Type 0
StpFile N M = Seq StpHead λ z. CountThen nodes_word N λ n. CountThen edges_word M λ m. StpBody n m

-- The form of the subset that is read: any counts of at most so many digits, and empty lines behind EOF. Laws/Grammar proves that this is the language of
-- specs/Grammar.
pub record StpFactored (x : StpContent) (t : List ℕ) : Type 0 where
  pub file : List ℕ
  pub empty : ℕ
  pub member : StpFile (OfDigits count_digits) (OfDigits count_digits) x file
  pub whole : t ≡ file ++ replicate empty newline
