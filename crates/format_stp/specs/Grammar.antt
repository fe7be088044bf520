-- The undirected subset of SteinLib STP as document 02, No. 5, writes it (docs/STP.md): its lines in their order, and what they say. 'Empty lines may
-- follow any line': so many stand behind each.
use Rattle.std.specs.Prelude.{ℕ, suc, List, [], ◌++◌, ◌≡◌, set, replicate}
use Rattle.base_limits.specs.Limits.{count_digits}
use Rattle.format_write.specs.Key.{newline}
use Rattle.format_write.specs.Text.{line_of}
use Rattle.format_read.specs.Language.{Text}
use Rattle.format_read.specs.Number.{OfDigits}
use Rattle.format_stp.specs.StpKey.{header_line, comment_line, graph_line, nodes_word, edges_word, end_line, terminals_line, terminals_word, eof_line}
use Rattle.format_stp.specs.StpReading.{StpContent}
use Rattle.format_stp.specs.StpWord.{Repeated, CommentLines}
use Rattle.format_stp.specs.Subset.{StpEdgeIn, stp_edge_text, TerminalsIn, TerminalIn, terminal_text}

-- So many empty lines.
abbrev pub blanks : ℕ → List ℕ
blanks k = replicate k newline

-- A line, and empty lines behind it.
pub record Followed {A : Type 0} (W : A → List ℕ → Type 0) (a : A) (w : List ℕ) : Type 0 where
  pub line : List ℕ
  pub empty : ℕ
  pub member : W a line
  pub whole : w ≡ line ++ blanks empty

-- The header; 'at most one comment section', with any lines up to END; `SECTION Graph`.
pub data StpOpening : List ℕ → Type 0 where
  plain : (i j : ℕ) → StpOpening (header_line ++ (blanks i ++ (graph_line ++ blanks j)))
  commented : (i j k : ℕ) {c : List ℕ} → CommentLines c → StpOpening (header_line ++ (blanks i ++ (comment_line ++ (c ++ (blanks j ++ (graph_line ++ blanks k))))))

-- 't lines `T v`', each of a junction that is no terminal yet, and what the groups are before and after them.
pub data NamedTerminals (n : ℕ) : (count : ℕ) (before after : List ℕ) → List ℕ → Type 0 where
  none : {groups : List ℕ} → NamedTerminals n 0 groups groups []
  one : {count : ℕ} {before after : List ℕ} {v : ℕ} {x w : List ℕ} → Followed (Text (TerminalIn n before) terminal_text) v x
      → NamedTerminals n count (set before v 1) after w → NamedTerminals n (suc count) before after (x ++ w)

-- The empty lines behind the other lines of a text, in their order.
pub record StpBlanks : Type 0 where
  pub nodes : ℕ
  pub edges : ℕ
  pub graph_end : ℕ
  pub section : ℕ
  pub terminals : ℕ
  pub terminals_end : ℕ
  pub eof : ℕ

-- The text t is of the subset, and says x.
pub record StpText (x : StpContent) (t : List ℕ) : Type 0 where
  pub opening : List ℕ
  pub opens : StpOpening opening
  pub nodes : OfDigits count_digits x.vertices
  pub edges : OfDigits count_digits x.edges
  pub tracks : List ℕ
  -- 'm lines `E u v price`', with ends from 1 to n.
  pub each_track : Repeated (Followed (Text (StpEdgeIn x.vertices) stp_edge_text)) x.edges x.lines tracks
  pub terminals : ℕ
  pub announced : TerminalsIn x.vertices terminals
  pub named : List ℕ
  pub each_terminal : NamedTerminals x.vertices terminals (replicate x.vertices 0) x.groups named
  pub behind : StpBlanks
  pub whole : t
      ≡ opening
      ++ (line_of nodes_word x.vertices ++ (blanks behind.nodes
      ++ (line_of edges_word x.edges ++ (blanks behind.edges
      ++ (tracks
      ++ (end_line ++ (blanks behind.graph_end
      ++ (terminals_line ++ (blanks behind.section
      ++ (line_of terminals_word terminals ++ (blanks behind.terminals
      ++ (named
      ++ (end_line ++ (blanks behind.terminals_end
      ++ (eof_line ++ blanks behind.eof)))))))))))))))

-- Some text of the subset.
pub record IsStp (t : List ℕ) : Type 0 where
  pub says : StpContent
  pub is : StpText says t
