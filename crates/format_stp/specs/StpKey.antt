-- The fixed words of an STP file (document 02, No. 5), as bytes; docs/STP.md has the grammar.
use Rattle.std.specs.Prelude.{ℕ, List}
use Prim.Native.Char.{code}
use Rattle.format_write.specs.Key.{ascii}

abbrev pub header_line : List ℕ
header_line = ascii "33D32945 STP File, STP Format Version 1.0\n"

-- How every section begins, and the line that begins the graph behind a comment.
abbrev pub section_word : List ℕ
section_word = ascii "SECTION "

abbrev pub comment_line : List ℕ
comment_line = ascii "SECTION Comment\n"

abbrev pub graph_line : List ℕ
graph_line = ascii "SECTION Graph\n"

-- The two sections that may stand behind the header, by their first letter, and what stands behind that.
abbrev pub comment_letter : ℕ
comment_letter = code "C"

abbrev pub graph_letter : ℕ
graph_letter = code "G"

abbrev pub comment_rest : List ℕ
comment_rest = ascii "omment\n"

abbrev pub graph_rest : List ℕ
graph_rest = ascii "raph\n"

abbrev pub nodes_word : List ℕ
nodes_word = ascii "Nodes "

abbrev pub edges_word : List ℕ
edges_word = ascii "Edges "

abbrev pub edge_word : List ℕ
edge_word = ascii "E "

abbrev pub end_word : List ℕ
end_word = ascii "END"

abbrev pub end_line : List ℕ
end_line = ascii "END\n"

abbrev pub terminals_line : List ℕ
terminals_line = ascii "SECTION Terminals\n"

abbrev pub terminals_word : List ℕ
terminals_word = ascii "Terminals "

abbrev pub terminal_word : List ℕ
terminal_word = ascii "T "

abbrev pub eof_line : List ℕ
eof_line = ascii "EOF\n"

-- What parts the words of a line.
abbrev pub space : ℕ
space = code " "
