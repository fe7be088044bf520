-- STP texts worked by hand (document 02, No. 5; docs/STP.md): what each says, and where 20 stands, each proved by computation.
use Rattle.std.specs.Prelude.{ℕ, ◌<◌, List, [], ◌∷◌, ◌++◌, map, Bool, true, false, cond, ◌≡◌, refl, eqb, length, replicate}
use Rattle.std.proofs.Common.{arith, ap, sym}
use Rattle.std.proofs.lemmas.Bool.{eqb-false}
use Rattle.base_finite.specs.Below.{any_below}
use Rattle.base_limits.specs.Verdict.{Outcome, refusal, answer, refuse_if, ◌before◌}
use Rattle.format_write.specs.Key.{ascii, newline}
use Rattle.format_write.specs.Decimal.{decimal, digits_within, spelled_after}
use Rattle.format_write.specs.Text.{line_of}
use Rattle.format_read.specs.Language.{Text}
use Rattle.format_read.proofs.Laws.Bytes.{no_bool}
use Rattle.format_read.specs.Bytes.{byte_is, fixed_at, end_at}
use Rattle.format_read.specs.Lines.{following, lines_from, whole}
use Rattle.format_read.specs.Step.{found, ◌then◌}
use Rattle.format_read.specs.Number.{class_of, is_digit, digits_end, numeral_end, numeral_at, number_at, number_to, number_line, number_text}
use Rattle.format_survey.specs.Line.{Edge, vertices_test, edges_test}
use Rattle.format_stp.specs.Grammar.{blanks, Followed, commented, StpText}
use Rattle.format_stp.specs.Grammar.{none as no_name, one as one_name}
use Rattle.format_stp.proofs.Laws.Accepted.{in_accepted}
use Rattle.format_stp.specs.StpKey.{header_line, end_word, end_line}
use Rattle.format_stp.specs.Subset.{StpEdgeIn, stp_edge_text, terminal_text}
use Rattle.format_stp.specs.StpNumber.{is_free, leads_to, reaches, opens, with_digit, goes_on, ends_free, digits_after, more_after, free_to}
use Rattle.format_stp.specs.StpReading.{StpContent, stp_line, comment_section, graph_section, stp_end, stp_edge, stp_edges, terminal_count, terminal_line, terminal_lines, terminal_section, stp_body, stp_head, count_then, stp_content, stp_whole, stp_tests, stp_number, stp_outcome, stp_reading}
use Rattle.format_stp.specs.StpWord.{none, one, OneLine, end, byte, CommentLines, last, line}
use Rattle.format_stp.specs.StpWord.{empty_lines, after_empty, by_byte, guarded, shown, comment_from, comment_at}

-- ---- whole texts

pub record StpExample : Type 0 where
  pub text : List ℕ
  pub read : Outcome StpContent

-- Up to the counts.
abbrev graph : List ℕ
graph = header_line ++ ascii "SECTION Graph\n"

unfoldable pub stp_examples : List StpExample
stp_examples =
    -- a comment that never ends
    record { text = header_line ++ ascii "SECTION Comment\nEND "; read = refusal 20 62 }
    -- an empty line before the header
    ∷ record { text = ascii "\n" ++ header_line; read = refusal 20 0 }
    -- 1, 3 and 7 when a count's line is complete, and 20 when it is not
    ∷ record { text = graph ++ ascii "Nodes 449\n"; read = refusal 1 0 }
    ∷ record { text = graph ++ ascii "Nodes 449"; read = refusal 20 65 }
    ∷ record { text = graph ++ ascii "Nodes 17\n"; read = refusal 7 0 }
    ∷ record { text = graph ++ ascii "Nodes 1\nEdges 2049\n"; read = refusal 3 0 }
    ∷ []

-- For a call whose group buffer has 16 entries and the others four.
pub texts_read : map (λ e. stp_reading e.text (replicate 16 0) (replicate 4 0) (replicate 4 0) (replicate 4 0)) stp_examples ≡ map (λ e. e.read) stp_examples
unfolding stp_examples stp_reading stp_whole stp_content stp_head stp_tests stp_outcome stp_number stp_line after_empty empty_lines by_byte graph_section comment_section
    comment_at comment_from shown count_then guarded stp_body stp_edges stp_edge stp_end terminal_section terminal_count terminal_line terminal_lines vertices_test
    edges_test refuse_if ◌before◌ fixed_at byte_is end_at lines_from following whole ◌then◌ number_line number_to number_at numeral_at numeral_end digits_end class_of
    is_digit spelled_after free_to digits_after goes_on opens reaches leads_to is_free with_digit more_after ends_free any_below
texts_read = refl

-- ---- what is read

-- The first line that is END ends a comment.
pub comment_read : comment_at (ascii " END\nEND \n\nEND\nS") 0 ≡ found 0 15
unfolding comment_at comment_from shown
comment_read = refl

abbrev said : StpContent
said =
    record { vertices = 3; edges = 2; groups = 1 ∷ 0 ∷ 1 ∷ []; lines = record { first = 0; second = 1; weight = 5 } ∷ record { first = 2; second = 2; weight = 0 } ∷ [] }

-- Empty lines, equal ends, a price of 0; terminals in any order.
pub body_read : stp_body 3 2 (ascii "E 1 2 5\n\nE 3 3 0\nEND\nSECTION Terminals\n\nTerminals 2\nT 3\nT 1\nEND\nEOF\n\n") 0 ≡ found said 68
unfolding stp_outcome stp_number stp_line after_empty empty_lines by_byte stp_body stp_edges stp_edge stp_end terminal_section terminal_count terminal_line
    terminal_lines fixed_at byte_is end_at lines_from following whole ◌then◌ number_to number_at numeral_at numeral_end digits_end class_of is_digit spelled_after
    free_to digits_after goes_on opens reaches leads_to is_free with_digit more_after ends_free any_below
body_read = refl

-- The example of docs/STP.md.
abbrev document_text : List ℕ
document_text =
    ascii "33D32945 STP File, STP Format Version 1.0\n\n"
    ++ ascii "SECTION Comment\nName    \"small\"\nRemark  \"any bytes but 10, up to the line END\"\nEND\n\n"
    ++ ascii "SECTION Graph\nNodes 4\nEdges 3\nE 1 2 5\nE 2 3 7\nE 3 4 0\nEND\n\n"
    ++ ascii "SECTION Terminals\nTerminals 2\nT 1\nT 4\nEND\n\nEOF\n"

abbrev document_said : StpContent
document_said =
    record {
      vertices = 4;
      edges = 3;
      groups = 1 ∷ 0 ∷ 0 ∷ 1 ∷ [];
      lines = record { first = 0; second = 1; weight = 5 } ∷ record { first = 1; second = 2; weight = 7 } ∷ record { first = 2; second = 3; weight = 0 } ∷ [];
    }

-- It is a text of the grammar, piece by piece, and says this.
abbrev document_name : List ℕ
document_name = ascii "Name    \"small\""

abbrev document_remark : List ℕ
document_remark = ascii "Remark  \"any bytes but 10, up to the line END\""

unfoldable one_line_law : List ℕ → Bool
one_line_law [] = true
one_line_law (b ∷ l) = cond (eqb b newline) false (one_line_law l)

is_line : (l : List ℕ) → one_line_law l ≡ true → OneLine l
unfolding one_line_law
is_line [] e = end
is_line (b ∷ l) e = by_byte_law (eqb b newline) refl e (λ f. is_line l f)
  where
    by_byte_law : (c : Bool) → eqb b newline ≡ c → cond c false (one_line_law l) ≡ true → (one_line_law l ≡ true → OneLine l) → OneLine (b ∷ l)
    by_byte_law true q e k = no_bool (sym e)
    by_byte_law false q e k = byte (eqb-false b newline q) (k e)

name_other : document_name ≡ end_word → ⊥
name_other e = let z : ◌≡◌ {A = ℕ} 15 3 = ap length e in omega arith

remark_other : document_remark ≡ end_word → ⊥
remark_other e = let z : ◌≡◌ {A = ℕ} 46 3 = ap length e in omega arith

document_comment : CommentLines (document_name ++ newline ∷ (document_remark ++ newline ∷ end_line))
unfolding one_line_law
document_comment = line (is_line document_name refl) name_other (line (is_line document_remark refl) remark_other last)

followed : {A : Type 0} {P : A → Type 0} (text : A → List ℕ) (a : A) → P a → Followed (Text P text) a (text a ++ blanks 0)
followed text a h = record { line = text a; empty = 0; member = record { holds = h; word = refl }; whole = refl }

abbrev track_of : (u v w : ℕ) → Edge
track_of u v w = record { first = u; second = v; weight = w }

track : (u v w : ℕ) → u < 4 → v < 4 → w < 10 → StpEdgeIn 4 (track_of u v w)
track u v w a b c = record { first = a; second = b; first_digits = omega arith; second_digits = omega arith; weight = omega arith }

pub document_in : StpText document_said document_text
unfolding line_of decimal digits_within number_text stp_edge_text terminal_text
document_in =
    record {
      opening = _;
      opens = commented 1 1 0 document_comment;
      nodes = omega arith;
      edges = omega arith;
      tracks = (stp_edge_text (track_of 0 1 5) ++ blanks 0) ++ ((stp_edge_text (track_of 1 2 7) ++ blanks 0) ++ ((stp_edge_text (track_of 2 3 0) ++ blanks 0) ++ []));
      each_track =
          one (followed stp_edge_text (track_of 0 1 5) (track 0 1 5 (omega arith) (omega arith) (omega arith)))
          (one (followed stp_edge_text (track_of 1 2 7) (track 1 2 7 (omega arith) (omega arith) (omega arith)))
          (one (followed stp_edge_text (track_of 2 3 0) (track 2 3 0 (omega arith) (omega arith) (omega arith))) none));
      terminals = 2;
      announced = record { most = omega arith; digits = omega arith };
      named = (terminal_text 0 ++ blanks 0) ++ ((terminal_text 3 ++ blanks 0) ++ []);
      each_terminal =
          one_name (followed terminal_text 0 (record { below = omega arith; fresh = refl; digits = omega arith }))
          (one_name (followed terminal_text 3 (record { below = omega arith; fresh = refl; digits = omega arith })) no_name);
      behind = record { nodes = 0; edges = 0; graph_end = 1; section = 0; terminals = 0; terminals_end = 1; eof = 0 };
      whole = refl;
    }

-- So it is read, into buffers that just hold it.
pub document_read : stp_reading document_text (replicate 4 0) (replicate 3 0) (replicate 3 0) (replicate 3 0) ≡ answer document_said
document_read =
    in_accepted (replicate 4 0) (replicate 3 0) (replicate 3 0) (replicate 3 0) document_text document_said document_in
    (record {
      some = omega arith;
      most_vertices = omega arith;
      for_groups = omega arith;
      most_edges = omega arith;
      for_firsts = omega arith;
      for_seconds = omega arith;
      for_weights = omega arith;
    })

-- ---- what stands behind the counts, with 12 junctions and one track

-- Refused with 20 behind bytes that a file may have there.
pub record Malformed : Type 0 where
  pub front : List ℕ
  pub behind : List ℕ

abbrev terminals : List ℕ
terminals = ascii "E 1 12 5\nEND\nSECTION Terminals\n"

unfoldable pub malformed_bodies : List Malformed
malformed_bodies =
    -- an end outside 1 to 12
    record { front = ascii "E "; behind = ascii "0 1 5\n" }
    ∷ record { front = ascii "E 1"; behind = ascii "3 1 5\n" }
    ∷ record { front = ascii "E 2"; behind = ascii "0 1 5\n" }
    -- two spaces, a price that begins with 0
    ∷ record { front = ascii "E 1 "; behind = ascii " 2 5\n" }
    ∷ record { front = ascii "E 1 2 0"; behind = ascii "5\n" }
    -- more terminals than junctions
    ∷ record { front = terminals ++ ascii "Terminals 1"; behind = ascii "3\n" }
    -- a terminal twice: nothing else begins with 2, but 10, 11 and 12 begin with 1
    ∷ record { front = terminals ++ ascii "Terminals 2\nT 2\nT "; behind = ascii "2\n" }
    ∷ record { front = terminals ++ ascii "Terminals 2\nT 1\nT 1"; behind = ascii "\n" }
    -- a comment behind the graph, and behind the terminals
    ∷ record { front = ascii "E 1 12 5\nEND\nSECTION "; behind = ascii "Comment\n" }
    ∷ record { front = terminals ++ ascii "Terminals 0\nEND\n"; behind = ascii "SECTION Comment\n" }
    -- the line EOF without byte 10
    ∷ record { front = terminals ++ ascii "Terminals 0\nEND\nEOF"; behind = [] }
    ∷ []

pub bodies_refused : map (λ e. stp_outcome (stp_body 12 1 (e.front ++ e.behind) 0)) malformed_bodies ≡ map (λ e. refusal 20 (length e.front)) malformed_bodies
unfolding malformed_bodies stp_outcome stp_number stp_line after_empty empty_lines by_byte stp_body stp_edges stp_edge stp_end terminal_section terminal_count terminal_line
    terminal_lines fixed_at byte_is end_at lines_from following whole ◌then◌ number_to number_at numeral_at numeral_end digits_end class_of is_digit spelled_after
    free_to digits_after goes_on opens reaches leads_to is_free with_digit more_after ends_free any_below
bodies_refused = refl
