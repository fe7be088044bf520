-- Reading an STP file (document 02, No. 5), line by line. Refusals of its form are 16 here, as in our own text, and 20 in the answer.
use Rattle.std.specs.Prelude.{ℕ, zero, suc, ◌-◌, ◌||◌, cond, List, [], eqb, length, set, replicate}
use Rattle.base_limits.specs.Limits.{count_digits, endpoint_digits, weight_digits}
use Rattle.base_limits.specs.Verdict.{Outcome, refusal, answer}
use Rattle.base_limits.specs.declared.Verdict.{Verdict}
use Rattle.format_write.specs.Key.{newline}
use Rattle.format_read.specs.Bytes.{fixed_at, end_at}
use Rattle.format_read.specs.Lines.{Lines, lines_from, whole}
use Rattle.format_read.specs.Step.{Step, found, refused, ◌then◌}
use Rattle.format_read.specs.Number.{number_to, number_line}
use Rattle.format_survey.specs.Line.{Edge, vertices_test, edges_test}
use Rattle.format_stp.specs.StpKey.{header_line, section_word, graph_line, comment_letter, graph_letter, comment_rest, graph_rest, nodes_word, edges_word, edge_word, end_line, terminals_line, terminals_word, terminal_word, eof_line, space}
use Rattle.format_stp.specs.StpNumber.{is_free, free_to}
use Rattle.format_stp.specs.StpWord.{after_empty, by_byte, guarded, comment_at}

-- What a file says: a group for each junction, 1 for a terminal and otherwise 0, and the tracks, whose ends count from 0.
pub record StpContent : Type 0 where
  pub vertices : ℕ
  pub edges : ℕ
  pub groups : List ℕ
  pub lines : List Edge

-- ---- the lines

-- A fixed line.
unfoldable pub stp_line : (bytes : List ℕ) → List ℕ → (at : ℕ) → Step ℕ
stp_line bytes = after_empty (fixed_at bytes)

-- A comment behind its letter, and the line that begins the graph.
unfoldable pub comment_section : List ℕ → (at : ℕ) → Step ℕ
comment_section t at = fixed_at comment_rest t at then λ z p. comment_at t p then λ y q. stp_line graph_line t q

-- Behind the word SECTION: a comment and the graph, or the graph.
unfoldable pub graph_section : List ℕ → (at : ℕ) → Step ℕ
graph_section = by_byte (λ b. eqb b comment_letter || eqb b graph_letter) (λ b. cond (eqb b comment_letter) comment_section (fixed_at graph_rest))

-- An end of a track, from 1 to n.
unfoldable pub stp_end : (n : ℕ) → List ℕ → (at : ℕ) → Step ℕ
stp_end n = free_to (is_free [] 1 n) n space endpoint_digits

-- `E u v price`
unfoldable pub stp_edge : (n : ℕ) → List ℕ → (at : ℕ) → Step Edge
stp_edge n t at =
    fixed_at edge_word t at then λ z a.
    stp_end n t a then λ u b.
    stp_end n t b then λ v c.
    number_to weight_digits newline t c then λ w d.
    found (record { first = u - 1; second = v - 1; weight = w }) d

unfoldable pub stp_edges : (n : ℕ) → List ℕ → (count at : ℕ) → Lines ℕ Edge
stp_edges n t count at = lines_from (λ e p. after_empty (stp_edge n) t p) count 0 at

-- `Terminals t`
unfoldable pub terminal_count : (n : ℕ) → List ℕ → (at : ℕ) → Step ℕ
terminal_count n t at = fixed_at terminals_word t at then λ z a. free_to (is_free [] 0 n) n newline count_digits t a

-- `T v`, where the groups say which junctions are terminals already.
unfoldable pub terminal_line : (n : ℕ) (groups : List ℕ) → List ℕ → (at : ℕ) → Step ℕ
terminal_line n groups t at = fixed_at terminal_word t at then λ z a. free_to (is_free groups 1 n) n newline endpoint_digits t a

unfoldable pub terminal_lines : (n count : ℕ) (groups : List ℕ) → List ℕ → (at : ℕ) → Step (List ℕ)
terminal_lines n zero groups t at = found groups at
terminal_lines n (suc count) groups t at =
    after_empty (terminal_line n groups) t at then λ v p. terminal_lines n count (set groups (v - 1) 1) t p

-- ---- the sections

-- From the end of the graph to the line EOF: the groups.
unfoldable pub terminal_section : (n : ℕ) → List ℕ → (at : ℕ) → Step (List ℕ)
terminal_section n t at =
    stp_line end_line t at then λ z a.
    stp_line terminals_line t a then λ y b.
    after_empty (terminal_count n) t b then λ k c.
    terminal_lines n k (replicate n 0) t c then λ gs d.
    stp_line end_line t d then λ x e.
    stp_line eof_line t e then λ w f.
    found gs f

-- Behind the two counts.
unfoldable pub stp_body : (n m : ℕ) → List ℕ → (at : ℕ) → Step StpContent
stp_body n m t at =
    whole (stp_edges n t m at) then λ es p.
    terminal_section n t p then λ gs q.
    found (record { vertices = n; edges = m; groups = gs; lines = es }) q

-- From the header to the graph's first line.
unfoldable pub stp_head : List ℕ → (at : ℕ) → Step ℕ
stp_head t at = fixed_at header_line t at then λ z a. stp_line section_word t a then λ y b. graph_section t b

-- A count, and what is read behind it where its test passes.
unfoldable pub count_then : {A : Type 0} → (word : List ℕ) → (ℕ → Verdict) → (ℕ → List ℕ → ℕ → Step A) → List ℕ → (at : ℕ) → Step A
count_then word test next t at = after_empty (number_line word count_digits) t at then λ n p. guarded (test n) (next n t p)

-- What is tested when a count's line is complete.
pub record StpTests : Type 0 where
  pub vertices : ℕ → Verdict
  pub edges : ℕ → Verdict

unfoldable pub stp_content : StpTests → List ℕ → (at : ℕ) → Step StpContent
stp_content tests t at =
    stp_head t at then λ z a. count_then nodes_word tests.vertices (λ n. count_then edges_word tests.edges (λ m. stp_body n m)) t a

-- Behind EOF only empty lines stand.
unfoldable pub stp_whole : StpTests → List ℕ → Step StpContent
stp_whole tests t = stp_content tests t 0 then λ x p. after_empty end_at t p then λ z q. found x q

-- 1, 3 and 7 as in our own text, for lent buffers of these lengths.
unfoldable pub stp_tests : (groups firsts seconds weights : ℕ) → StpTests
stp_tests groups firsts seconds weights = record { vertices = vertices_test groups; edges = edges_test firsts seconds weights }

-- A text of another form is 20 here.
unfoldable pub stp_number : ℕ → ℕ
stp_number number = cond (eqb number 16) 20 number

unfoldable pub stp_outcome : {A : Type 0} → Step A → Outcome A
stp_outcome (found a next) = answer a
stp_outcome (refused number place) = refusal (stp_number number) place

-- The four lists are what the lent buffers hold; only their lengths matter.
unfoldable pub stp_reading : (t groups firsts seconds weights : List ℕ) → Outcome StpContent
stp_reading t groups firsts seconds weights =
    stp_outcome (stp_whole (stp_tests (length groups) (length firsts) (length seconds) (length weights)) t)
