-- Reading an STP text (document 02, No. 5) in two parts: to its counts, and from there to its end.
use Rattle.std.specs.Prelude.{ℕ, List}
use Rattle.std.proofs.lemmas.List.Edits.{sets}
use Rattle.format_read.specs.Lines.{whole}
use Rattle.format_read.specs.Step.{Step, found, refused, ◌then◌}
use Rattle.format_survey.specs.Line.{SurveyCounts, count_line}
use Rattle.format_stp.specs.StpKey.{nodes_word, edges_word}
use Rattle.format_stp.specs.StpReading.{StpContent, StpTests, stp_head, stp_edges}
use Rattle.format_stp.specs.StpWord.{after_empty}
use Rattle.format_stp.specs.Terminals.{terminals_to_end}

unfoldable pub stp_counts : StpTests → List ℕ → Step SurveyCounts
stp_counts tests t =
    stp_head t 0 then λ z a.
    after_empty (count_line nodes_word tests.vertices) t a then λ n b.
    after_empty (count_line edges_word tests.edges) t b then λ m c.
    found (record { vertices = n; edges = m }) c

-- The lines behind the counts; 1 where there are more vertices than the limit.
unfoldable pub stp_lines : (n m : ℕ) → List ℕ → (at : ℕ) → Step StpContent
stp_lines n m t at =
    whole (stp_edges n t m at) then λ es p.
    terminals_to_end n t p then λ gs q.
    found (record { vertices = n; edges = m; groups = gs; lines = es }) q

-- What a buffer holds then, as far as it reaches: a refusal writes nothing.
unfoldable pub stored_by : Step StpContent → (StpContent → List ℕ) → (old : List ℕ) → List ℕ
stored_by (found x next) values old = sets old 0 (values x)
stored_by (refused number place) values old = old
