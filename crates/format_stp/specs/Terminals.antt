-- An STP text from the end of its graph on (document 02, No. 5), in parts.
use Rattle.std.specs.Prelude.{ℕ, cond, List, ltb}
use Rattle.std.proofs.lemmas.List.Edits.{sets}
use Rattle.base_limits.specs.Limits.{max_vertices}
use Rattle.format_read.specs.Bytes.{end_at}
use Rattle.format_read.specs.Step.{Step, found, refused, ◌then◌}
use Rattle.format_stp.specs.StpReading.{terminal_lines, terminal_section}
use Rattle.format_stp.specs.StpWord.{after_empty}
use Rattle.format_stp.specs.Section.{terminals_announced, terminals_closed}

-- All of it, where the groups are these at the start.
unfoldable pub terminals_from : (n : ℕ) (groups : List ℕ) → List ℕ → (at : ℕ) → Step (List ℕ)
terminals_from n groups t at =
    terminals_announced n t at then λ k a. terminal_lines n k groups t a then λ gs b. terminals_closed t b then λ z c. found gs c

-- The terminals, and the end of the text behind empty lines; 1 where there are more vertices than the limit.
unfoldable pub terminals_to_end : (n : ℕ) → List ℕ → (at : ℕ) → Step (List ℕ)
terminals_to_end n t at = cond (ltb max_vertices n) (refused 1 0) (terminal_section n t at then λ gs p. after_empty end_at t p then λ z q. found gs q)

-- What a group buffer holds then: a refusal writes nothing.
unfoldable pub groups_after : Step (List ℕ) → (old : List ℕ) → List ℕ
groups_after (found gs next) old = sets old 0 gs
groups_after (refused number place) old = old
