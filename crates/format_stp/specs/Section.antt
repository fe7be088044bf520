-- The lines of an STP text around its terminals (document 02, No. 5).
use Rattle.std.specs.Prelude.{ℕ, List}
use Rattle.format_read.specs.Bytes.{end_at}
use Rattle.format_read.specs.Step.{Step, ◌then◌}
use Rattle.format_stp.specs.StpKey.{end_line, terminals_line, eof_line}
use Rattle.format_stp.specs.StpReading.{stp_line, terminal_count}
use Rattle.format_stp.specs.StpWord.{after_empty}

-- The lines before the terminals: how many these are.
unfoldable pub terminals_announced : (n : ℕ) → List ℕ → (at : ℕ) → Step ℕ
terminals_announced n t at = stp_line end_line t at then λ z a. stp_line terminals_line t a then λ y b. after_empty (terminal_count n) t b

-- The lines behind them, and the end of the text.
unfoldable pub terminals_closed : List ℕ → (at : ℕ) → Step ℕ
terminals_closed t at = stp_line end_line t at then λ z a. stp_line eof_line t a then λ y b. after_empty end_at t b
