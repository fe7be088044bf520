-- Checking a survey's text with a printed plan behind it, with lent counts, by the library's own definition.
use Rattle.std.specs.Prelude.{ℕ, List, length}
use Rattle.base_limits.specs.Verdict.{Outcome}
use Rattle.check_rule.specs.Check.{Checked}
use Rattle.check_printed.specs.Verify.{verifying}
use Rattle.api_code.specs.Code.{room_for}
use Rattle.api_check.specs.Call.{check_figures}

-- What `verifying` refuses, then 7 for counts that do not fit.
unfoldable pub verify_call : (text counts : List ℕ) → Outcome Checked
verify_call text counts = room_for check_figures (length counts) (verifying text)
