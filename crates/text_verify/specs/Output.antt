-- What the program `verify` prints for a text: `passed` with the sites, cost and bound that the checker finds, or the two lines of the refusal.
use Rattle.std.specs.Prelude.{ℕ, ◌+◌, ◌*◌, List, ◌++◌}
use Rattle.base_limits.specs.Limits.{word_digits}
use Rattle.base_limits.specs.Verdict.{Outcome, refusal, answer}
use Rattle.format_write.specs.Key.{ascii, terminals_key, cost_key, bound_key}
use Rattle.format_write.specs.Text.{line_of, refusal_text}
use Rattle.check_rule.specs.Check.{Checked}
use Rattle.check_printed.specs.Verify.{verifying}

-- The line with which it begins where a plan passes.
unfoldable pub passed_line : List ℕ
passed_line = ascii "passed\n"

-- What is printed for a plan that passes, for whatever the check finds, and for a text.
unfoldable pub passed_text : (terminals cost bound : ℕ) → List ℕ
passed_text terminals cost bound = passed_line ++ line_of terminals_key terminals ++ line_of cost_key cost ++ line_of bound_key bound

unfoldable pub findings_text : Outcome Checked → List ℕ
findings_text (refusal number place) = refusal_text number place
findings_text (answer c) = passed_text c.terminals c.cost c.bound

unfoldable pub verify_output : List ℕ → List ℕ
verify_output t = findings_text (verifying t)

-- bytes that hold whatever is printed: 24 for `passed`, its newline and three keys, and three numbers with their newlines
abbrev pub findings_room : ℕ
findings_room = 24 + 3 * (word_digits + 1)
