-- What a print call answers, in this paper's numbers (document 01, 'Refused surveys and plans'): the text's length, or a refusal's number and place.
use Rattle.std.specs.Prelude.{ℕ}
use Rattle.base_limits.specs.Verdict.{Outcome, refusal, answer}
use Rattle.format_print.specs.declared.Printed.{Printed}
use Rattle.format_print.specs.declared.Printed.TheVariants.{Length, Refused}

unfoldable pub printed_outcome : Printed → Outcome ℕ
printed_outcome (Length n) = answer n
printed_outcome (Refused number place) = refusal number place
