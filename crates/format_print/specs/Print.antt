-- What a print call answers, and what it leaves in the lent buffer (document 01, 'Refused surveys and plans' and 'Survey text and
-- printed plan'): 9 for a record of another length, then 7 only if the text does not fit.
use Rattle.std.specs.Prelude.{ℕ, not, List, ◌++◌, length, drop, eqb, ltb}
use Rattle.base_limits.specs.Limits.{record_bytes}
use Rattle.base_limits.specs.Verdict.{refuse_if, ◌before◌, written}
use Rattle.base_limits.specs.declared.Verdict.{Verdict}
use Rattle.base_limits.specs.declared.Verdict.TheVariants.{Fine, Refused}
use Rattle.format_print.specs.declared.Printed.{Printed}
use Rattle.format_print.specs.declared.Printed.TheVariants.{Length}
use Rattle.format_print.specs.declared.Printed.TheVariants.{Refused as RefusedPrint}
use Rattle.format_write.specs.Text.{dual_line}

-- The answer: the text's length, or the refusal.
unfoldable pub answer_of : Verdict → (text : List ℕ) → Printed
answer_of Fine text = Length (length text)
answer_of (Refused number place) text = RefusedPrint number place

-- The buffer at the end: bytes past the text keep their values.
unfoldable pub out_after : Verdict → (text out : List ℕ) → List ℕ
out_after v text out = written v (text ++ drop (length text) out) out

-- A text that is printed whole: a plan's, or a refusal's.
unfoldable pub print_refusal : (text out : List ℕ) → Verdict
print_refusal text out = refuse_if (ltb (length out) (length text)) 7 0

unfoldable pub printed : (text out : List ℕ) → Printed
printed text out = answer_of (print_refusal text out) text

unfoldable pub printed_out : (text out : List ℕ) → List ℕ
printed_out text out = out_after (print_refusal text out) text out

-- One moat line.
unfoldable pub dual_print_refusal : (r out : List ℕ) → Verdict
dual_print_refusal r out = refuse_if (not (eqb (length r) record_bytes)) 9 0 before print_refusal (dual_line r) out

unfoldable pub dual_printed : (r out : List ℕ) → Printed
dual_printed r out = answer_of (dual_print_refusal r out) (dual_line r)

unfoldable pub dual_printed_out : (r out : List ℕ) → List ℕ
dual_printed_out r out = out_after (dual_print_refusal r out) (dual_line r) out
