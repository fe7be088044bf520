-- Packing and unpacking a track table: their refusals are told by one number.
use Rattle.std.specs.Prelude.{ℕ, ◌+◌, ◌*◌, ◌≡◌}
use Rattle.std.proofs.Common.{sym, ◌∙◌, lit<}
use Rattle.base_limits.specs.declared.Verdict.{Verdict}
use Rattle.base_limits.specs.declared.Verdict.TheVariants.{Fine, Refused}
use Rattle.format_table.specs.Table.{table_refusal}
use Rattle.api_code.specs.Code.{place_unit, code_of, capped}
use Rattle.api_code.specs.Laws.Encodable.{Encodable, encodable_before, encodable_refuse, at_zero, exact_code, zero_code}

pub table_encodable : (long room : ℕ) → Encodable (table_refusal long room)
unfolding table_refusal
table_encodable long room =
    encodable_before _ _ (encodable_refuse _ (at_zero 23 (lit< tt) (lit< tt))) λ _. encodable_refuse _ (at_zero 7 (lit< tt) (lit< tt))

-- The arms of the two calls.
module _ (long room : ℕ) {found : Verdict} (is : found ≡ table_refusal long room) where
  pub table_refused : {number place code : ℕ} → found ≡ Refused number place → code ≡ capped (number + place_unit * place)
      → code ≡ code_of (table_refusal long room)
  table_refused {number} {place} e h = exact_code (table_refusal long room) (table_encodable long room) number place (sym is ∙ e) h

  pub table_fine : found ≡ Fine → 0 ≡ code_of (table_refusal long room)
  table_fine e = sym (zero_code (sym is ∙ e))
