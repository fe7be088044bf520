-- `told` meets its contract: the refusal's number, or 0.
use mathlib.Core.Path.{ap, sym, ◌∙◌}
use Rattle.base_limits.specs.declared.Verdict.{Verdict}
use Rattle.api_code.specs.Code.{code_of, capped}
use Rattle.api_print.proofs.table.told.Goals as goal

-- refused
pub returns-in-Refused : goal.returns-in-Refused
unfolding code_of
returns-in-Refused c = c.code.ensures ∙ sym (ap (λ (v : Verdict). capped (code_of v)) c.in-Refused.is)

-- nothing found
pub returns-in-Fine : goal.returns-in-Fine
unfolding code_of capped
returns-in-Fine c = sym (ap (λ (v : Verdict). capped (code_of v)) c.in-Fine.is)
