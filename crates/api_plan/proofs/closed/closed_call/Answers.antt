-- `closed_call` meets its contract: the refusal as one number, or 0; the result is the library's.
use mathlib.Core.Path.{sym, ◌∙◌}
use Rattle.api_code.specs.Laws.Encodable.{exact_code, zero_code}
use Rattle.api_plan.specs.Laws.ClosedCall.{closed_encodable}
use Rattle.api_plan.proofs.closed.closed_call.Goals as goal

-- refused
pub returns-in-Refused : goal.returns-in-Refused
returns-in-Refused c =
    record { code = exact_code _ (closed_encodable _ _ _) _ _ (sym c.closed-found.ensures.result_value ∙ c.in-Refused.is) c.code.ensures; res = c.closed-found.ensures.res_value }

-- answered
pub returns-in-Fine : goal.returns-in-Fine
returns-in-Fine c =
    record { code = sym (zero_code (sym c.closed-found.ensures.result_value ∙ c.in-Fine.is)); res = c.closed-found.ensures.res_value }
