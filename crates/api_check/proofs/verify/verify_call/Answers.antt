-- `verify_call` meets its contract: what `verify` answers, as one number.
use Rattle.api_check.specs.Laws.VerifyCall.{verify_ends}
use Rattle.api_check.proofs.verify.verify_call.Goals as goal

pub returns : goal.returns
returns c =
    let a = c.args in
    let whole = verify_ends a.text.now a.counts.now c.verify-answer.result c.verify-answer.ensures (c.verified_code.ensures.result_value, c.verified_code.ensures.counts_value) in record { code = whole.0; counts = whole.1 }
