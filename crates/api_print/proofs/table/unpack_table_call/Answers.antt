-- `unpack_table_call` meets its contract: what was found goes into one number whole.
use mathlib.Core.Path.{ap, ◌∙◌}
use Rattle.base_limits.specs.declared.Verdict.{Verdict}
use Rattle.api_code.specs.Code.{code_of, capped}
use Rattle.api_code.specs.Laws.Encodable.{capped_code}
use Rattle.api_print.specs.Laws.Table.{table_encodable}
use Rattle.api_print.proofs.table.unpack_table_call.Goals as goal

pub returns : goal.returns
returns c =
    record {
      code = c.told.ensures ∙ ap (λ (v : Verdict). capped (code_of v)) c.unpack_table.ensures.value ∙ capped_code _ (table_encodable _ _);
      out = c.unpack_table.ensures.out_value;
    }
