-- `unpack_table` meets its contract.
use mathlib.Core.Path.{sym, ◌∙◌}
use native.Mathlib.Omega.{arith}
use Rattle.base_limits.specs.Laws.Verdict.{written_refused}
use Rattle.format_table.specs.Table.{unpacked_out}
use Rattle.format_table.proofs.Laws.Turning.{takes, turning_holds, unpacked_after}
use Rattle.format_table.proofs.unpack_table.Goals as goal

-- refused: nothing is written
pub returns-in_default : goal.returns-in_default
unfolding unpacked_out
returns-in_default c =
    let found = c.table_refusal-found.ensures in
    record { value = found; out_value = written_refused _ _ found c.in_default.is }

pub turn-requires : goal.turn-requires
turn-requires c =
    let fine = sym c.table_refusal-found.ensures ∙ c.in-Fine.is in
    let whole = (takes _ _ fine).whole in
    turning_holds _ _ fine _ _ (omega arith)

pub returns : goal.returns
returns c =
    let fine = sym c.table_refusal-found.ensures ∙ c.in-Fine.is in
    record { value = sym fine; out_value = unpacked_after _ _ fine c.turn.ensures }
