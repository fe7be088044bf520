-- `table_refusal` meets its contract: 23, then 7.
use Rattle.std.proofs.Common.{◌%◌, arith, lt-ltb, le-ltb}
use Rattle.base_limits.specs.Verdict.{refuse_if, ◌before◌}
use Rattle.format_table.specs.Table.{table_refusal}
use Rattle.format_table.proofs.table_refusal.Goals as goal

pub returns-then-long-gt0 : goal.returns-then-long-gt0
unfolding table_refusal refuse_if ◌before◌
returns-then-long-gt0 c = simp (lt-ltb 0 (c.args.long % 12) (omega arith))

pub returns-then-room-long : goal.returns-then-room-long
unfolding table_refusal refuse_if ◌before◌
returns-then-room-long c = simp (le-ltb 0 (c.args.long % 12) (omega arith), lt-ltb c.args.room c.args.long (omega arith))

pub returns : goal.returns
unfolding table_refusal refuse_if ◌before◌
returns c = simp (le-ltb 0 (c.args.long % 12) (omega arith), le-ltb c.args.room c.args.long (omega arith))
