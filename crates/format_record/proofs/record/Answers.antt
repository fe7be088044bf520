-- `record`: a part past the end, at the end, or whole.
use Rattle.format_record.proofs.Laws.Record.{record_at_past, record_at_end, record_at_whole}
use Rattle.format_record.proofs.record.Goals as goal

pub returns-then-n-i : goal.returns-then-n-i
returns-then-n-i c = record_at_past c.args.records.now c.args.i c.if-n-i.true

pub returns-then-n-start-lt-RECORD_BYTES : goal.returns-then-n-start-lt-RECORD_BYTES
returns-then-n-start-lt-RECORD_BYTES c = record_at_end c.args.records.now c.args.i c.if-n-start-lt-RECORD_BYTES.true

pub returns : goal.returns
returns c = record_at_whole c.args.records.now c.args.i
