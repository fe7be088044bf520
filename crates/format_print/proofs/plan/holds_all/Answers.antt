-- `holds_all`: too many marks, too many records, or the room is compared.
use Rattle.format_print.specs.Laws.Room.{many_marks, many_records, few_hold}
use Rattle.format_print.proofs.plan.holds_all.Goals as goal

pub returns-then-marks-gt-MAX_EDGES : goal.returns-then-marks-gt-MAX_EDGES
returns-then-marks-gt-MAX_EDGES c = let a = c.args in many_marks a.marks a.records a.room c.if-marks-gt-MAX_EDGES.true

pub returns-then-records-gt-RECORDS_ROOM : goal.returns-then-records-gt-RECORDS_ROOM
returns-then-records-gt-RECORDS_ROOM c = let a = c.args in many_records a.marks a.records a.room c.if-marks-gt-MAX_EDGES.false c.if-records-gt-RECORDS_ROOM.true

pub returns : goal.returns
returns c = let a = c.args in few_hold a.marks a.records a.room c.if-marks-gt-MAX_EDGES.false c.if-records-gt-RECORDS_ROOM.false
