-- `room_refusal` meets its contract: each answer is the definition's, by the tests that led to it.
use mathlib.Core.Path.{sym}
use native.Mathlib.Omega.{arith}
use Rattle.plan_rule.proofs.Laws.Ready.{marks_short, records_short, buffers_fit}
use Rattle.plan_core.proofs.refusal.room_refusal.Goals as goal

-- 7: the buffer for marks is short
pub returns-then-marks-m : goal.returns-then-marks-m
returns-then-marks-m c = sym (marks_short c.args.n c.args.m c.args.marks c.args.records c.if-marks-m.true)

-- no vertex needs no record
pub returns-then-n-eq0 : goal.returns-then-n-eq0
returns-then-n-eq0 c = sym (buffers_fit c.args.n c.args.m c.args.marks c.args.records (omega arith) (omega arith))

-- 7: the buffer for records is short
pub returns-then-records-n : goal.returns-then-records-n
returns-then-records-n c = sym (records_short c.args.n c.args.m c.args.marks c.args.records c.if-records-n.true)

-- both are long enough
pub returns : goal.returns
returns c = sym (buffers_fit c.args.n c.args.m c.args.marks c.args.records (omega arith) (omega arith))
