-- `shape_refusal` meets its contract: each return by the law of its case.
use native.Mathlib.Omega.{arith}
use mathlib.Core.Path.{sym}
use Rattle.check_rule.proofs.Laws.Refusal.{shape_marks, shape_uneven, shape_many, shape_fine}
use Rattle.check_core.proofs.marks.shape_refusal.Goals as goal

-- 9: the marks
pub returns-then-marks-firsts : goal.returns-then-marks-firsts
returns-then-marks-firsts c = sym (shape_marks _ _ _ c.if-marks-firsts.true)

-- 9: a part of a record
pub returns-then-records-ne0 : goal.returns-then-records-ne0
returns-then-records-ne0 c = sym (shape_uneven _ _ _ (omega arith) c.if-records-ne0.true)

-- 9: too many records
pub returns-then-records-gt-MAX_DUALS : goal.returns-then-records-gt-MAX_DUALS
returns-then-records-gt-MAX_DUALS c = sym (shape_many _ _ _ (omega arith) (omega arith) (omega arith))

-- nothing wrong
pub returns : goal.returns
returns c = sym (shape_fine _ _ _ (omega arith) (omega arith) (omega arith))
