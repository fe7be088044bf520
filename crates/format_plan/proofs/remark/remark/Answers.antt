-- `remark`: figures that cannot be read, that do not show it, and that do.
use native.Mathlib.Omega.{arith}
use Rattle.format_plan.proofs.Laws.Remark.{unread_remark, none_remark, whole_remark}
use Rattle.format_plan.proofs.remark.remark.Goals as goal

-- no figures
pub returns-in_default : goal.returns-in_default
returns-in_default c = record { remark_line_value = unread_remark _ _ c.figure_lines-figures.ensures c.in_default.is; fits = omega arith }

-- they do not show it
pub returns-then-value-eq0 : goal.returns-then-value-eq0
returns-then-value-eq0 c = record { remark_line_value = none_remark _ _ c.figure_lines-figures.ensures c.in-Value.is c.if-value-eq0.true; fits = omega arith }

-- they do
pub returns : goal.returns
returns c = record { remark_line_value = whole_remark _ _ c.figure_lines-figures.ensures c.in-Value.is c.if-value-eq0.false; fits = omega arith }
