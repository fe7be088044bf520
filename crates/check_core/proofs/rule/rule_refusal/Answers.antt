-- `rule_refusal` meets its contract: each return by the law of its case; the products fit.
use native.Mathlib.Omega.{arith}
use mathlib.Core.Path.{sym}
use Rattle.check_rule.proofs.Laws.Refusal.{rule_none, rule_cost, rule_exceeded, rule_met}
use Rattle.check_core.specs.Laws.Counts.{product_fits}
use Rattle.check_core.proofs.rule.rule_refusal.Goals as goal

-- no terminal and no cost
pub returns-then-cost-eq0 : goal.returns-then-cost-eq0
returns-then-cost-eq0 c = sym (rule_none _ c.if-terminals-eq0.true c.if-cost-eq0.true)

-- 15: a cost with no terminal
pub returns-then-terminals-eq0 : goal.returns-then-terminals-eq0
returns-then-terminals-eq0 c = sym (rule_cost _ c.if-terminals-eq0.true c.if-cost-eq0.false)

pub overflow_mul-terminals : goal.overflow_mul-terminals
overflow_mul-terminals c = record { fits = product_fits (omega arith) (omega arith) }

pub overflow_mul-terminals-2 : goal.overflow_mul-terminals-2
overflow_mul-terminals-2 c = record { fits = product_fits (omega arith) (omega arith) }

-- 15: the rule
pub returns-then-terminals-bound : goal.returns-then-terminals-bound
returns-then-terminals-bound c = sym (rule_exceeded _ c.if-terminals-eq0.false c.if-terminals-bound.true)

-- the rule holds
pub returns : goal.returns
returns c = sym (rule_met _ c.if-terminals-eq0.false c.if-terminals-bound.false)
