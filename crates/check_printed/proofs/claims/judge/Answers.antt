-- `check_printed::claims::judge` meets its contract: the checker's refusals first, then each claim.
use mathlib.Core.Path.{ap, sym, ◌∙◌}
use Rattle.check_rule.specs.Check.{Checked}
use Rattle.check_core.specs.Stage.{checked_outcome}
use Rattle.check_printed.specs.Answer.{verified_outcome, refused_only}
use Rattle.check_printed.specs.Laws.Verify.{claims_refused, claim_terminals, claim_cost, claim_bound, claim_fine}
use Rattle.check_printed.proofs.claims.judge.Goals as goal

-- the checker refuses
pub returns-in_default : goal.returns-in_default
unfolding checked_outcome refused_only
returns-in_default c =
    let a = c.args in
    let told = c.in_default.is in
    c.stopped_check.ensures ∙ ap (λ x. refused_only {B = Checked} (checked_outcome x)) told
    ∙ sym (claims_refused a.terminals a.cost a.bound (sym c.check-found.ensures.result_value ∙ ap checked_outcome told))

-- 25 0: another number of terminals
pub returns-then-k-terminals : goal.returns-then-k-terminals
unfolding verified_outcome checked_outcome
returns-then-k-terminals c =
    let a = c.args in
    sym (claim_terminals a.terminals a.cost a.bound (sym c.check-found.ensures.result_value ∙ ap checked_outcome c.in-Passed.is) c.if-k-terminals.true)

-- 25 1: another cost
pub returns-then-c-cost : goal.returns-then-c-cost
unfolding verified_outcome checked_outcome
returns-then-c-cost c =
    let a = c.args in
    sym (claim_cost a.terminals a.cost a.bound (sym c.check-found.ensures.result_value ∙ ap checked_outcome c.in-Passed.is) c.if-k-terminals.false c.if-c-cost.true)

-- 25 2: another bound
pub returns-then-b-bound : goal.returns-then-b-bound
unfolding verified_outcome checked_outcome
returns-then-b-bound c =
    let a = c.args in
    sym (claim_bound a.terminals a.cost a.bound (sym c.check-found.ensures.result_value ∙ ap checked_outcome c.in-Passed.is) c.if-k-terminals.false c.if-c-cost.false c.if-b-bound.true)

-- the figures are those found
pub returns : goal.returns
unfolding verified_outcome checked_outcome
returns c =
    let a = c.args in
    sym (claim_fine a.terminals a.cost a.bound (sym c.check-found.ensures.result_value ∙ ap checked_outcome c.in-Passed.is) c.if-k-terminals.false c.if-c-cost.false c.if-b-bound.false)
