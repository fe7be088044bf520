-- `first_split` meets its contract: a scan of the groups.
use mathlib.Core.Path.{refl, sym, ◌∙◌}
use borrow.Author.Tests.{eq-eqb, ne_eqb}
use Rattle.base_limits.specs.Laws.Verdict.{refuse_true, refuse_false, scan_start, scan_turn, scan_found, scan_end}
use Rattle.survey_groups.proofs.separating.first_split.Goals as goal

pub loop-g-init : goal.loop-g-init
loop-g-init c = scan_start _ _

-- a split group
pub returns-then-at-eq1 : goal.returns-then-at-eq1
returns-then-at-eq1 c =
    let split = refuse_true (eq-eqb _ 1 (sym c.at.ensures ∙ c.if-at-eq1.true)) _ _ in
    scan_found c.loop-g.invariant c.loop-g-test.true (sym split) refl

pub loop-g-preserved : goal.loop-g-preserved
loop-g-preserved c =
    let whole = refuse_false (ne_eqb _ 1 (λ e. c.if-at-eq1.false (c.at.ensures ∙ e))) _ _ in
    scan_turn c.loop-g.invariant c.loop-g-test.true refl whole

-- no group is split
pub returns : goal.returns
returns c = scan_end c.loop-g.invariant c.loop-g-test.false
