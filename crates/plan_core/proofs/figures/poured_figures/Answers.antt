-- `poured_figures` meets its contract: 8 without a place (`figures_parted`), or the plan's figures (`figures_joined_law`).
use mathlib.Core.Path.{refl, ◌∙◌}
use native.Mathlib.Omega.{arith}
use borrow.Author.Tests.{not-true, not-false}
use Rattle.check_core.specs.Cost.{kept_cost_all}
use Rattle.plan_rule.specs.Figures.{figured_outcome}
use Rattle.plan_rule.proofs.Laws.Same.{plan_terminals}
use Rattle.plan_core.specs.Laws.Figures.{figures_parted, figures_joined_law}
use Rattle.plan_core.proofs.figures.poured_figures.Goals as goal

pub grow_marks-marked-requires : goal.grow_marks-marked-requires
grow_marks-marked-requires c =
    let few = c.requires.edges_few in
    record { survey_sound = c.requires; values_value = (refl, refl); firsts_in_bounds = omega (arith, few, c.grow_marks-arg-1.given) }

-- 8
pub returns-then-not-marked : goal.returns-then-not-marked
unfolding figured_outcome
returns-then-not-marked c =
    record { result_value = figures_parted _ _ c.grow_marks-marked.ensures (not-true _ c.if-not-marked.true); marks_value = c.grow_marks-marked.ensures.marks_are }

-- finished
pub returns : goal.returns
unfolding figured_outcome
returns c =
    record {
      result_value = figures_joined_law _ _ c.grow_marks-marked.ensures (not-false _ c.if-not-marked.false) (c.terminals.ensures ∙ plan_terminals _ _ _ _)
          (kept_cost_all _ _ _ c.requires.edges_few c.kept_cost.ensures) refl;
      marks_value = c.grow_marks-marked.ensures.marks_are;
    }
