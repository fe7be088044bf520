-- `duals_refusal` meets its contract: the first finding stands, and 11 leaves values whose sums fit.
use mathlib.Core.Path.{sym, ◌∙◌}
use Rattle.base_limits.specs.Laws.Verdict.{passed_on, goes_on_law}
use Rattle.theory_steiner.specs.Dual.{dual_load}
use Rattle.theory_steiner.specs.Problem.{separates}
use Rattle.survey_core.specs.Survey.{vertex_count, edge_count, member, same_group, problem_of}
use Rattle.check_rule.specs.Check.{dual_refusal}
use Rattle.check_core.specs.Moats.{duals_refusal}
use Rattle.check_core.specs.Laws.Duals.{duals_fit, few_duals, many_duals}
use Rattle.check_core.proofs.moats.duals_refusal.Goals as goal

-- too many
pub returns-then-records-gt-MAX_DUALS : goal.returns-then-records-gt-MAX_DUALS
returns-then-records-gt-MAX_DUALS c = sym (many_duals _ _ c.if-records-gt-MAX_DUALS.true)

-- 11
pub returns-in_default : goal.returns-in_default
unfolding duals_refusal dual_refusal separates dual_load problem_of vertex_count edge_count same_group member
returns-in_default c =
    passed_on c.values_refusal-unfit.ensures c.in_default.is _ ∙ sym (few_duals _ _ c.if-records-gt-MAX_DUALS.false)

-- 12
pub returns-in_default-whole : goal.returns-in_default-whole
unfolding duals_refusal dual_refusal separates dual_load problem_of vertex_count edge_count same_group member
returns-in_default-whole c =
    goes_on_law c.values_refusal-unfit.ensures c.in-Fine.is (passed_on c.cuts_refusal-whole.ensures c.in_default-whole.is _)
    ∙ sym (few_duals _ _ c.if-records-gt-MAX_DUALS.false)

pub loads_refusal-requires : goal.loads_refusal-requires
loads_refusal-requires c =
    duals_fit _ _ c.if-records-gt-MAX_DUALS.false (sym c.values_refusal-unfit.ensures ∙ c.in-Fine.is)

-- 13 or nothing
pub returns : goal.returns
unfolding duals_refusal dual_refusal separates dual_load problem_of vertex_count edge_count same_group member
returns c =
    goes_on_law c.values_refusal-unfit.ensures c.in-Fine.is
    (goes_on_law c.cuts_refusal-whole.ensures c.in-Fine-whole.is c.loads_refusal.ensures)
    ∙ sym (few_duals _ _ c.if-records-gt-MAX_DUALS.false)
