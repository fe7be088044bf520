-- `cuts_refusal` meets its contract: a scan of the records for 12.
use borrow.Author.Rules.{rules}
use mathlib.Core.Bool.{not}
use Rattle.base_limits.specs.Verdict.{refuse_if}
use Rattle.theory_steiner.specs.Problem.{separates}
use Rattle.survey_core.specs.Survey.{groups_alone, problem_of}
use Rattle.check_rule.specs.Check.{dual_at}
use Rattle.check_core.specs.Laws.Sides.{record_short}
use Rattle.check_core.proofs.cuts.cuts_refusal.Goals as goal

pub lowest-requires : goal.lowest-requires
lowest-requires c = search (rules, record_short)

pub returns : goal.returns
unfolding dual_at
returns c = c.lowest.ensures (λ i. refuse_if (not (separates (problem_of (groups_alone c.args.groups.now)) (dual_at c.args.records.now i).holds)) 12 i) (λ i v b p. search rules)
