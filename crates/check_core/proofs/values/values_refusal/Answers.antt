-- `values_refusal` meets its contract: a scan of the records for 11.
use borrow.Author.Rules.{rules}
use Rattle.survey_core.specs.Survey.{groups_alone}
use Rattle.check_rule.specs.Check.{dual_at, dual_refusal}
use Rattle.check_core.proofs.values.values_refusal.Goals as goal

pub returns : goal.returns
unfolding dual_at
returns c = c.lowest.ensures (λ i. dual_refusal (groups_alone c.args.groups.now) (dual_at c.args.records.now i) i) (λ i v b p. search rules)
