-- `kept_answer` meets its contract: the numbers are those of the pair.
use mathlib.Core.Path.{refl}
use Rattle.why_rule.specs.Answer.{why_outcome}
use Rattle.why_core.specs.Kept.{kept_counts}
use Rattle.why_core.proofs.kept.kept_answer.Goals as goal

pub returns : goal.returns
unfolding why_outcome kept_counts
returns c = refl
