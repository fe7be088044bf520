-- `behind_by` meets its contract: the difference, or 0.
use Rattle.std.proofs.Common.{ap, ◌∙◌, ◌-◌}
use Rattle.plan_wake.specs.Wake.{behind_by}
use Rattle.plan_wake.proofs.behind_by.Goals as goal

pub returns : goal.returns
unfolding behind_by
returns c = c.saturating_sub.ensures ∙ ap (λ x. c.args.time - x) c.at.ensures
