-- `first_of` meets its contract: by what the first is.
use mathlib.Core.Path.{sym, ◌∙◌}
use Rattle.base_limits.specs.Laws.Verdict.{before_fine, before_refused}
use Rattle.why_core.proofs.refusal.first_of.Goals as goal

pub returns-in_default : goal.returns-in_default
returns-in_default c = c.in_default.is ∙ sym (before_refused c.in_default.is _)

pub returns : goal.returns
returns c = sym (before_fine c.in-Fine.is _)
