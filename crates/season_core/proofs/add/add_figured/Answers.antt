-- `add_figured` meets its contract.
use mathlib.Core.Path.{ap}
use Rattle.plan_rule.specs.Figures.{figured_outcome}
use Rattle.season_rule.specs.Figures.{figures_of, cost_of}
use Rattle.season_core.specs.Laws.Room.{by_outcome}
use Rattle.season_core.proofs.add.add_figured.Goals as goal

pub returns-in-Finished : goal.returns-in-Finished
unfolding figured_outcome figures_of cost_of
returns-in-Finished c =
    let told = ap (λ p. figures_of (figured_outcome p)) c.in-Finished.is in
    let whole = by_outcome _ told c.add_plan.ensures.verdict_value c.add_plan.ensures.report_value in record { verdict_value = whole.0; fact = whole.1 }

pub returns-in-Refused : goal.returns-in-Refused
unfolding figured_outcome figures_of cost_of
returns-in-Refused c =
    let told = ap (λ p. figures_of (figured_outcome p)) c.in-Refused.is in
    let whole = by_outcome _ told c.add_refusal.ensures.verdict_value (λ small. c.add_refusal.ensures.report_value) in record { verdict_value = whole.0; fact = whole.1 }
