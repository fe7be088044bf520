-- `empty_report` meets its contract.
use mathlib.Core.Path.{refl}
use Rattle.season_rule.specs.Report.{empty_report}
use Rattle.season_core.proofs.add.empty_report.Goals as goal

pub returns : goal.returns
unfolding empty_report
returns c = refl
