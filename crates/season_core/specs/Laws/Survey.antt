-- What planning answers gives the figures, whose cost is small.
use Rattle.std.specs.Prelude.{◌≤◌, ◌≡◌}
use Rattle.std.proofs.Common.{ap, ◌∙◌}
use Rattle.base_limits.specs.Verdict.{Outcome}
use Rattle.base_limits.specs.declared.Verdict.{Verdict}
use Rattle.survey_core.specs.Survey.{Survey}
use Rattle.plan_rule.specs.Figures.{FigureCounts, figuring}
use Rattle.season_rule.specs.declared.Report.{Report}
use Rattle.season_rule.specs.Figures.{figures, figures_of, cost_of}
use Rattle.season_rule.specs.Report.{most_cost, season_refusal, added, add_survey}
use Rattle.season_rule.proofs.Laws.Figures.{limited}

pub survey_added_law : (s : Survey) (r : Report) {counts : Outcome FigureCounts} {verdict : Verdict} {after : Report}
    → counts ≡ figuring s → verdict ≡ season_refusal r (figures_of counts)
    → (cost_of (figures_of counts) ≤ most_cost → after ≡ added r (figures_of counts))
    → (verdict ≡ season_refusal r (figures s)) × (after ≡ add_survey r s)
unfolding add_survey figures
survey_added_law s r {counts} counted v k =
    let e : figures_of counts ≡ figures s = ap figures_of counted in
    (v ∙ ap (season_refusal r) e, k (rw e (limited s).cost_small) ∙ ap (added r) e)
