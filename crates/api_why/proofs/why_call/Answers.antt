-- `why_call` meets its contract: counts that fit get what `why` answers, others are 7 after the survey's refusals.
use native.Mathlib.Omega.{arith}
use Rattle.survey_core.specs.Survey.{survey_with}
use Rattle.api_why.specs.Laws.Call.{why_short_code, why_short_route, why_short_counts, why_route_law, why_coded, why_counted}
use Rattle.api_why.proofs.why_call.Goals as goal

-- 1 to 6, 18, or 7
pub returns-then-counts-lt-WHY_FIGURES : goal.returns-then-counts-lt-WHY_FIGURES
returns-then-counts-lt-WHY_FIGURES c =
    let a = c.args in
    let s = survey_with a.groups.now a.firsts.now a.seconds.now a.weights.now a.owners.now a.others.now in
    let short = c.if-counts-lt-WHY_FIGURES.true in record { code = why_short_code s a.track a.route.now a.counts.now short c.short_counts.ensures; route = why_short_route s a.track a.route.now a.counts.now short; counts = why_short_counts s a.track a.route.now a.counts.now short }

-- what asking answers
pub returns : goal.returns
returns c =
    let a = c.args in
    let s = survey_with a.groups.now a.firsts.now a.seconds.now a.weights.now a.owners.now a.others.now in
    let long = c.if-counts-lt-WHY_FIGURES.false in
    let asked = c.why-answer.ensures in record { code = why_coded s a.track a.route.now a.counts.now long _ asked.result_value (omega arith) c.store_answer.ensures.value; route = why_route_law s a.track a.route.now a.counts.now long asked.route_value; counts = why_counted s a.track a.route.now a.counts.now long _ asked.result_value c.store_answer.ensures.counts_value }
