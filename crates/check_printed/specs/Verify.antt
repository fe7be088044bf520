-- Checking a survey text that a printed plan follows: the survey is read, then the plan, then the checker looks at both, and at last the
-- counts that the plan claims are held against what the checker finds.
use Rattle.std.specs.Prelude.{ℕ, ◌*◌, not, List, eqb}
use Rattle.base_limits.specs.Limits.{max_edges, record_bytes, max_duals}
use Rattle.base_limits.specs.Verdict.{refuse_if, ◌before◌, Outcome, refusal, answer, outcome}
use Rattle.base_limits.specs.declared.Verdict.{Verdict}
use Rattle.format_read.specs.Step.{Step, found, refused, ◌then◌}
use Rattle.format_survey.specs.Reading.{survey_of, SurveyText}
use Rattle.format_survey.specs.Line.{Lengths, widest, pair_room, SurveyCounts, tests_for, counts_at, lines_at}
use Rattle.survey_core.specs.Survey.{Survey, survey_with, edge_count}
use Rattle.check_rule.specs.Check.{Checked, checking}
use Rattle.format_plan.specs.Plan.{PrintedPlan, plan_at, with_room, marks_of, dual_records}

-- The survey of these counts, where there is room for so many pairs, and the offset behind its lines.
unfoldable pub survey_lines_at : (room : ℕ) → List ℕ → SurveyCounts → (at : ℕ) → Step SurveyText
survey_lines_at room t counts at =
    let body = lines_at room t counts.vertices counts.edges at in
    body.end then λ k q. found (survey_of counts body.groups body.pairs body.edges) q

-- A survey at the start of a text, and the offset behind it.
unfoldable pub prefix_at : Lengths → List ℕ → Step SurveyText
prefix_at lent t = counts_at (tests_for lent).vertices (tests_for lent).edges t then survey_lines_at (pair_room lent) t

-- The survey that a text says.
abbrev pub survey_in : SurveyText → Survey
survey_in s = survey_with s.groups s.firsts s.seconds s.weights s.owners s.others

-- 25: a count that is not what the checker finds; 0 for sites, 1 for cost, 2 for bound.
unfoldable pub claim_test : Checked → (terminals cost bound : ℕ) → Verdict
claim_test c terminals cost bound =
    refuse_if (not (eqb c.terminals terminals)) 25 0
    before refuse_if (not (eqb c.cost cost)) 25 1
    before refuse_if (not (eqb c.bound bound)) 25 2

unfoldable pub claims_judged : Outcome Checked → (terminals cost bound : ℕ) → Outcome Checked
claims_judged (refusal number place) terminals cost bound = refusal number place
claims_judged (answer c) terminals cost bound = outcome (claim_test c terminals cost bound) c

-- The plan that was read, against its survey.
unfoldable pub plan_verified : Survey → Outcome PrintedPlan → Outcome Checked
plan_verified s (refusal number place) = refusal number place
plan_verified s (answer p) =
    claims_judged (checking s (marks_of (edge_count s) p.kept) (dual_records p.duals)) p.claims.terminals p.claims.cost p.claims.bound

-- The plan from an offset on, with room for every plan within the limits.
unfoldable pub plan_from : List ℕ → Survey → (at : ℕ) → Outcome PrintedPlan
plan_from t s at = with_room (plan_at t (edge_count s) at) (edge_count s) max_edges (record_bytes * max_duals)

unfoldable pub verified_from : List ℕ → Step SurveyText → Outcome Checked
verified_from t (refused number place) = refusal number place
verified_from t (found s at) = plan_verified (survey_in s) (plan_from t (survey_in s) at)

unfoldable pub verifying : List ℕ → Outcome Checked
verifying t = verified_from t (prefix_at widest t)
