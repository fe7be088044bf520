-- Whatever passes obeys the accuracy rule, for the survey that the text begins with and the k and the cost reported.
use Rattle.std.specs.Prelude.{ℕ, ◌≡◌, refl, Bool, true, false, not, List, eqb}
use Rattle.std.proofs.Common.{arith, subst, eqb-true}
use Rattle.base_limits.specs.Verdict.{refuse_if, ◌before◌, Outcome, refusal, answer, outcome}
use Rattle.base_limits.specs.declared.Verdict.{Verdict}
use Rattle.base_limits.specs.declared.Verdict.TheVariants.{Fine, Refused}
use Rattle.format_read.specs.Step.{Step, found, refused}
use Rattle.format_survey.specs.Line.{widest}
use Rattle.format_survey.specs.Reading.{SurveyText}
use Rattle.survey_core.specs.Survey.{edge_count}
use Rattle.check_rule.specs.Check.{Checked, checking}
use Rattle.check_rule.proofs.Laws.Accuracy.{checking_accurate, checking_bound}
use Rattle.format_plan.specs.Plan.{Claims, PrintedPlan, marks_of, dual_records}
use Rattle.check_printed.specs.Verify.{prefix_at, survey_in, claim_test, claims_judged, plan_verified, plan_from, verified_from, verifying}
use Rattle.check_printed.specs.Worth.{Claimed, Worth}
use Rattle.check_printed.specs.Laws.Prefix.{prefix_numbered}

judged_answer : (o : Outcome Checked) (k c b : ℕ) {x : Checked} → claims_judged o k c b ≡ answer x → o ≡ answer x
unfolding claims_judged outcome
judged_answer (refusal n p) k c b e = let z : ◌≡◌ {A = ℕ} 0 1 = cc in absurd (omega arith)
judged_answer (answer y) k c b {x} e = by_test (claim_test y k c b) e
  where
    by_test : (v : Verdict) → outcome v y ≡ answer x → answer y ≡ answer x
    by_test Fine e = e
    by_test (Refused n p) e = let z : ◌≡◌ {A = ℕ} 0 1 = cc in absurd (omega arith)

judged_claims : (o : Outcome Checked) (x : Claims) {c : Checked} → claims_judged o x.terminals x.cost x.bound ≡ answer c → Claimed x c
unfolding claims_judged claim_test refuse_if ◌before◌ outcome
judged_claims (refusal n p) x e = let z : ◌≡◌ {A = ℕ} 0 1 = cc in absurd (omega arith)
judged_claims (answer y) x {c} e = by_tests (eqb y.terminals x.terminals) (eqb y.cost x.cost) (eqb y.bound x.bound) refl refl refl e
  where
    by_tests : (k d b : Bool) → eqb y.terminals x.terminals ≡ k → eqb y.cost x.cost ≡ d → eqb y.bound x.bound ≡ b
        → outcome (refuse_if (not k) 25 0 before refuse_if (not d) 25 1 before refuse_if (not b) 25 2) y ≡ answer c → Claimed x c
    by_tests true true true k d b e =
        let same : y ≡ c = cc in
        subst (Claimed x) same (record { terminals = eqb-true _ _ k; cost = eqb-true _ _ d; bound = eqb-true _ _ b })
    by_tests true true false k d b e = let z : ◌≡◌ {A = ℕ} 0 1 = cc in absurd (omega arith)
    by_tests true false b' k d b e = let z : ◌≡◌ {A = ℕ} 0 1 = cc in absurd (omega arith)
    by_tests false d' b' k d b e = let z : ◌≡◌ {A = ℕ} 0 1 = cc in absurd (omega arith)

-- What passes, part by part: the survey, the plan behind it, that the checker passes both with what is reported, and that the plan claims no other counts.
pub record Parts (t : List ℕ) (c : Checked) : Type 0 where
  pub survey : SurveyText
  pub next : ℕ
  pub plan : PrintedPlan
  pub read : prefix_at widest t ≡ found survey next
  pub behind : plan_from t (survey_in survey) next ≡ answer plan
  pub passes : checking (survey_in survey) (marks_of (edge_count (survey_in survey)) plan.kept) (dual_records plan.duals) ≡ answer c
  pub claims : Claimed plan.claims c

-- Nothing else passes.
pub verified_parts : (t : List ℕ) (c : Checked) → verifying t ≡ answer c → Parts t c
unfolding verifying verified_from plan_verified
verified_parts t c e = by_survey (prefix_at widest t) refl e
  where
    by_plan : (s : SurveyText) (at : ℕ) (o : Outcome PrintedPlan) → prefix_at widest t ≡ found s at → plan_from t (survey_in s) at ≡ o
        → plan_verified (survey_in s) o ≡ answer c → Parts t c
    by_plan s at (refusal n p) q b e = let z : ◌≡◌ {A = ℕ} 0 1 = cc in absurd (omega arith)
    by_plan s at (answer p) q b e = record { survey = s; next = at; plan = p; read = q; behind = b; passes = judged_answer _ _ _ _ e; claims = judged_claims _ p.claims e }

    by_survey : (x : Step SurveyText) → prefix_at widest t ≡ x → verified_from t x ≡ answer c → Parts t c
    by_survey (found s at) q e = by_plan s at (plan_from t (survey_in s) at) q refl e
    by_survey (refused n p) q e = let z : ◌≡◌ {A = ℕ} 0 1 = cc in absurd (omega arith)

pub verified_accurate : (t : List ℕ) (c : Checked) → verifying t ≡ answer c → Worth t c
verified_accurate t c e =
    let v = verified_parts t c e in
    let s = survey_in v.survey in
    let numbered = prefix_numbered widest t v.read in
    let kept = marks_of (edge_count s) v.plan.kept in
    record {
      survey = v.survey;
      next = v.next;
      read = v.read;
      accurate = checking_accurate s numbered kept (dual_records v.plan.duals) c v.passes;
      bounded = checking_bound s numbered kept (dual_records v.plan.duals) c v.passes;
    }
