-- What the programs `plan` and `verify` print for any text: a refusal, or figures that obey the accuracy rule (the
-- buyer's demand 3); and whatever figures stand on the printed lines do.
use Rattle.std.specs.Prelude.{ℕ, zero, suc, ◌+◌, ◌-◌, ◌^◌, ◌≤◌, ◌<◌, ◌≡◌, refl, List, ◌++◌, length}
use Rattle.std.proofs.Common.{arith, pow-suc, ap, ap₂, sym, ◌∙◌, subst, append_assoc}
use Rattle.std.proofs.Math.Nat.{pow-zero}
use Rattle.base_limits.specs.Limits.{max_edges, records_room}
use Rattle.base_limits.specs.Verdict.{Outcome, refusal, answer}
use Rattle.format_write.specs.Key.{terminals_key, cost_key, bound_key, refused_key}
use Rattle.format_write.specs.Text.{line_of, count_lines, kept_lines, dual_lines, plan_text, refusal_text}
use Rattle.format_read.specs.Step.{Step, found}
use Rattle.format_read.specs.Stands.{Stands}
use Rattle.format_read.proofs.Laws.Stands.{stands_first, stands_second, stands_head, stands_whole, stands_end}
use Rattle.format_survey.specs.Line.{widest}
use Rattle.format_plan.proofs.Laws.RoundTrip.{value_reads_back}
use Rattle.survey_core.specs.Accuracy.{Accurate, DualBound}
use Rattle.check_rule.specs.Check.{Checked}
use Rattle.check_printed.specs.Verify.{survey_in, verifying}
use Rattle.check_printed.specs.Worth.{Worth}
use Rattle.check_printed.specs.Laws.Passes.{read_numbered}
use Rattle.check_printed.specs.Laws.Accuracy.{verified_accurate}
use Rattle.plan_draw.specs.Drawing.{records_of}
use Rattle.plan_rule.specs.Plan.{Plan}
use Rattle.plan_rule.specs.Promise.{Ready}
use Rattle.plan_rule.proofs.Laws.Ready.{fine_ready}
use Rattle.plan_rule.proofs.Laws.Passes.{finished_accurate, finished_bound}
use Rattle.text_plan.specs.Output.{survey_read, text_plan, outcome_text, plan_output}
use Rattle.text_verify.specs.Output.{passed_line, passed_text, findings_text, verify_output}
use Rattle.theorems.specs.Printed.{AccuratePrint, PlanPrints, prints_refusal, prints_plan, VerifyPrints, verify_refusal, verify_passed, figure_lines, AccurateFigures}
use Rattle.theorems.proofs.Laws.Finished.{Source, source, call_prints}

pub accurate_print : (t : List ℕ) (p : Plan) → text_plan t ≡ answer p → AccuratePrint t p
unfolding survey_read
accurate_print t p finished =
    let from : Source t p = source t p finished in
    let s = survey_in from.survey in
    let ready : Ready s max_edges records_room = fine_ready s (read_numbered t widest from.survey from.read) max_edges records_room from.fine in
    record {
      survey = from.survey;
      read = from.read;
      prints = call_prints t p finished;
      accurate = subst (λ (x : Plan). Accurate s x.terminals x.cost) from.plan (finished_accurate s ready.survey ready.joinable);
      bounded = subst (λ (x : Plan). DualBound s x.bound) from.plan (finished_bound s ready.survey ready.joinable);
    }

pub plan_prints : (t : List ℕ) → PlanPrints t
unfolding plan_output outcome_text
plan_prints t = by (text_plan t) refl
  where
    by : (o : Outcome Plan) → text_plan t ≡ o → PlanPrints t
    by (refusal number place) h = prints_refusal number place (ap outcome_text h)
    by (answer p) h = prints_plan p (accurate_print t p h)

pub verify_prints : (t : List ℕ) → VerifyPrints t
unfolding verify_output findings_text
verify_prints t = by (verifying t) refl
  where
    by : (o : Outcome Checked) → verifying t ≡ o → VerifyPrints t
    by (refusal number place) h = verify_refusal number place (ap findings_text h)
    by (answer c) h = verify_passed c (ap findings_text h) (verified_accurate t c h)

-- ---- the figures on the lines

below_power : (x m : ℕ) → x ≤ m → x < 10 ^ m
below_power x zero h = omega (arith, pow-zero 10)
below_power x (suc m) h = let l = below_power (x - 1) m (omega arith) in omega (arith, l, pow-suc 10 m)

found_same : {x y p q : ℕ} → ◌≡◌ {A = Step ℕ} (found x p) (found y q) → x ≡ y
found_same e = cc

-- At one place stands a key's line with one number only.
line_same : (key t : List ℕ) (at x y : ℕ) → Stands t at (line_of key x) → Stands t at (line_of key y) → x ≡ y
line_same key t at x y a b =
    found_same
    (sym (value_reads_back key (x + y + 1) t at x (omega arith) (below_power x (x + y + 1) (omega arith)) a)
    ∙ value_reads_back key (x + y + 1) t at y (omega arith) (below_power y (x + y + 1) (omega arith)) b)

figures_same : (t : List ℕ) (at k c b l d e : ℕ) → Stands t at (figure_lines k c b) → Stands t at (figure_lines l d e) → (k ≡ l) × ((c ≡ d) × (b ≡ e))
figures_same t at k c b l d e s u =
    let S = line_of terminals_key in
    let C = line_of cost_key in
    let B = line_of bound_key in
    let s₂ = stands_first (S k ++ C c) (B b) s in
    let u₂ = stands_first (S l ++ C d) (B e) u in
    let x : k ≡ l = line_same terminals_key t at k l (stands_first (S k) (C c) s₂) (stands_first (S l) (C d) u₂) in
    let c_there : Stands t (at + length (S l)) (C c) = subst (λ (n : ℕ). Stands t (at + length (S n)) (C c)) x (stands_second (S k) (C c) s₂) in
    let y : c ≡ d = line_same cost_key t (at + length (S l)) c d c_there (stands_second (S l) (C d) u₂) in
    let far : at + length (S k ++ C c) ≡ at + length (S l ++ C d) = ap₂ (λ (n m : ℕ). at + length (S n ++ C m)) x y in
    let b_there : Stands t (at + length (S l ++ C d)) (B b) = subst (λ (n : ℕ). Stands t n (B b)) far (stands_second (S k ++ C c) (B b) s) in
    (x, (y, line_same bound_key t (at + length (S l ++ C d)) b e b_there (stands_second (S l ++ C d) (B e) u)))

-- A refusal begins with another byte.
refusal_elsewhere : (number place k c b : ℕ) → Stands (refusal_text number place) 0 (figure_lines k c b) → ⊥
unfolding refusal_text line_of terminals_key refused_key
refusal_elsewhere number place k c b s = let e = stands_head s in omega arith

plan_figure_lines : (k c b r : ℕ) (marks records : List ℕ) → Stands (plan_text k c b r marks records) 0 (figure_lines k c b)
unfolding plan_text count_lines
plan_figure_lines k c b r marks records =
    stands_first (figure_lines k c b) _ (stands_first (count_lines k c b r) (kept_lines marks) (stands_first _ (dual_lines records) (stands_whole (plan_text k c b r marks records))))

-- Whatever figures stand on the first lines of what `plan` prints, they obey the accuracy rule.
pub plan_figures_law : (t : List ℕ) (k c b : ℕ) → Stands (plan_output t) 0 (figure_lines k c b) → AccurateFigures t k c b
unfolding plan_output outcome_text
plan_figures_law t k c b s = by (text_plan t) refl
  where
    by : (o : Outcome Plan) → text_plan t ≡ o → AccurateFigures t k c b
    by (refusal number place) h = absurd (refusal_elsewhere number place k c b (subst (λ (w : List ℕ). Stands w 0 (figure_lines k c b)) (ap outcome_text h) s))
    by (answer p) h =
        let a : AccuratePrint t p = accurate_print t p h in
        let own = plan_figure_lines p.terminals p.cost p.bound p.rounds p.marks (records_of p.duals) in
        let there = subst (λ (w : List ℕ). Stands w 0 (figure_lines k c b)) (ap outcome_text h) s in
        let same = figures_same _ 0 p.terminals p.cost p.bound k c b own there in
        record {
          survey = a.survey;
          read = a.read;
          accurate = subst (λ (x : ℕ). Accurate (survey_in a.survey) x c) same.0 (subst (λ (y : ℕ). Accurate (survey_in a.survey) p.terminals y) same.1.0 a.accurate);
          bounded = subst (λ (x : ℕ). DualBound (survey_in a.survey) x) same.1.1 a.bounded;
        }

-- The same of what `verify` prints behind `passed`.
refusal_past : (number place k c b : ℕ) → Stands (refusal_text number place) (length passed_line) (figure_lines k c b) → ⊥
unfolding refusal_text line_of terminals_key refused_key passed_line
refusal_past number place k c b s = let e = stands_head s in omega arith

passed_lines : (k c b : ℕ) → Stands (passed_text k c b) (length passed_line) (figure_lines k c b)
unfolding passed_text
passed_lines k c b =
    let S = line_of terminals_key k in
    let C = line_of cost_key c in
    let B = line_of bound_key b in
    subst (λ (w : List ℕ). Stands w (length passed_line) (figure_lines k c b))
    (sym (ap (λ (w : List ℕ). w ++ B) (append_assoc passed_line S C) ∙ append_assoc passed_line (S ++ C) B))
    (stands_end passed_line (figure_lines k c b))

checked_same : {k c b l d e : ℕ} → k ≡ l → c ≡ d → b ≡ e → ◌≡◌ {A = Checked} (record { terminals = k; cost = c; bound = b }) (record { terminals = l; cost = d; bound = e })
checked_same x y z = rw (x, y, z)

pub verify_figures : (t : List ℕ) (k c b : ℕ) → Stands (verify_output t) (length passed_line) (figure_lines k c b) → Worth t (record { terminals = k; cost = c; bound = b })
unfolding verify_output findings_text
verify_figures t k c b s = by (verifying t) refl
  where
    by : (o : Outcome Checked) → verifying t ≡ o → Worth t (record { terminals = k; cost = c; bound = b })
    by (refusal number place) h =
        absurd (refusal_past number place k c b (subst (λ (w : List ℕ). Stands w (length passed_line) (figure_lines k c b)) (ap findings_text h) s))
    by (answer x) h =
        let there = subst (λ (w : List ℕ). Stands w (length passed_line) (figure_lines k c b)) (ap findings_text h) s in
        let same = figures_same _ (length passed_line) x.terminals x.cost x.bound k c b (passed_lines x.terminals x.cost x.bound) there in
        subst (λ (y : Checked). Worth t y) (checked_same same.0 same.1.0 same.1.1) (verified_accurate t x h)
