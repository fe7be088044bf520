-- What `plan` and `verify` say on standard error (document 02, No. 14): the line 'no cheaper plan exists' exactly
-- where the figures that they print show it, and then it is so. The programs hand what they print to
-- `format_plan::remark`: a plan's figures stand at its beginning, those of a check behind `passed`.
use Rattle.std.specs.Prelude.{ℕ, ◌+◌, ◌≡◌, refl, Bool, true, false, cond, length, get_or}
use Prim.Native.Char.{code}
use Rattle.std.proofs.Common.{arith, sym, ◌∙◌, subst, length-append}
use Rattle.std.proofs.Math.Path.{ap}
use mathlib.Core.List.{List, [], ◌++◌, append_assoc}
use Rattle.base_limits.specs.Limits.{max_edges, records_room, figure_digits}
use Rattle.base_limits.specs.Verdict.{refusal, answer}
use Rattle.format_write.specs.Key.{terminals_key, cost_key, bound_key, rounds_key, refused_key}
use Rattle.format_write.specs.Text.{line_of, kept_lines, dual_lines, count_lines, plan_text, refusal_text}
use Rattle.format_read.specs.Bytes.{fixed_at}
use Rattle.format_read.specs.Number.{number_line, OfDigits}
use Rattle.format_read.specs.Stands.{Stands}
use Rattle.format_read.specs.Step.{◌then◌}
use Rattle.format_read.proofs.Laws.Bytes.{byte_not}
use Rattle.format_read.proofs.Laws.Stands.{stands_first, stands_second, stands_whole, stands_end}
use Rattle.format_plan.specs.Remark.{remark_line, figures_at, remark_for, remark_on}
use Rattle.format_plan.specs.WellFormed.{ClaimDigits}
use Rattle.format_plan.specs.Plan.{marks_of, dual_records}
use Rattle.format_plan.proofs.Laws.Remark.{printed_remark}
use Rattle.format_survey.specs.Line.{widest}
use Rattle.survey_core.specs.Survey.{edge_count}
use Rattle.survey_core.specs.Sound.{ByteGroups}
use Rattle.check_rule.specs.Check.{Checked, checking}
use Rattle.check_rule.specs.Exact.{NoneCheaper, shows_cheapest}
use Rattle.check_rule.proofs.Laws.Exact.{checking_certified}
use Rattle.check_printed.specs.Verify.{survey_in, verifying}
use Rattle.check_printed.specs.Laws.Prefix.{prefix_numbered}
use Rattle.check_printed.specs.Laws.Accuracy.{Parts, verified_parts}
use Rattle.check_printed.specs.Laws.Passes.{read_numbered, checked_digits}
use Rattle.plan_draw.specs.Drawing.{records_of}
use Rattle.plan_rule.specs.Plan.{Plan}
use Rattle.plan_rule.specs.Promise.{Ready}
use Rattle.plan_rule.proofs.Laws.Ready.{fine_ready}
use Rattle.plan_rule.proofs.Laws.Passes.{finished_passes}
use Rattle.text_plan.specs.Output.{survey_read, text_plan, outcome_text, plan_output}
use Rattle.text_verify.specs.Output.{passed_line, passed_text, findings_text, verify_output}
use Rattle.theorems.specs.Printed.{plan_for, printed_plan, NoCheaperPlan, NoCheaperBehind}
use Rattle.theorems.proofs.Laws.Finished.{Source, source, call_prints}

-- ---- figures in a text

figures_said : (t : List ℕ) (at k c b : ℕ) → OfDigits figure_digits k → OfDigits figure_digits c → OfDigits figure_digits b →
    Stands t at (line_of terminals_key k ++ line_of cost_key c ++ line_of bound_key b) → remark_on t at ≡ cond (shows_cheapest c b) remark_line []
unfolding shows_cheapest
figures_said t at k c b hk hc hb s =
    let K = line_of terminals_key k in
    let C = line_of cost_key c in
    let B = line_of bound_key b in
    let s₂ = stands_first (K ++ C) B s in
    let l = length-append K C in
    let e : at + length (K ++ C) ≡ at + length K + length C = omega arith in
    printed_remark t at k c b hk hc hb (stands_first K C s₂) (stands_second K C s₂) (subst (λ (z : ℕ). Stands t z B) e (stands_second (K ++ C) B s))

-- Where no line of sites begins nothing is said.
unsaid : (t : List ℕ) (at : ℕ) → (get_or t at 0 ≡ code "s" → ⊥) → remark_on t at ≡ []
unfolding remark_on figures_at number_line terminals_key fixed_at ◌then◌ remark_for
unsaid t at other = rw (byte_not t at (code "s") other) refl

said_shown : (t : Bool) → cond t remark_line [] ≡ remark_line → t ≡ true
unfolding remark_line
said_shown true e = refl
said_shown false e = let z : ◌≡◌ {A = ℕ} 0 23 = ap length e in absurd (omega arith)

-- ---- `plan`

module _ (t : List ℕ) (p : Plan) (finished : text_plan t ≡ answer p) where
  from : Source t p
  from = source t p finished

  numbered : ByteGroups (survey_in from.survey)
  unfolding survey_read
  numbered = read_numbered t widest from.survey from.read

  ready : Ready (survey_in from.survey) max_edges records_room
  ready = fine_ready (survey_in from.survey) numbered max_edges records_room from.fine

  passes : checking (survey_in from.survey) (plan_for from.survey).marks (records_of (plan_for from.survey).duals)
      ≡ answer (record { terminals = (plan_for from.survey).terminals; cost = (plan_for from.survey).cost; bound = (plan_for from.survey).bound })
  passes = finished_passes (survey_in from.survey) ready.survey ready.joinable numbered

  said_of : (x : Plan) → OfDigits figure_digits x.terminals → OfDigits figure_digits x.cost → OfDigits figure_digits x.bound →
      remark_on (printed_plan x) 0 ≡ cond (shows_cheapest x.cost x.bound) remark_line []
  unfolding plan_text count_lines
  said_of x hk hc hb =
      let F = line_of terminals_key x.terminals ++ line_of cost_key x.cost ++ line_of bound_key x.bound in
      let R = line_of rounds_key x.rounds in
      let K = kept_lines x.marks in
      let D = dual_lines (records_of x.duals) in
      figures_said (printed_plan x) 0 x.terminals x.cost x.bound hk hc hb
      (stands_first F R (stands_first (F ++ R) K (stands_first (F ++ R ++ K) D (stands_whole (F ++ R ++ K ++ D)))))

  -- The line is said exactly where twice the cost is at most the bound,
  pub call_remarks : remark_on (plan_output t) 0 ≡ cond (shows_cheapest p.cost p.bound) remark_line []
  call_remarks =
      let d : ClaimDigits _ = checked_digits (survey_in from.survey) numbered (plan_for from.survey).marks (records_of (plan_for from.survey).duals) _ passes in
      ap (λ (w : List ℕ). remark_on w 0) (call_prints t p finished)
      ∙ subst (λ (x : Plan). remark_on (printed_plan x) 0 ≡ cond (shows_cheapest x.cost x.bound) remark_line []) from.plan
      (said_of (plan_for from.survey) d.terminals d.cost d.bound)

  -- and then no set of tracks that joins every group costs less.
  pub call_remark_true : remark_on (plan_output t) 0 ≡ remark_line → NoCheaperPlan t p.cost
  call_remark_true said =
      let shows : shows_cheapest p.cost p.bound ≡ true = said_shown (shows_cheapest p.cost p.bound) (sym call_remarks ∙ said) in
      record {
        survey = from.survey;
        read = from.read;
        none_cheaper =
            subst (λ (x : Plan). NoneCheaper (survey_in from.survey) x.cost) from.plan
            ((checking_certified (survey_in from.survey) numbered (plan_for from.survey).marks (records_of (plan_for from.survey).duals) _ passes
            ).none_cheaper (subst (λ (x : Plan). shows_cheapest x.cost x.bound ≡ true) (sym from.plan) shows));
      }

-- Of a refusal nothing is said.
pub call_refused_unsaid : (t : List ℕ) (number place : ℕ) → text_plan t ≡ refusal number place → remark_on (plan_output t) 0 ≡ []
unfolding plan_output outcome_text refusal_text line_of refused_key
call_refused_unsaid t number place refused =
    ap (λ o. remark_on (outcome_text o) 0) refused ∙ unsaid (refusal_text number place) 0 (λ e. let z : ◌≡◌ {A = ℕ} 114 115 = e in absurd (omega arith))

-- ---- `verify`

module _ (t : List ℕ) (c : Checked) (passed : verifying t ≡ answer c) where
  found : Parts t c
  found = verified_parts t c passed

  -- The same of a plan that passes, whoever drew it.
  pub verify_remarks : remark_on (verify_output t) 7 ≡ cond (shows_cheapest c.cost c.bound) remark_line []
  unfolding verify_output findings_text passed_text passed_line
  verify_remarks =
      let s = survey_in found.survey in
      let d : ClaimDigits _ =
      checked_digits s (prefix_numbered widest t found.read) (marks_of (edge_count s) found.plan.kept) (dual_records found.plan.duals) c found.passes in
      let K = line_of terminals_key c.terminals in
      let C = line_of cost_key c.cost in
      let B = line_of bound_key c.bound in
      let e : passed_line ++ K ++ C ++ B ≡ passed_line ++ (K ++ C ++ B) =
      ap (λ (w : List ℕ). w ++ B) (append_assoc passed_line K C) ∙ append_assoc passed_line (K ++ C) B in
      ap (λ o. remark_on (findings_text o) 7) passed
      ∙ ap (λ (w : List ℕ). remark_on w 7) e
      ∙ figures_said (passed_line ++ (K ++ C ++ B)) 7 c.terminals c.cost c.bound d.terminals d.cost d.bound (stands_end passed_line (K ++ C ++ B))

  pub verify_remark_true : remark_on (verify_output t) 7 ≡ remark_line → NoCheaperBehind t c.cost
  verify_remark_true said =
      let s = survey_in found.survey in
      record {
        survey = found.survey;
        next = found.next;
        read = found.read;
        none_cheaper =
            (checking_certified s (prefix_numbered widest t found.read) (marks_of (edge_count s) found.plan.kept) (dual_records found.plan.duals) c found.passes
            ).none_cheaper (said_shown (shows_cheapest c.cost c.bound) (sym verify_remarks ∙ said));
      }

pub verify_refused_unsaid : (t : List ℕ) (number place : ℕ) → verifying t ≡ refusal number place → remark_on (verify_output t) 7 ≡ []
unfolding verify_output findings_text refusal_text line_of refused_key
verify_refused_unsaid t number place refused =
    ap (λ o. remark_on (findings_text o) 7) refused ∙ unsaid (refusal_text number place) 7 (λ e. let z : ◌≡◌ {A = ℕ} 61 115 = e in absurd (omega arith))
