-- The calls by the cases of the code: a slice that is too short, the season's own 3, and a report that is written.
use Rattle.std.specs.Prelude.{ℕ, ◌+◌, ◌*◌, ◌-◌, ◌≤◌, ◌<◌, ◌≡◌, refl, List, ◌++◌, length, take}
use Rattle.std.proofs.Math.Path.{ap, sym}
use Rattle.std.proofs.Common.{◌∙◌, lit<, lt-ltb, le-ltb}
use Rattle.std.proofs.Math.ListN.{drop}
use Rattle.base_limits.specs.Verdict.{refuse_if, ◌before◌, written}
use Rattle.base_limits.specs.declared.Verdict.{Verdict}
use Rattle.base_limits.specs.declared.Verdict.TheVariants.{Fine, Refused}
use Rattle.format_write.specs.Key.{cost_key, bound_key}
use Rattle.format_write.specs.Text.{line_of}
use Rattle.format_print.specs.Print.{out_after, printed, printed_out}
use Rattle.format_print.specs.declared.Printed.{Printed}
use Rattle.survey_core.specs.Survey.{Survey}
use Rattle.season_rule.specs.declared.Report.{Report}
use Rattle.season_rule.specs.Figures.{figures}
use Rattle.season_rule.specs.Report.{season_refusal, add_survey}
use Rattle.season_rule.specs.Text.{planned_key, refused_lines, far_line, report_text}
use Rattle.api_code.specs.Code.{place_unit, code_of, capped, counts_after, lent_on}
use Rattle.api_code.specs.Laws.Encodable.{Encodable, encodable_before, encodable_refuse, at_zero, exact_code}
use Rattle.api_print.specs.Call.{print_figures, printed_code, printed_counts, text_call, text_out, text_counts}
use Rattle.api_print.specs.Laws.Call.{some_left, some_line, text_into}
use Rattle.api_season.specs.Bytes.{report_bytes, report_in, with_report}
use Rattle.api_season.specs.Call.{report_refusal, season_call, season_bytes, print_call, print_out, print_counts}

-- ---- adding

module _ (report : List ℕ) (s : Survey) where
  pub add_short : length report < report_bytes → (7 ≡ code_of (season_call report s)) × (report ≡ season_bytes report s)
  unfolding season_call season_bytes report_refusal refuse_if ◌before◌ written code_of
  add_short h = rw (lt-ltb (length report) report_bytes h) (refl, refl)

  pub long_call : report_bytes ≤ length report → season_call report s ≡ season_refusal (report_in report) (figures s)
  unfolding season_call report_refusal refuse_if ◌before◌
  long_call h = rw (le-ltb (length report) report_bytes h)

  add_encodable : Encodable (season_call report s)
  unfolding season_call report_refusal season_refusal
  add_encodable =
      encodable_before _ _ (encodable_refuse _ (at_zero 7 (lit< tt) (lit< tt))) λ _. encodable_refuse _ (at_zero 3 (lit< tt) (lit< tt))

  module _ (long : report_bytes ≤ length report) {so_far : Report} (read : so_far ≡ report_in report) {v : Verdict} (is : v ≡ season_refusal so_far (figures s)) where
    answered : season_call report s ≡ v
    answered = long_call long ∙ sym (is ∙ ap (λ x. season_refusal x (figures s)) read)

    -- 3 leaves the report as it was.
    pub add_refused : {number place code : ℕ} → v ≡ Refused number place → code ≡ capped (number + place_unit * place)
        → (code ≡ code_of (season_call report s)) × (report ≡ season_bytes report s)
    unfolding season_bytes written
    add_refused {number} {place} refused coded =
        let found : season_call report s ≡ Refused number place = answered ∙ refused in
        (exact_code (season_call report s) add_encodable number place found coded, sym (ap (λ x. written x (with_report report (add_survey (report_in report) s)) report) found))

    pub add_fine : {after : Report} {bytes : List ℕ} → v ≡ Fine → after ≡ add_survey so_far s → bytes ≡ with_report report after
        → (0 ≡ code_of (season_call report s)) × (bytes ≡ season_bytes report s)
    unfolding season_bytes written code_of
    add_fine fine made stored =
        let found : season_call report s ≡ Fine = answered ∙ fine in
        (sym (ap code_of found), stored ∙ ap (with_report report) (made ∙ ap (λ x. add_survey x s) read) ∙ sym (ap (λ x. written x (with_report report (add_survey (report_in report) s)) report) found))

-- ---- printing

some_report : (r : Report) → 0 < length (report_text r)
unfolding report_text
some_report r =
    let p = line_of planned_key r.planned in
    let c = line_of cost_key r.cost in
    let b = line_of bound_key r.bound in
    let l = refused_lines r.refused in
    some_left (p ++ c ++ b ++ l) (far_line r.farthest)
    (some_left (p ++ c ++ b) l (some_left (p ++ c) b (some_left p c (some_line planned_key r.planned))))

module _ (report out counts : List ℕ) where
  pub print_short : length report < report_bytes
      → (7 ≡ code_of (print_call report out counts)) × ((out ≡ print_out report out counts) × (counts ≡ print_counts report out counts))
  unfolding print_call print_out print_counts report_refusal refuse_if ◌before◌ out_after counts_after written code_of
  print_short h = rw (lt-ltb (length report) report_bytes h) (refl, (refl, refl))

  pub print_into : report_bytes ≤ length report → {r : Report} {room : ℕ} {p : Printed} {code : ℕ} {held counts' : List ℕ} → r ≡ report_in report
      → room ≡ lent_on (length counts) print_figures (length out) → p ≡ printed (report_text r) (take (room - 0) out)
      → held ≡ printed_out (report_text r) (take (room - 0) out) → code ≡ capped (printed_code p) → counts' ≡ printed_counts p counts
      → (code ≡ code_of (print_call report out counts)) × ((held ++ drop (room - 0) out ≡ print_out report out counts) × (counts' ≡ print_counts report out counts))
  unfolding print_call print_out print_counts text_out text_counts report_refusal refuse_if ◌before◌
  print_into long {r} {room} {p} {code} {held} {counts'} read lent answered left coded stored =
      let text = report_text (report_in report) in
      let whole : (code ≡ code_of (text_call text out counts)) × ((held ++ drop (room - 0) out ≡ text_out text out counts) × (counts' ≡ text_counts text out counts)) =
      text_into text out counts (some_report (report_in report)) lent (answered ∙ ap (λ x. printed (report_text x) (take (room - 0) out)) read)
      (left ∙ ap (λ x. printed_out (report_text x) (take (room - 0) out)) read) coded stored in
      rw (le-ltb (length report) report_bytes long) whole
