-- `report_room` bytes hold every report, and so every season's: 7 does not come.
use Rattle.std.specs.Prelude.{ℕ, ◌≤◌, ◌≡◌, List, length}
use Rattle.std.proofs.Common.{arith, le-ltb}
use Rattle.base_limits.specs.Verdict.{refuse_if}
use Rattle.format_print.specs.declared.Printed.TheVariants.{Length}
use Rattle.format_print.specs.Print.{print_refusal, answer_of, printed}
use Rattle.survey_core.specs.Survey.{Survey}
use Rattle.season_rule.specs.declared.Report.{Report}
use Rattle.season_rule.specs.Report.{max_surveys, season_of}
use Rattle.season_rule.specs.Text.{report_text, report_room, Words}
use Rattle.season_rule.proofs.Laws.Text.{report_text_le, season_words}

pub report_prints : (r : Report) → Words r → (out : List ℕ) → report_room ≤ length out → printed (report_text r) out ≡ Length (length (report_text r))
unfolding printed print_refusal refuse_if answer_of
report_prints r w out room =
    let le : length (report_text r) ≤ report_room = report_text_le r w in
    let fits : length (report_text r) ≤ length out = omega arith in
    rw (le-ltb (length out) (length (report_text r)) fits)

pub season_prints : (ss : List Survey) → length ss ≤ max_surveys → (out : List ℕ) → report_room ≤ length out
    → printed (report_text (season_of ss)) out ≡ Length (length (report_text (season_of ss)))
season_prints ss few out room = report_prints (season_of ss) (season_words ss few) out room
