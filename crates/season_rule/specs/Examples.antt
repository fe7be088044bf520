-- Reports as they are printed, and the longest, by computation.
use Rattle.std.specs.Prelude.{◌≡◌, refl, ◌-◌, length, replicate}
use Rattle.base_limits.specs.Verdict.{refusal, answer, refuse_if, written}
use Rattle.format_write.specs.Key.{ascii, cost_key, bound_key, refused_key}
use Rattle.format_write.specs.Decimal.{digits_within, decimal}
use Rattle.format_write.specs.Text.{line_of, listed, text_below}
use Rattle.season_rule.specs.declared.Farthest.TheVariants.{At}
use Rattle.season_rule.specs.declared.Report.{Report}
use Rattle.season_rule.specs.Report.{word_limit, refusal_numbers, empty_report, farther, add_plan, add_refusal, add_outcome, passes_word, season_refusal, added}
use Rattle.season_rule.specs.Text.{planned_key, far_key, none_word, list_line, refused_line, refused_lines, far_line, report_text, report_room}

pub empty_printed : report_text empty_report ≡ ascii "planned=0\ncost=0\nbound=0\nfar=none\n"
unfolding empty_report cost_key bound_key refused_key digits_within decimal line_of listed text_below planned_key far_key none_word list_line refused_line refused_lines far_line
    report_text
empty_printed = refl

-- A plan, 8, a plan with the same ratio, 1, one with a larger ratio, 8 again, and one with bound 0.
unfoldable pub season : Report
season =
    added
    (added
    (added
    (added
    (added
    (added (added empty_report (answer (record { cost = 7; bound = 14 }))) (refusal 8 3))
    (answer (record { cost = 1; bound = 2 })))
    (refusal 1 0))
    (answer (record { cost = 6; bound = 10 })))
    (refusal 8 1))
    (answer (record { cost = 0; bound = 0 }))

pub season_printed : report_text season ≡ ascii "planned=4\ncost=14\nbound=26\nrefused=1,1\nrefused=8,2\nfar=4,12,10\n"
unfolding season empty_report farther add_plan add_refusal add_outcome passes_word season_refusal added refuse_if written cost_key bound_key refused_key digits_within decimal
    line_of listed text_below planned_key far_key none_word list_line refused_line refused_lines far_line report_text
season_printed = refl

-- All numbers as large as 64 bits let them be, and every refusal met.
pub longest_report : length
    (report_text
    (record {
      surveys = 0;
      planned = word_limit - 1;
      cost = word_limit - 1;
      bound = word_limit - 1;
      refused = replicate refusal_numbers (word_limit - 1);
      farthest = At (word_limit - 1) (word_limit - 1) (word_limit - 1);
    })) ≡ report_room
unfolding cost_key bound_key refused_key digits_within decimal line_of listed text_below planned_key far_key none_word list_line refused_line refused_lines far_line report_text
longest_report = refl

-- In bytes.
pub report_room_law : report_room ≡ 747
report_room_law = refl
