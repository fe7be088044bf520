-- The printed plan of document 01's P3, read back by computation.
use Rattle.std.specs.Prelude.{◌≡◌, refl, ◌||◌, [], ◌∷◌, ◌++◌, eqb}
use Rattle.std.proofs.Common.{ap, ◌∙◌}
use Rattle.base_limits.specs.Verdict.{refuse_if, ◌before◌}
use Rattle.format_record.specs.Record.{record_of}
use Rattle.format_write.specs.Key.{ascii, terminals_key, cost_key, bound_key, rounds_key, kept_key, dual_key}
use Rattle.format_write.specs.Text.{plan_text}
use Rattle.format_print.specs.Examples.{p3_printed}
use Rattle.format_read.specs.Step.{found, checked, ◌then◌}
use Rattle.format_read.specs.Lines.{lines_after, following}
use Rattle.format_write.specs.Decimal.{spelled_after}
use Rattle.format_read.specs.Number.{class_of, is_digit, digits_end, numeral_end, numeral_at, number_at, number_to, number_line}
use Rattle.format_read.specs.Bytes.{byte_is, fixed_at}
use Rattle.format_read.specs.Items.{items_from}
use Rattle.format_plan.specs.Lines.{kept_test, keep_line, keep_reader, kept_at, separator, member_step, risen, member_reader, members_at, dual_test, dual_head, dual_line_at, dual_reader, duals_at}
use Rattle.format_plan.specs.Plan.{PrintedPlan, claims_at, plan_lines_at, plan_at}

-- What P3's plan says.
p3 : PrintedPlan
p3 =
    record {
      claims = record { terminals = 2; cost = 7; bound = 14; rounds = 2 };
      kept = 0 ∷ 1 ∷ [];
      duals = record { value = 6; members = 0 ∷ [] } ∷ record { value = 7; members = 2 ∷ [] } ∷ record { value = 1; members = 0 ∷ 1 ∷ [] } ∷ [];
    }

p3_said : plan_at (ascii "sites=2\ncost=7\nbound=14\nrounds=2\nkeep=0\nkeep=1\nmoat=6:0\nmoat=7:2\nmoat=1:0,1\n") 2 0 ≡ found p3 76
unfolding refuse_if ◌before◌ terminals_key cost_key bound_key rounds_key kept_key dual_key ◌then◌ checked lines_after class_of is_digit byte_is fixed_at digits_end
    numeral_end numeral_at spelled_after number_at number_to following items_from number_line claims_at kept_test keep_line keep_reader kept_at separator member_step risen
    member_reader members_at dual_test dual_head dual_line_at dual_reader duals_at plan_lines_at plan_at p3
p3_said = refl

pub p3_read_back : plan_at
    (plan_text 2 7 14 2 (2 ∷ 2 ∷ []) (record_of 6 (λ v. eqb v 0) ++ record_of 7 (λ v. eqb v 2) ++ record_of 1 (λ v. eqb v 0 || eqb v 1)))
    2
    0 ≡ found
    (record {
      claims = record { terminals = 2; cost = 7; bound = 14; rounds = 2 };
      kept = 0 ∷ 1 ∷ [];
      duals = record { value = 6; members = 0 ∷ [] } ∷ record { value = 7; members = 2 ∷ [] } ∷ record { value = 1; members = 0 ∷ 1 ∷ [] } ∷ [];
    })
    76
unfolding p3
p3_read_back = ap (λ t. plan_at t 2 0) p3_printed ∙ p3_said
