-- The printout of document 01 ('Survey text and printed plan'), a moat line with no member, and the longest, by computation.
use Rattle.std.specs.Prelude.{◌≡◌, refl, ◌-◌, ◌^◌, true, false, ◌||◌, [], ◌∷◌, ◌++◌, eqb, length}
use Rattle.base_finite.specs.Below.{counted, sum_below, those_below, tabulate}
use Rattle.base_limits.specs.Limits.{longest_dual}
use Rattle.format_record.specs.Bits.{bit_at, byte_of, bytes_of, member_at, low_bytes, number_of}
use Rattle.format_record.specs.Record.{record_of, value_in, member_in, record_at}
use Rattle.format_write.specs.Key.{ascii, terminals_key, cost_key, bound_key, rounds_key, kept_key, dual_key}
use Rattle.format_write.specs.Decimal.{digits_within, decimal}
use Rattle.format_write.specs.Text.{line_of, listed, members_of, dual_line, text_below, kept_line, kept_lines, dual_lines, count_lines, plan_text}

-- P3's plan: k, cost, bound, rounds, marks, moats.
pub p3_printed : plan_text
    2
    7
    14
    2
    (2 ∷ 2 ∷ [])
    (record_of 6 (λ v. eqb v 0) ++ record_of 7 (λ v. eqb v 2) ++ record_of 1 (λ v. eqb v 0 || eqb v 1)) ≡ ascii
    "sites=2\ncost=7\nbound=14\nrounds=2\nkeep=0\nkeep=1\nmoat=6:0\nmoat=7:2\nmoat=1:0,1\n"
unfolding counted sum_below those_below tabulate bit_at byte_of bytes_of member_at low_bytes number_of record_of value_in member_in record_at terminals_key cost_key
    bound_key rounds_key kept_key dual_key digits_within decimal line_of listed members_of dual_line text_below kept_line kept_lines dual_lines count_lines plan_text
p3_printed = refl

pub no_member_printed : dual_line (record_of 200000000 (λ v. false)) ≡ ascii "moat=200000000:\n"
unfolding counted sum_below those_below tabulate bit_at byte_of bytes_of member_at low_bytes number_of record_of value_in member_in dual_key digits_within decimal
    listed members_of dual_line
no_member_printed = refl

-- The largest amount that eight bytes hold, and every member.
pub longest_printed : length (dual_line (record_of (2 ^ 64 - 1) (λ v. true))) ≡ longest_dual
unfolding counted sum_below those_below tabulate bit_at byte_of bytes_of member_at low_bytes number_of record_of value_in member_in dual_key digits_within decimal
    listed members_of dual_line
longest_printed = refl
