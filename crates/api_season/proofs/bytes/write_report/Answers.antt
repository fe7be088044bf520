-- `write_report` meets its contract: three runs of numbers, one behind the other.
use mathlib.Core.Path.{◌≡◌, refl}
use lib.ListN.{length}
use Rattle.std.proofs.Common.{arith}
use Rattle.season_rule.specs.Report.{refusal_numbers}
use Rattle.api_season.specs.Laws.Bytes.{report_stored}
use Rattle.api_season.proofs.bytes.write_report.Goals as goal

pub returns : goal.returns
returns c =
    let long : length c.args.report.refused ≡ refusal_numbers = omega arith in
    report_stored _ c.args.report c.requires refl long c.far_numbers-far.ensures
    c.write_counts.ensures
    c.write_counts-2.ensures
    c.write_counts-3.ensures
