-- `report_in` meets its contract: number by number.
use Rattle.api_season.specs.Laws.Bytes.{report_read}
use Rattle.api_season.proofs.bytes.report_in.Goals as goal

pub returns : goal.returns
returns c =
    report_read _
    c.figure-4.ensures
    c.figure-5.ensures
    c.figure-6.ensures
    c.figure-7.ensures
    c.refusals-refused.ensures
    c.figure.ensures
    c.figure-2.ensures
    c.figure-3.ensures
    c.far_in-farthest.ensures
