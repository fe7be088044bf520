-- `put_count`: a line, or nothing.
use Rattle.format_write.specs.Key.{refused_key}
use Rattle.format_write.proofs.Laws.Wrote.{wrote_none, wrote_as}
use Rattle.season_core.specs.Laws.Lines.{met_line, no_line_law}
use Rattle.season_core.proofs.print.put_count.Goals as goal

-- met
pub returns-then-count-gt0 : goal.returns-then-count-gt0
unfolding refused_key
returns-then-count-gt0 c =
    let a = c.args in
    wrote_as c.put_pair.ensures (met_line a.count a.number c.if-count-gt0.true)

-- not met
pub returns : goal.returns
returns c =
    let a = c.args in
    wrote_as (wrote_none a.out.now a.at) (no_line_law a.count a.number c.if-count-gt0.false)
