-- `format_plan::duals::fill_record` meets its contract: a record that is started and gets its members is that of the moat.
use mathlib.Core.Path.{ap, ◌∙◌}
use Rattle.format_read.specs.Items.{puts}
use Rattle.format_plan.specs.Lines.{put_member, members_at}
use Rattle.format_plan.proofs.Laws.Lines.{record_filled}
use Rattle.format_plan.proofs.duals.fill_record.Goals as goal

pub returns : goal.returns
returns c =
    let a = c.args in
    let vs = (members_at a.text.now a.list.at).values in
    c.members.ensures.stored ∙ ap (λ l. puts put_member l 0 vs) c.start_record.ensures ∙ record_filled a.part.now a.amount vs c.requires.0 c.requires.1
