-- `put_member`: nothing where v is no member.
use mathlib.Core.Path.{◌≡◌, sym, ◌∙◌}
use Rattle.format_write.proofs.Laws.Wrote.{wrote_none, wrote_as}
use mathlib.Core.Bool.{true, false}
use Rattle.format_record.specs.Record.{member_in}
use Rattle.format_write.proofs.Laws.Text.{member_here, member_not, and_not_true, and_not_false}
use Rattle.format_print.proofs.put_dual.put_member.Goals as goal

pub returns-then-not-member : goal.returns-then-not-member
returns-then-not-member c =
    let a = c.args in
    let absent : member_in a.part.now a.v ≡ false = sym c.member.ensures ∙ c.if-not-member.true in
    record { fact = wrote_as (wrote_none a.out.now a.list.at) (member_not a.list.first a.v absent); first_value = and_not_false a.list.first absent }

pub returns : goal.returns
returns c =
    let a = c.args in
    let here : member_in a.part.now a.v ≡ true = sym c.member.ensures ∙ c.if-not-member.false in
    record { fact = wrote_as c.put_item-next.ensures (member_here a.list.first a.v here); first_value = and_not_true a.list.first here }
