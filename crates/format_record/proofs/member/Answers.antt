-- `member`: the member bytes start after the value.
use Prim.Native.Nat.{◌/◌, ◌%◌}
use mathlib.Core.Path.{ap, sym, ◌∙◌}
use lib.Seq.{get_or-drop}
use Rattle.format_record.specs.Bits.{bit_at, member_at}
use Rattle.format_record.specs.Record.{member_in}
use Rattle.format_record.proofs.member.Goals as goal

pub returns : goal.returns
unfolding member_in member_at
returns c =
    let a = c.args in
    c.bit.ensures
    ∙ ap (λ b. bit_at b (a.v % 8)) (c.at.ensures ∙ sym (get_or-drop 8 a.part.now (a.v / 8) 0))
