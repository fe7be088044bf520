-- `add_member`: a byte stored past the value is stored among the members.
use Prim.Native.Nat.{◌+◌, ◌/◌, ◌%◌}
use mathlib.Core.Path.{ap, sym, ◌∙◌}
use lib.ListN.{get_or, drop, set}
use lib.Seq.{get_or-drop}
use Rattle.format_record.specs.Bits.{with_bit, with_member}
use Rattle.format_record.specs.Record.{with_member_in}
use Rattle.format_record.proofs.Laws.Record.{set_past}
use Rattle.format_record.proofs.add_member.Goals as goal

pub returns : goal.returns
unfolding with_member_in with_member
returns c =
    let a = c.args in
    let r = a.part.now in
    c.put.ensures
    ∙ ap (set r (8 + a.v / 8))
    (c.with_bit.ensures
    ∙ ap (λ b. with_bit b (a.v % 8)) (c.at-old.ensures ∙ sym (get_or-drop 8 r (a.v / 8) 0)))
    ∙ set_past 8 (a.v / 8) (with_bit (get_or (drop 8 r) (a.v / 8) 0) (a.v % 8)) r
