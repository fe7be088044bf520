-- `put_members`: what is written so far are the members below v; a byte that is passed over has none.
use Prim.Native.Nat.{◌*◌, ◌%◌, ◌≤◌}
use native.Mathlib.Omega.{arith}
use mathlib.Core.Path.{◌≡◌, ap, sym, ◌∙◌}
use lib.ListN.{length}
use Rattle.base_finite.specs.Below.{those_below}
use Rattle.base_limits.specs.Limits.{member_bytes}
use Rattle.format_record.specs.Record.{member_in}
use Rattle.format_write.specs.Text.{listed, members_of}
use Rattle.format_write.specs.Wrote.{farthest, is_none}
use Rattle.format_write.proofs.Laws.Members.{begins_zero_none, those_past}
use Rattle.format_write.proofs.Laws.Text.{members_none, none_none, members_next, none_next}
use Rattle.format_write.proofs.Laws.Wrote.{wrote_none, wrote_then, wrote_as}
use Rattle.format_print.proofs.put_dual.put_members.Goals as goal

pub loop-v-init : goal.loop-v-init
loop-v-init c =
    let a = c.args in
    let t = member_in a.part.now in
    (omega arith, wrote_as (wrote_none a.out.now a.at) (sym (members_none t)), sym (none_none t))

-- a byte of 0 is passed over
pub loop-v-preserved-then-begins_zero : goal.loop-v-preserved-then-begins_zero
loop-v-preserved-then-begins_zero c =
    let part = c.args.part.now in
    let byte = begins_zero_none part c.loop-v.v (sym c.begins_zero.ensures ∙ c.if-begins_zero.true) in
    let begins : c.loop-v.v % 8 ≡ 0 = byte.begins in
    let none = sym (those_past 8 c.loop-v.v (member_in part) byte.none) in
    (omega arith, wrote_as c.loop-v.invariant.1 (ap listed none), c.loop-v.invariant.2 ∙ ap is_none none)

-- v is written if it is a member
pub loop-v-preserved : goal.loop-v-preserved
loop-v-preserved c =
    let a = c.args in
    let t = member_in a.part.now in
    let small : length a.out.now ≤ farthest = omega arith in (
      omega arith,
      wrote_as (wrote_then small c.loop-v.invariant.1 c.put_member-list.ensures.fact) (members_next t c.loop-v.v c.loop-v.invariant.2),
      none_next t c.loop-v.v c.loop-v.invariant.2 c.put_member-list.ensures.first_value,
    )

pub returns : goal.returns
unfolding members_of
returns c =
    let all : c.loop-v.v ≡ 8 * member_bytes = omega arith in
    wrote_as c.loop-v.invariant.1 (ap (λ n. listed (those_below n (member_in c.args.part.now))) all)

pub loop-v-smaller-then-begins_zero : goal.loop-v-smaller-then-begins_zero
loop-v-smaller-then-begins_zero c = omega arith

pub loop-v-smaller : goal.loop-v-smaller
loop-v-smaller c = omega arith
