-- `put_members`: what is written so far are the members below v; a byte that is passed over has none.
use Prim.Native.Nat.{◌*◌, ◌-◌, ◌≤◌}
use mathlib.Core.Path.{◌≡◌}
use Rattle.base_finite.specs.Below.{those_below}
use Rattle.base_limits.specs.Limits.{member_bytes}
use Rattle.format_record.specs.Record.{member_in}
use Rattle.format_write.specs.Text.{listed}
use Rattle.format_write.specs.Wrote.{Wrote, is_none}
use Rattle.format_print.proofs.put_dual.put_members.Given as goal

abbrev pub invariant-loop-v : goal.invariant-loop-v
invariant-loop-v l =
    (l.v ≤ 8 * member_bytes)
    × Wrote l.initial.out l.at (listed (those_below l.v (member_in l.part))) l.out l.list.at
    × (l.list.first ≡ is_none (those_below l.v (member_in l.part)))

abbrev pub decreases-loop-v : goal.decreases-loop-v
decreases-loop-v l = 8 * member_bytes - l.v
