-- `print_floor` meets its contract: refused by the measured text, or printed.
use Prim.Native.Nat.{◌<◌}
use native.Mathlib.Omega.{arith}
use mathlib.Core.List.{◌++◌}
use lib.ListN.{length}
use Rattle.format_write.specs.Wrote.{farthest}
use Rattle.format_write.specs.Key.{cost_key}
use Rattle.format_write.specs.Text.{line_of}
use Rattle.format_print.specs.Laws.Print.{short_prints, fit_prints}
use Rattle.text_floor.specs.Output.{floor_key, gap_key}
use Rattle.text_floor.proofs.Laws.Output.{printed_as, gap_lines}
use Rattle.text_floor.proofs.print.print_floor.Goals as goal

pub gap_of-gap-requires : goal.gap_of-gap-requires
gap_of-gap-requires c = record { floor_le_cost = c.requires.floor_le_cost; cost_le_max_cost = c.requires.cost_le_max_cost }

-- 7: the buffer is short
pub returns-then-out-need : goal.returns-then-out-need
returns-then-out-need c =
    let a = c.args in
    let gap = c.gap_of-gap.result in
    let small : length a.out.now < farthest = omega arith in
    let p = short_prints (line_of floor_key a.floor ++ line_of cost_key a.cost ++ line_of gap_key gap) a.out.now small c.put_floor-need.ensures c.if-out-need.true in
    let whole = printed_as a.out.now (gap_lines a.floor a.cost c.gap_of-gap.ensures) (p.answers, p.leaves) in record { value = whole.0; out_value = whole.1 }

-- printed
pub returns : goal.returns
returns c =
    let a = c.args in
    let gap = c.gap_of-gap.result in
    let small : length a.out.now < farthest = omega arith in
    let p =
    fit_prints (line_of floor_key a.floor ++ line_of cost_key a.cost ++ line_of gap_key gap) a.out.now small c.put_floor-need.ensures c.if-out-need.false c.put_floor.ensures in
    let whole = printed_as a.out.now (gap_lines a.floor a.cost c.gap_of-gap.ensures) (p.answers, p.leaves) in record { value = whole.0; out_value = whole.1 }
