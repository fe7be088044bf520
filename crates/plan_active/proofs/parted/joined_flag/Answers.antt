-- `joined_flag` meets its contract: the two vertices first, then the list.
use mathlib.Core.Path.{sym, ◌∙◌}
use Rattle.base_finite.specs.Laws.Below.{counted_true, counted_false}
use Rattle.plan_active.specs.Laws.Merged.{flag_first, flag_second, flag_all}
use Rattle.plan_active.proofs.parted.joined_flag.Goals as goal

-- the first is parted
pub returns-then-is_parted : goal.returns-then-is_parted
returns-then-is_parted c =
    let args = c.args in
    let x = c.at-x.ensures in
    let y = c.at-y.ensures in
    flag_first args.mates.now args.labels.now args.members.now args.count args.first args.second x y c.is_parted.ensures c.if-is_parted.true

-- the second is
pub returns-then-is_parted-2 : goal.returns-then-is_parted-2
returns-then-is_parted-2 c =
    let args = c.args in
    let x = c.at-x.ensures in
    let y = c.at-y.ensures in
    flag_second args.mates.now args.labels.now args.members.now args.count args.first args.second x y c.is_parted.ensures c.is_parted-2.ensures
    c.if-is_parted.false
    c.if-is_parted-2.true

-- a listed vertex is
pub returns-then-is_any_parted : goal.returns-then-is_any_parted
returns-then-is_any_parted c =
    let args = c.args in
    let x = c.at-x.ensures in
    let y = c.at-y.ensures in
    sym (counted_true c.if-is_any_parted.true 1)
    ∙ flag_all args.mates.now args.labels.now args.members.now args.count args.first args.second x y c.is_parted.ensures
    c.is_parted-2.ensures
    c.if-is_parted.false
    c.is_any_parted.ensures
    c.if-is_parted-2.false

-- none is
pub returns : goal.returns
returns c =
    let args = c.args in
    let x = c.at-x.ensures in
    let y = c.at-y.ensures in
    sym (counted_false c.if-is_any_parted.false 1)
    ∙ flag_all args.mates.now args.labels.now args.members.now args.count args.first args.second x y c.is_parted.ensures
    c.is_parted-2.ensures
    c.if-is_parted.false
    c.is_any_parted.ensures
    c.if-is_parted-2.false
