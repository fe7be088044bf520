-- `write_dual` meets its contract: no record for value 0 or without room, else one more.
use mathlib.Core.Path.{refl}
use Rattle.plan_draw.specs.Drawing.{dual_put, count_put}
use Rattle.plan_draw.proofs.Laws.Members.{put_none, put_no_room, put_one}
use native.Mathlib.Omega.{arith}
use Rattle.plan_draw.proofs.append.write_dual.Goals as goal

-- value 0: no record
pub returns-then-x-eq0 : goal.returns-then-x-eq0
unfolding dual_put count_put
returns-then-x-eq0 c =
    let a = c.args in
    let none = put_none a.count a.x a.records.now c.if-x-eq0.true in
    record { count = rw none refl; written = rw none refl }

-- no room
pub returns-then-records-count : goal.returns-then-records-count
unfolding dual_put count_put
returns-then-records-count c =
    let a = c.args in
    let none = put_no_room a.count a.x a.records.now (omega (arith, c.if-x-eq0.false)) (omega (arith, c.if-records-count.true)) in
    record { count = rw none refl; written = rw none refl }

-- one record more
pub returns : goal.returns
unfolding dual_put count_put
returns c =
    let a = c.args in
    let some = put_one a.count a.x a.records.now (omega (arith, c.if-x-eq0.false)) (omega (arith, c.if-records-count.false)) in
    record { count = rw some refl; written = rw some c.put_record.ensures }
