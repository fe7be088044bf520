-- `write_counts` meets its contract: one count after the other, where all have room.
use native.Mathlib.Omega.{arith}
use mathlib.Core.Path.{refl}
use borrow.Author.Rules.{rules}
use Rattle.api_handset.proofs.Laws.Words.{writing_start, writing_turn, writing_end, unwritten}
use Rattle.api_handset.proofs.counts.write_counts.Goals as goal

-- no room
pub returns-then-res-counts : goal.returns-then-res-counts
returns-then-res-counts c = unwritten _ _ c.if-res-counts.true

pub loop-i-init : goal.loop-i-init
loop-i-init c = writing_start _ _ c.if-res-counts.false

pub overflow_mul-i : goal.overflow_mul-i
overflow_mul-i c =
    let held = c.loop-i.invariant.holds in
    let more = c.loop-i-test.true in
    search (rules, held, more)

pub write_figure-requires : goal.write_figure-requires
write_figure-requires c =
    let held = c.loop-i.invariant.holds in
    let long = c.loop-i.invariant.long in
    let more = c.loop-i-test.true in
    omega (arith, held, long, more)

pub loop-i-preserved : goal.loop-i-preserved
loop-i-preserved c =
    writing_turn _ _ c.loop-i.invariant c.loop-i-test.true refl c.write_figure.ensures

pub returns : goal.returns
returns c = writing_end _ _ c.loop-i.invariant c.loop-i-test.false

pub shape_of-res : goal.shape_of-res
shape_of-res c = c.loop-i.invariant.long
