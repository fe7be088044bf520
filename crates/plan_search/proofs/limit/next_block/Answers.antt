-- `next_block` meets its contract: what is found from b on is what is found from the start.
use mathlib.Core.Path.{◌≡◌, sym, ◌∙◌}
use Rattle.plan_search.proofs.Laws.Loops.{next_here, next_on, next_end}
use native.Mathlib.Omega.{arith}
use Rattle.plan_search.proofs.limit.next_block.Goals as goal

pub returns-then-at-limit : goal.returns-then-at-limit
returns-then-at-limit c =
    let below = c.if-at-limit.true in
    let read = c.at.ensures in
    sym (c.loop-b.invariant.1 ∙ next_here _ _ _ _ c.loop-b-test.true (omega arith))

pub loop-b-preserved : goal.loop-b-preserved
loop-b-preserved c =
    let above = c.if-at-limit.false in
    let read = c.at.ensures in
    (omega arith, c.loop-b.invariant.1 ∙ next_on _ _ _ _ c.loop-b-test.true (omega arith))

pub returns : goal.returns
returns c =
    let upto = c.loop-b.invariant.0 in
    let past : c.max.result ≡ c.loop-b.b = omega (arith, c.max.ensures) in
    past ∙ sym (c.loop-b.invariant.1 ∙ next_end _ _ _ _ c.loop-b-test.false)
