-- `format_also::put_pairs` meets its contract: what is written so far are the lines of the pairs below i.
use Prim.Native.Nat.{◌≤◌}
use native.Mathlib.Omega.{arith}
use mathlib.Core.Path.{◌≡◌, ap, ◌∙◌}
use mathlib.Core.List.{◌++◌}
use lib.ListN.{length}
use Rattle.base_finite.specs.Below.{tabulate}
use Rattle.format_write.specs.Wrote.{farthest}
use Rattle.format_write.proofs.Laws.Wrote.{wrote_none, wrote_then, wrote_as}
use Rattle.format_also.specs.Pair.{pair_of}
use Rattle.format_also.specs.Render.{pair_text, pairs_text, pair_in, pairs_from}
use Rattle.format_also.specs.Laws.Render.{table_none, table_more}
use Rattle.format_also.proofs.print.put_pairs.Goals as goal

pub loop-i-init : goal.loop-i-init
loop-i-init c = let a = c.args in wrote_as (wrote_none a.out.now a.at) (table_none (pair_in a.owners.now a.others.now))

pub loop-i-preserved : goal.loop-i-preserved
loop-i-preserved c =
    let a = c.args in
    let small : length a.out.now ≤ farthest = omega arith in
    let here : pair_of c.from-owner.result c.from-other.result ≡ pair_in a.owners.now a.others.now c.loop-i.i =
    rw (c.from-owner.ensures, c.from-other.ensures, c.at.ensures) in
    wrote_as (wrote_then small c.loop-i.invariant c.put_pair-next.ensures)
    (ap (λ x. pairs_text (tabulate c.loop-i.i (pair_in a.owners.now a.others.now)) ++ pair_text x) here ∙ table_more (pair_in a.owners.now a.others.now) c.loop-i.i)

pub returns : goal.returns
unfolding pairs_from
returns c =
    let a = c.args in
    let all : c.loop-i.i ≡ length a.owners.now = omega arith in
    wrote_as c.loop-i.invariant (ap (λ n. pairs_text (tabulate n (pair_in a.owners.now a.others.now))) all)
