-- `put_counts`: what is written so far are the lines of the numbers below k.
use Prim.Native.Nat.{◌≤◌}
use native.Mathlib.Omega.{arith}
use mathlib.Core.Path.{◌≡◌, ap, sym}
use lib.ListN.{length, get_or}
use Rattle.format_write.specs.Text.{text_below}
use Rattle.format_write.specs.Wrote.{farthest}
use Rattle.format_write.proofs.Laws.Wrote.{wrote_none, wrote_length, wrote_then, wrote_as}
use Rattle.format_write.proofs.Laws.Text.{text_none, text_next}
use Rattle.season_rule.specs.Text.{refused_line, refused_lines}
use borrow.Author.Rules.{rules}
use Rattle.season_core.proofs.print.put_counts.Goals as goal

pub loop-k-init : goal.loop-k-init
loop-k-init c =
    let a = c.args in
    (search rules, wrote_as (wrote_none a.out.now a.at) (sym (text_none _)))

pub loop-k-preserved : goal.loop-k-preserved
loop-k-preserved c =
    let a = c.args in
    let small : length a.out.now ≤ farthest = omega arith in (
      omega arith,
      wrote_as (wrote_then small c.loop-k.invariant.1 c.put_count-next.ensures) (text_next (λ i. refused_line (get_or a.counts.now i 0) i) c.loop-k.k),
    )

pub returns : goal.returns
unfolding refused_lines
returns c =
    let counts = c.args.counts.now in
    let all : c.loop-k.k ≡ length counts = omega arith in
    wrote_as c.loop-k.invariant.1 (ap (λ n. text_below n (λ i. refused_line (get_or counts i 0) i)) all)

pub shape_of-out : goal.shape_of-out
shape_of-out c = wrote_length c.loop-k.invariant.1
