-- `format_read::digits::digits` meets its contract: the digits end inside the text, unless it has ended before them.
use native.Mathlib.Omega.{arith}
use Prim.Native.Nat.{ℕ, ◌-◌}
use mathlib.Core.Path.{sym, ap}
use lib.ListN.{take, drop}
use Rattle.format_read.specs.Number.{numeral_at}
use Rattle.format_read.proofs.Laws.Number.{numeral_range, numeral_past}
use Rattle.format_read.proofs.digits.digits.Goals as goal

pub returns-then-text-end : goal.returns-then-text-end
returns-then-text-end c =
    let a = c.args in
    sym (numeral_past a.text.now a.limit a.at (omega arith))

pub slice_bounds-result-count-2 : goal.slice_bounds-result-count-2
slice_bounds-result-count-2 c = omega (arith, (numeral_range c.args.text.now c.args.limit c.args.at).from)

pub slice_bounds-result-start-2 : goal.slice_bounds-result-start-2
slice_bounds-result-start-2 c = omega (arith, (numeral_range c.args.text.now c.args.limit c.args.at).from)

pub returns : goal.returns
unfolding numeral_at
returns c =
    let a = c.args in
    ap (λ (e : ℕ). take (e - a.at) (drop a.at a.text.now)) c.numeral_end-end.ensures
