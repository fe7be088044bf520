-- `total` meets its contract: a sum of limited shares.
use Prim.Native.Nat.{ℕ, zero, suc, ◌+◌, ◌^◌, ◌≤◌, ◌<◌}
use native.Mathlib.Omega.{arith}
use mathlib.Core.Path.{◌≡◌, refl, ap, sym, ◌∙◌}
use mathlib.Core.List.{List}
use Rattle.std.proofs.Common.{length, get_or, take, sum, add-one, rules}
use Rattle.std.proofs.Math.Seq.{take-length}
use Rattle.std.proofs.lemmas.List.Sums.{sum_by_more}
use Rattle.base_finite.specs.Below.{sum_below}
use Rattle.base_finite.specs.Laws.Below.{sum_suc, sum_limit}
use Rattle.base_limits.specs.Limits.{group_numbers}
use Rattle.floor_rule.specs.Ascent.{max_cost}
use Rattle.floor_core.proofs.shares.total.Goals as goal

module _ (xs : List ℕ) where
  front : (i : ℕ) → i ≤ length xs → sum (take i xs) ≡ sum_below i (λ l. get_or xs l 0)
  unfolding sum_below
  front zero b = refl
  front (suc i) b =
      ap (λ n. sum (take n xs)) (sym (add-one i)) ∙ sum_by_more (λ x. x) xs i 0 (omega arith)
      ∙ ap (λ s. s + get_or xs i 0) (front i (omega arith)) ∙ sym (sum_suc i (λ l. get_or xs l 0))

  whole : length xs ≡ group_numbers → sum xs ≡ sum_below group_numbers (λ l. get_or xs l 0)
  whole long = ap sum (sym (take-length xs)) ∙ front (length xs) (omega arith) ∙ ap (λ n. sum_below n (λ l. get_or xs l 0)) long

pub sum-requires-clause-fits : goal.sum-requires-clause-fits
sum-requires-clause-fits c =
    let share = c.args.share.now in
    let fits : sum share < 2 ^ 64 = omega (arith, whole share c.told-share, sum_limit group_numbers max_cost (λ l. get_or share l 0) c.requires) in
    search (rules, fits)

pub returns : goal.returns
returns c =
    let all : c.sum.result ≡ sum c.args.share.now = search rules in
    all ∙ whole c.args.share.now c.told-share
