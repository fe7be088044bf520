-- `capped_time` meets its contract: the lower of the time and the last before the limit.
use Rattle.std.proofs.Common.{arith, refl, ltb, Bool, true, false, cond, ℕ, ◌≡◌, ◌-◌, ◌∙◌, min}
use borrow.Author.Tests.{ltb-true, ltb-false}
use Rattle.plan_search.specs.Scan.{capped_time, time_limit}
use Rattle.plan_search.proofs.limit.capped_time.Goals as goal

min_capped : (time : ℕ) → min time (time_limit - 1) ≡ capped_time time
unfolding capped_time
min_capped time = by (ltb time time_limit) refl
  where
    by : (t : Bool) → ltb time time_limit ≡ t → min time (time_limit - 1) ≡ cond t time (time_limit - 1)
    by true h = let l = ltb-true time time_limit h in omega arith
    by false h = let l = ltb-false time time_limit h in omega arith

pub returns : goal.returns
returns c = c.min.ensures ∙ min_capped c.args.time
