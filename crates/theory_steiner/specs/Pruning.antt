-- Dropping what is not needed (source 001, Algorithm 22.3, step 3), and the figures of a plan.
use Rattle.std.specs.Prelude.{ℕ, Bool, true, false, ◌&&◌, not}
use Rattle.base_finite.specs.Below.{sum_below}
use Rattle.theory_graph.specs.Path.{without}
use Rattle.theory_steiner.specs.Problem.{Problem, joined}
use Rattle.theory_steiner.specs.Growth.{State, numbers, grown}

-- Kept of a set F: an edge without which the others of F fail some required pair. All are judged against F itself.
unfoldable pub needed : Problem → (ℕ → Bool) → ℕ → Bool
needed p F e = F e && not (joined p (without F e))

unfoldable pub picked : Problem → ℕ → Bool
picked p = (grown p).picked

unfoldable pub kept : Problem → ℕ → Bool
kept p = needed p (picked p)

-- Document 01, 'What a plan holds': 0 for an edge not picked, 1 for one picked and pruned, 2 for one kept.
unfoldable pub mark_of : Bool → Bool → ℕ
mark_of false k = 0
mark_of true false = 1
mark_of true true = 2

unfoldable pub mark : Problem → ℕ → ℕ
mark p e = mark_of (picked p e) (kept p e)

-- The bound: the sum of all duals, in half units.
unfoldable pub dual_bound : Problem → State → ℕ
dual_bound p s = sum_below (numbers p s) s.value
