-- Why a track is marked as it is (document 02, No. 3).
use Rattle.std.specs.Prelude.{ℕ, suc, Bool, ◌&&◌, not, cond, List, eqb, ltb}
use Rattle.base_finite.specs.Below.{any_below}
use Rattle.base_limits.specs.declared.Verdict.{Verdict}
use Rattle.base_limits.specs.declared.Verdict.TheVariants.{Fine, Refused}
use Rattle.theory_graph.specs.Path.{without}
use Rattle.theory_steiner.specs.Problem.{Problem}
use Rattle.theory_steiner.specs.Growth.{state_at, grown}
use Rattle.theory_steiner.specs.Pruning.{picked, kept}
use Rattle.theory_route.specs.First.{first_below}
use Rattle.theory_route.specs.Route.{route_of}
use Rattle.survey_core.specs.Survey.{Survey, vertex_count, member, problem_of, components_of}
use Rattle.survey_core.specs.Refusal.{group_refusal}

-- A kept track: the lowest list parted without it, the lowest pair of its members so parted, the kept route between them. A dropped one: no list needs it. One that was
-- not picked: the round after which its ends were first in one component, 0 where they never were.
pub data Reason : Type 0 where
  needs : (group low high : ℕ) → (route : List ℕ) → Reason
  spared : Reason
  passed : (round : ℕ) → Reason

-- ---- kept

-- The picked tracks but this one.
abbrev pub others : Survey → (e : ℕ) → ℕ → Bool
others s e = without (picked (problem_of s)) e

unfoldable pub place_of : Verdict → ℕ
place_of Fine = 0
place_of (Refused number place) = place

-- The lowest list that they do not join.
unfoldable pub parted_list : Survey → (e : ℕ) → ℕ
parted_list s e = place_of (group_refusal s 0 (others s e))

-- Members u and v of list g have different labels.
unfoldable pub is_parted : Survey → (label : ℕ → ℕ) → (g u v : ℕ) → Bool
is_parted s label g u v = member s g u && (member s g v && not (eqb (label u) (label v)))

-- The lowest member that is parted from another, and the lowest that is parted from it (law `lowest_pair`).
unfoldable pub low_member : Survey → (label : ℕ → ℕ) → (g : ℕ) → ℕ
low_member s label g = first_below (vertex_count s) (λ u. any_below (vertex_count s) (is_parted s label g u))

unfoldable pub high_member : Survey → (label : ℕ → ℕ) → (g : ℕ) → ℕ
high_member s label g = first_below (vertex_count s) (is_parted s label g (low_member s label g))

unfoldable pub kept_reason : Survey → (e : ℕ) → Reason
kept_reason s e =
    let g = parted_list s e in
    let label = components_of s (others s e) in
    let low = low_member s label g in
    let high = high_member s label g in
    needs g low high (route_of (problem_of s) (kept (problem_of s)) low high)

-- ---- not picked

-- After r rounds the ends of edge e are in one component.
unfoldable pub joined_after : Problem → (e r : ℕ) → Bool
joined_after p e r = eqb ((state_at p r).label (p.first e)) ((state_at p r).label (p.second e))

-- The first of the numbers below n that passes, 0 where none does.
unfoldable pub first_or_zero : (n : ℕ) → (ℕ → Bool) → ℕ
first_or_zero n t = cond (ltb (first_below n t) n) (first_below n t) 0

-- The round after which this is so for the first time. Before the first round it is not, since the ends differ: 0 says never.
unfoldable pub round_of : Problem → (e : ℕ) → ℕ
round_of p e = first_or_zero (suc (grown p).rounds) (joined_after p e)

-- ---- the reason

unfoldable pub reason_of : Survey → (e : ℕ) → Reason
reason_of s e = cond (kept (problem_of s) e) (kept_reason s e) (cond (picked (problem_of s) e) spared (passed (round_of (problem_of s) e)))
