-- The members of a group in the order of their numbers, each with the one before it: its mate. A cut separates a group exactly if it parts some
-- member from its mate (law `separates_mates`), so that one pass over the vertices judges all groups.
use Rattle.std.specs.Prelude.{ℕ, zero, suc, ◌+◌, ◌-◌, cond, List, get_or, set, eqb}
use Rattle.survey_core.specs.Survey.{groups_alone, member}

-- 1 more than the last member of group g below n; 0 where there is none.
unfoldable pub last_below : (groups : List ℕ) → (g n : ℕ) → ℕ
last_below groups g zero = 0
last_below groups g (suc v) = cond (member (groups_alone groups) g v) (v + 1) (last_below groups g v)

-- The member that was noted so, or v where none was.
unfoldable pub mate_by : (last v : ℕ) → ℕ
mate_by last v = cond (eqb last 0) v (last - 1)

-- The member of v's group before v; v itself where it is the first, or in no group.
unfoldable pub mate_of : (groups : List ℕ) → (v : ℕ) → ℕ
mate_of groups v = mate_by (last_below groups (get_or groups v 0) v) v

-- A table of all groups, after vertex v of group g.
unfoldable pub last_in : List ℕ → (g v : ℕ) → List ℕ
last_in table g v = cond (eqb g 0) table (set table g (v + 1))
