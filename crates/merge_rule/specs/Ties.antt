-- Ties between two surveys (document 02, No. 9), 'each a junction of the first and the one of the second at the same place',
-- and where the junctions of the second come to stand in the result.
use Rattle.std.specs.Prelude.{ℕ, ◌+◌, Bool, cond, not, List, length, get_or, eqb}
use Rattle.base_finite.specs.Below.{any_below, count_below}
use Rattle.theory_route.specs.First.{first_below}

-- Tie i is junction `firsts` i of the first and `seconds` i of the second. There are as many ties as firsts.
pub record Ties : Type 0 where
  pub firsts : List ℕ
  pub seconds : List ℕ

abbrev pub ties_from : (firsts seconds : List ℕ) → Ties
ties_from firsts seconds = record { firsts = firsts; seconds = seconds }

-- One of the first k ties names v on this side.
unfoldable pub is_tied_below : (side : List ℕ) → (k v : ℕ) → Bool
is_tied_below side k v = any_below k (λ i. eqb (get_or side i 0) v)

-- v is tied on this side; and the lowest tie that names it.
unfoldable pub is_tied : (side : List ℕ) → (v : ℕ) → Bool
is_tied side v = is_tied_below side (length side) v

unfoldable pub tie_of : (side : List ℕ) → (v : ℕ) → ℕ
tie_of side v = first_below (length side) (λ i. eqb (get_or side i 0) v)

-- A junction of the second that is not tied.
unfoldable pub is_untied : Ties → (v : ℕ) → Bool
is_untied ties v = not (is_tied ties.seconds v)

-- 'Junctions of the first keep their numbers, the untied ones of the second follow, rising': where junction v of the second stands, if the first has n.
-- A tied one stands where the junction of the first that it is tied to does.
unfoldable pub placed : (n : ℕ) → Ties → (v : ℕ) → ℕ
placed n ties v =
    cond (is_tied ties.seconds v)
    (get_or ties.firsts (tie_of ties.seconds v) 0)
    (n + count_below v (is_untied ties))

-- 'Junctions of the first .., the untied ones of the second': how many the result has, if the first has n and the second m (law `merged_count_law`: n + m less
-- one for each tie).
unfoldable pub merged_count : (n m : ℕ) → Ties → ℕ
merged_count n m ties = n + count_below m (is_untied ties)

-- 'at the same place': the junction of the second that stands at w of the result; m where none does.
unfoldable pub standing_at : (n m : ℕ) → Ties → (w : ℕ) → ℕ
standing_at n m ties w = first_below m (λ v. eqb (placed n ties v) w)
