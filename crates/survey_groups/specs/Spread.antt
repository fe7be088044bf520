-- How the members of a group lie over the components, found in one pass: nowhere, in one component, or in several.
use Rattle.std.specs.Prelude.{ℕ, zero, suc, ◌+◌, ◌<◌, ◌≡◌, Bool, ◌||◌, cond, List, get_or, set, eqb}
use Rattle.base_finite.specs.Below.{counted}
use Rattle.survey_core.specs.Survey.{Survey, member, vertex_count}

-- 0: no member so far; 1: members with different labels; l + 2: all have label l. This is what one more member makes of it.
unfoldable pub noted : (summary label : ℕ) → ℕ
noted summary label = cond (eqb summary 0 || eqb summary (label + 2)) (label + 2) 1

-- Group g over the vertices below n.
unfoldable pub spread : Survey → (label : ℕ → ℕ) → (g n : ℕ) → ℕ
spread s label g zero = 0
spread s label g (suc v) = cond (member s g v) (noted (spread s label g v) (label v)) (spread s label g v)

-- Members of group g have different labels.
unfoldable pub split : Survey → (label : ℕ → ℕ) → (g : ℕ) → Bool
split s label g = eqb (spread s label g (vertex_count s)) 1

-- A table of all groups, after one more vertex with its group and label.
unfoldable pub noted_in : List ℕ → (g label : ℕ) → List ℕ
noted_in table g label = cond (eqb g 0) table (set table g (noted (get_or table g 0) label))

-- Labels of n vertices that are the two sides of S: 1 inside, 0 outside.
abbrev pub Sides : (S : ℕ → Bool) → (n : ℕ) → (labels : List ℕ) → Type 0
Sides S n labels = (v : ℕ) → v < n → get_or labels v 0 ≡ counted (S v) 1
