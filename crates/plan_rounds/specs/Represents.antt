-- The arrays of a growth, and the state of the definition that they represent between rounds.
use Rattle.std.specs.Prelude.{◌≡◌, ℕ, ◌<◌, ◌≤◌, cond, List, [], length, nat_lt}
use Rattle.base_finite.specs.Below.{counted, tabulate}
use Rattle.base_limits.specs.Limits.{max_vertices, max_edges, max_duals}
use Rattle.theory_steiner.specs.Problem.{Problem}
use Rattle.theory_steiner.specs.Growth.{State, Winner, nobody, edge, active, winner, load, state_at}
use Rattle.survey_core.specs.Survey.{Survey, problem_of}
use Rattle.survey_core.specs.Sound.{SurveySound}
use Rattle.plan_search.specs.Scan.{Keyed, Floored}
use Rattle.plan_active.specs.Flags.{active_flags}
use Rattle.plan_search.specs.Held.{held_value}

-- The edge picked in round r, counted from 0; 0 where there is none.
unfoldable pub winner_edge : Winner → ℕ
winner_edge nobody = 0
winner_edge (edge e d) = e

unfoldable pub pick_at : Problem → ℕ → ℕ
pick_at p r = winner_edge (winner p (state_at p r))

-- The component number of a vertex; places past the vertices keep their own number.
unfoldable pub held_label : Problem → State → (v : ℕ) → ℕ
held_label p s v = cond (nat_lt v p.vertices) (s.label v) v

-- What is held for the load of a vertex, by its component.
unfoldable pub held_load : Problem → State → (time v : ℕ) → ℕ
held_load p s time v = held_value time (active p s.label (s.label v)) (load p s v)

-- The component number of each vertex and what is held for its load, what is held for the value of each component number and 1 where it is active, 1 for each picked edge, the picks
-- in their order, and the keys and floors that the search goes by.
pub record Arrays : Type 0 where
  pub labels : List ℕ
  pub loads : List ℕ
  pub values : List ℕ
  pub picked : List ℕ
  pub order : List ℕ
  pub keys : List ℕ
  pub floors : List ℕ
  pub flags : List ℕ

abbrev pub arrays_from : (labels loads values picked order keys floors flags : List ℕ) → Arrays
arrays_from labels loads values picked order keys floors flags =
    record { labels = labels; loads = loads; values = values; picked = picked; order = order; keys = keys; floors = floors; flags = flags }

-- What holds before each round: r rounds, each with a winner, took so much time, the arrays are those of the definition after them, and no key or floor is too high.
pub record Represents (s : Survey) (r time : ℕ) (a : Arrays) : Type 0 where
  pub sound : SurveySound s
  -- growth is of a survey whose lists are its own groups
  pub plain : s.owners ≡ []
  pub rounds_are : (state_at (problem_of s) r).rounds ≡ r
  pub labels_are : a.labels ≡ tabulate max_vertices (held_label (problem_of s) (state_at (problem_of s) r))
  pub loads_are : a.loads ≡ tabulate max_vertices (λ v. counted (nat_lt v (problem_of s).vertices) (held_load (problem_of s) (state_at (problem_of s) r) time v))
  pub loads_timely : (v : ℕ) → v < (problem_of s).vertices → load (problem_of s) (state_at (problem_of s) r) v ≤ time
  pub values_are : a.values
      ≡ tabulate max_duals (λ c. held_value time (active (problem_of s) (state_at (problem_of s) r).label c) ((state_at (problem_of s) r).value c))
  pub values_timely : (c : ℕ) → (state_at (problem_of s) r).value c ≤ time
  pub picked_are : a.picked ≡ tabulate max_edges (λ e. counted ((state_at (problem_of s) r).picked e) 1)
  pub order_is : a.order ≡ tabulate max_vertices (λ k. counted (nat_lt k r) (pick_at (problem_of s) k))
  pub keyed : Keyed (problem_of s) (state_at (problem_of s) r) time a.keys
  pub floored : Floored (length s.firsts) a.keys a.floors
  pub flags_are : a.flags ≡ active_flags s.groups a.labels
