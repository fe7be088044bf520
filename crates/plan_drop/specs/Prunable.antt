-- What the batches of pruning ask.
use Rattle.std.specs.Prelude.{ℕ, ◌≤◌, List, [], length}
use Rattle.theory_graph.specs.Path.{Forest}
use Rattle.base_limits.specs.Limits.{max_vertices, max_edges}
use Rattle.theory_steiner.specs.Problem.{Problem, Sound, Joins, Bounded}
use Rattle.survey_core.specs.Survey.{survey_from, problem_of}
use Rattle.survey_components.specs.Labels.{picked_in}

-- The problem of a survey whatever its weights: which edges are needed does not depend on them.
abbrev pub unweighted : (groups firsts seconds : List ℕ) → Problem
unweighted groups firsts seconds = problem_of (survey_from groups firsts seconds [])

-- Picked edges of a survey within the limits.
pub record Picks (groups firsts seconds picked : List ℕ) : Type 0 where
  pub few : length groups ≤ max_vertices
  pub edges_few : length firsts ≤ max_edges
  pub sound : Sound (unweighted groups firsts seconds)
  pub bounded : Bounded (unweighted groups firsts seconds) (picked_in picked)

-- A forest of surveyed edges that joins every required pair.
pub record Prunable (groups firsts seconds picked : List ℕ) : Type 0 where
  pub few : length groups ≤ max_vertices
  pub edges_few : length firsts ≤ max_edges
  pub sound : Sound (unweighted groups firsts seconds)
  pub bounded : Bounded (unweighted groups firsts seconds) (picked_in picked)
  pub joins : Joins (unweighted groups firsts seconds) (picked_in picked)
  pub forest : Forest (unweighted groups firsts seconds).first (unweighted groups firsts seconds).second (picked_in picked)
