-- When a plan is the cheapest (document 02, No. 14), in words of the survey: what a finished plan is with exactly two
-- sites, and with all junctions in one list. Nothing is asked of the prices, so that ties and prices of 0 are in.
-- Laws/Exact proves it of every call.
use Rattle.std.specs.Prelude.{ℕ, ◌*◌, ◌<◌, ◌≡◌, true, List}
use Rattle.theory_steiner.specs.Spanning.{taken}
use Rattle.theory_route.specs.Cheapest.{route_cost, CheapestRoute, TwoTerminals}
use Rattle.survey_core.specs.Survey.{Survey, vertex_count, member, problem_of}
use Rattle.survey_components.specs.Labels.{picked_in}
use Rattle.check_rule.specs.Check.{kept_by}
use Rattle.check_rule.specs.Exact.{NoneCheaper, shows_cheapest}
use Rattle.plan_rule.specs.Plan.{PlanCounts}

-- Two sites (document 02, No. 14, its first claim): these marks keep a cheapest route, and these figures show it.
pub record RouteKept (s : Survey) (marks : List ℕ) (c : PlanCounts) : Type 0 where
  -- the two sites; no other junction is one
  pub sites : TwoTerminals (problem_of s)
  -- the kept tracks are those of one route between them and no more, and no route between them by surveyed tracks
  -- costs less
  pub route : CheapestRoute (problem_of s) (kept_by marks) sites.low sites.high
  pub route_cost_law : c.cost ≡ route_cost (problem_of s) route.edges
  pub none_cheaper : NoneCheaper s c.cost
  pub bound_twice : c.bound ≡ 2 * c.cost

-- List g holds every junction, each by its own group or by a pair; other lists do not matter.
abbrev pub HoldsAll : Survey → ℕ → Type 0
HoldsAll s g = (v : ℕ) → v < vertex_count s → member s g v ≡ true

-- One list of all junctions (its second claim): nothing that joins them is cheaper; picked, and kept, is each track
-- that joins two parts when they are looked at by price, then number.
pub record TakenKept (s : Survey) (marks : List ℕ) (c : PlanCounts) : Type 0 where
  pub none_cheaper : NoneCheaper s c.cost
  pub picked_taken : (e : ℕ) → picked_in marks e ≡ taken (problem_of s) e
  pub kept_taken : (e : ℕ) → kept_by marks e ≡ taken (problem_of s) e

-- A finished plan with these marks and figures.
pub record Exact (s : Survey) (marks : List ℕ) (c : PlanCounts) : Type 0 where
  pub two_sites : c.terminals ≡ 2 → RouteKept s marks c
  pub one_list : (g : ℕ) → HoldsAll s g → TakenKept s marks c
  -- and whatever the lists are: where twice the cost is at most the bound, nothing is cheaper
  pub by_figures : shows_cheapest c.cost c.bound ≡ true → NoneCheaper s c.cost
