-- Problems with one edge closed (document 02, No. 12): it is never a candidate, and all numbers are kept. And with the edge left out, so that
-- every later one has the number before its own.
use Rattle.std.specs.Prelude.{ℕ, suc, ◌-◌, ◌≡◌, cond, ltb}
use Rattle.theory_graph.specs.Path.{without}
use Rattle.theory_steiner.specs.Problem.{Problem, terminals, cost}
use Rattle.theory_steiner.specs.Growth.{State, Winner, nobody, edge, grown}
use Rattle.theory_steiner.specs.Dual.{duals_of}
use Rattle.theory_steiner.specs.Pruning.{kept, mark, dual_bound}

-- p with edge c closed.
abbrev pub closing : Problem → ℕ → Problem
closing p c =
    record {
      vertices = p.vertices;
      edges = p.edges;
      first = p.first;
      second = p.second;
      weight = p.weight;
      usable = without p.usable c;
      required = p.required;
    }

-- The old number of edge e, where c is left out: those from c on stood one higher.
unfoldable pub skipping : ℕ → ℕ → ℕ
skipping c e = cond (ltb e c) e (suc e)

-- p with edge c left out.
abbrev pub omitting : Problem → ℕ → Problem
omitting p c =
    record {
      vertices = p.vertices;
      edges = p.edges - 1;
      first = λ e. p.first (skipping c e);
      second = λ e. p.second (skipping c e);
      weight = λ e. p.weight (skipping c e);
      usable = λ e. p.usable (skipping c e);
      required = p.required;
    }

-- A state's picked edges by their numbers where c is left out.
abbrev pub renumbered : ℕ → State → State
renumbered c s = record { rounds = s.rounds; label = s.label; value = s.value; holds = s.holds; picked = λ e. s.picked (skipping c e) }

-- A winner by its old number.
unfoldable pub old_winner : ℕ → Winner → Winner
old_winner c nobody = nobody
old_winner c (edge e d) = edge (skipping c e) d

-- What planning answers and draws with edge c left out, and with it closed: each mark at the edge's number, and all else the same.
pub record OmittedPlan (p : Problem) (c : ℕ) : Type 0 where
  pub same_terminals : terminals (omitting p c) ≡ terminals (closing p c)
  pub same_cost : cost (omitting p c) (kept (omitting p c)) ≡ cost (closing p c) (kept (closing p c))
  pub same_bound : dual_bound (omitting p c) (grown (omitting p c)) ≡ dual_bound (closing p c) (grown (closing p c))
  pub same_rounds : (grown (omitting p c)).rounds ≡ (grown (closing p c)).rounds
  pub same_marks_law : (e : ℕ) → mark (omitting p c) e ≡ mark (closing p c) (skipping c e)
  pub closed_unmarked : mark (closing p c) c ≡ 0
  pub same_duals : duals_of (omitting p c) (grown (omitting p c)) ≡ duals_of (closing p c) (grown (closing p c))
