-- Problems that differ in what they require alone (document 02, No. 2: lists, and lists that share a member poured together).
use Rattle.std.specs.Prelude.{ℕ, ◌<◌, ◌≡◌, Bool, true}
use Rattle.base_finite.specs.Below.{tabulate}
use Rattle.theory_steiner.specs.Problem.{Problem, terminals, cost}
use Rattle.theory_steiner.specs.Growth.{grown}
use Rattle.theory_steiner.specs.Dual.{duals_of}
use Rattle.theory_steiner.specs.Pruning.{kept, mark, dual_bound}

-- p with another requirement.
abbrev pub requiring : Problem → (ℕ → ℕ → Bool) → Problem
requiring p r =
    record {
      vertices = p.vertices;
      edges = p.edges;
      first = p.first;
      second = p.second;
      weight = p.weight;
      usable = p.usable;
      required = r;
    }

-- A chain of required pairs leads from u to w.
pub data Chain (p : Problem) : ℕ → ℕ → Type 0 where
  one : {u v : ℕ} → u < p.vertices → v < p.vertices → p.required u v ≡ true → Chain p u v
  more : {u v w : ℕ} → u < p.vertices → v < p.vertices → p.required u v ≡ true → Chain p v w → Chain p u w

-- Two problems have one plan: everything that document 01 has planning answer and draw.
pub record SamePlan (p q : Problem) : Type 0 where
  pub same_terminals : terminals p ≡ terminals q
  pub same_cost : cost p (kept p) ≡ cost q (kept q)
  pub same_bound : dual_bound p (grown p) ≡ dual_bound q (grown q)
  pub same_rounds : (grown p).rounds ≡ (grown q).rounds
  pub same_marks_law : tabulate p.edges (mark p) ≡ tabulate q.edges (mark q)
  pub same_duals : duals_of p (grown p) ≡ duals_of q (grown q)
