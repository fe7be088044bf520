-- The picked tracks by themselves (document 02, No. 12). A plan needs no track that it does not pick, so that a survey of the picked ones alone, in their
-- order, has the same plan (law `alone_figures`).
use Rattle.std.specs.Prelude.{ℕ, zero, suc, Bool, cond, List, set}
use Rattle.base_finite.specs.Below.{count_below}
use Rattle.theory_steiner.specs.Closed.{skipping}
use Rattle.theory_steiner.specs.Problem.{Problem}

-- What a loop leaves that stores a number for each e below m behind those of the lower ones of F: in front the numbers of F, one behind the other.
unfoldable pub listed : (F : ℕ → Bool) → (ℕ → ℕ) → (m : ℕ) → List ℕ → List ℕ
listed F f zero l = l
listed F f (suc e) l = set (listed F f e l) (count_below e F) (f e)

-- The old number of edge i, where those below m that are not of F are left out.
unfoldable pub old_number : (F : ℕ → Bool) → (m i : ℕ) → ℕ
old_number F zero i = i
old_number F (suc e) i = cond (F e) (old_number F e i) (old_number F e (skipping (count_below e F) i))

-- p with k edges, which had the numbers `old`.
abbrev pub choosing : Problem → (old : ℕ → ℕ) → (k : ℕ) → Problem
choosing p old k =
    record {
      vertices = p.vertices;
      edges = k;
      first = λ e. p.first (old e);
      second = λ e. p.second (old e);
      weight = λ e. p.weight (old e);
      usable = λ e. p.usable (old e);
      required = p.required;
    }
