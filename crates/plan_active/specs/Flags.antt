-- Active components as flags.
use Rattle.std.specs.Prelude.{ℕ, zero, suc, ◌≡◌, Bool, ◌||◌, not, cond, List, length, get_or, set, replicate, eqb}
use Rattle.std.specs.Bool.{xor}
use Rattle.base_finite.specs.Below.{counted, count_below, any_below, tabulate}
use Rattle.base_limits.specs.Limits.{max_vertices, max_duals}
use Rattle.base_buffer.specs.Store.{remade}
use Rattle.theory_graph.specs.Component.{merged}
use Rattle.theory_steiner.specs.Growth.{active}
use Rattle.survey_core.specs.Survey.{groups_alone, problem_of}
use Rattle.survey_groups.specs.Mate.{mate_of}

-- The flags after a vertex with this label, of a group with this summary (1: split).
unfoldable pub flagged : (flags : List ℕ) → (summary label : ℕ) → List ℕ
flagged flags summary label = cond (eqb summary 1) (set flags label 1) flags

-- 1 for each active component number, by the groups and the labels of the vertices.
unfoldable pub active_flags : (groups labels : List ℕ) → List ℕ
active_flags groups labels = tabulate max_duals (λ c. counted (active (problem_of (groups_alone groups)) (λ v. get_or labels v 0) c) 1)

-- Vertex v has a mate other than itself.
unfoldable pub has_mate : (mates : List ℕ) → (v : ℕ) → Bool
has_mate mates v = not (eqb (get_or mates v 0) v)

-- The vertices below n that pass the test, rising, in the first places of l; places behind them stay.
unfoldable pub gathered : (ℕ → Bool) → (n : ℕ) → List ℕ → List ℕ
gathered t zero l = l
gathered t (suc v) l = cond (t v) (set (gathered t v l) (count_below v t) v) (gathered t v l)

-- The mates of all vertices, and a list of those vertices that have one, with their number.
pub record MatesListed (groups mates members : List ℕ) (count : ℕ) : Type 0 where
  pub mates_are : mates ≡ tabulate max_vertices (mate_of groups)
  pub members_are : members ≡ gathered (has_mate mates) (length groups) (replicate max_vertices 0)
  pub count_is : count ≡ count_below (length groups) (has_mate mates)

-- The label is x or y.
unfoldable pub of_either : (x y label : ℕ) → Bool
of_either x y label = eqb label x || eqb label y

-- Of vertex v and its mate one is in component x or y, and the other in neither.
unfoldable pub apart_from_mate : (mates labels : List ℕ) → (x y v : ℕ) → Bool
apart_from_mate mates labels x y v = xor (of_either x y (get_or labels v 0)) (of_either x y (get_or labels (get_or mates v 0) 0))

-- The components of two vertices together hold one of these two, or of the first `count` listed vertices, without its mate, or the mate alone. For a true list
-- that is whether the component that they become is active (law `joined_active_law`).
unfoldable pub joined_active : (mates labels members : List ℕ) → (count first second : ℕ) → Bool
joined_active mates labels members count first second =
    let x = get_or labels first 0 in
    let y = get_or labels second 0 in
    apart_from_mate mates labels x y first
    || (apart_from_mate mates labels x y second || any_below count (λ k. apart_from_mate mates labels x y (get_or members k 0)))

-- The first n labels with z in place of x and of y.
unfoldable pub relabelled_first : (n x y z : ℕ) → List ℕ → List ℕ
relabelled_first n x y z labels = remade (λ v. merged x y z (λ l. l)) n labels

-- The flags after the components x and y have become z, which has this flag: no other changes (law `flags_merged`).
unfoldable pub merged_flags : (x y z flag : ℕ) → (flags : List ℕ) → List ℕ
merged_flags x y z flag flags = set (set (set flags x 0) y 0) z flag
